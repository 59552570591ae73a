-- Leads that others divide (specs/Leads), over plain variables.
--   first_here, first_next, first_end          the first divisor, by the first of the list
--   redundant_here, redundant_next, redundant_end     the first that another one divides
--   none_divides, none_where                   where there is no divisor, none divides, and the other way
--   redundant_in                               its place is one of the list
--   redundant_before, redundant_clear          before the first that another one divides, none does, and the other way
--   cut_found, cut_is                          the division rule goes by the leads
--   drop_is                                    so does the place of the next Drop
use Rattle.std.proofs.Common.{◌≡◌, ℕ, zero, suc, ◌+◌, ◌<◌, ◌≤◌, Bool, true, false, ◌&&◌, cond, is_some, List, [], ◌∷◌, map, drop, length, get_or, slice_get, Option, Some, None, refl, sym, ap, ap₂, subst, ◌∙◌, arith}
use Rattle.algebra.specs.FieldArithmetic.{FieldArithmetic}
use Rattle.algebra.specs.Scalars.{Scalars, field}
use Rattle.polynomials.specs.Terms.{Terms}
use Rattle.machines.specs.Cut.{lead_of, lead_number, divides, cut_by}
use Rattle.machines.specs.Tidying.{others, drop_from}
use Rattle.divide.specs.Cutting.{cutting_of}
use Rattle.reduced_basis.specs.Leads.{first_divisor, redundant_from}

module _ (may : ℕ → Bool) (k : ℕ) (e d : List ℕ) (ds rest : List (List ℕ))
    (is : ds ≡ d ∷ rest) where
  first_first : first_divisor may k ds e ≡ cond (may k && divides d e) (Some k)
      (first_divisor may (suc k) rest e)
  unfolding first_divisor
  first_first = ap (λ l. first_divisor may k l e) is

  pub first_here : (may k && divides d e) ≡ true → first_divisor may k ds e ≡ Some k
  first_here t = first_first ∙ ap (λ b. cond b (Some k) (first_divisor may (suc k) rest e)) t

  pub first_next : (may k && divides d e) ≡ false → first_divisor may k ds e ≡ first_divisor may
      (k + 1) rest e
  first_next t = first_first ∙ ap (λ b. cond b (Some k) (first_divisor may (suc k) rest e)) t
      ∙ ap (λ n. first_divisor may n rest e) (let q : suc k ≡ k + 1 = omega arith in q)

pub first_end : (may : ℕ → Bool) (k : ℕ) (e : List ℕ) (ds : List (List ℕ)) → ds ≡ []
    → first_divisor may k ds e ≡ None
unfolding first_divisor
first_end may k e ds is = ap (λ l. first_divisor may k l e) is

module _ (all : List (List ℕ)) (i : ℕ) (e : List ℕ) (ds rest : List (List ℕ))
    (is : ds ≡ e ∷ rest) where
  redundant_first : redundant_from all i ds ≡ cond (is_some (first_divisor (others i) 0 all e))
      (Some i) (redundant_from all (suc i) rest)
  unfolding redundant_from
  redundant_first = ap (redundant_from all i) is

  pub redundant_here : is_some (first_divisor (others i) 0 all e) ≡ true → redundant_from all i ds
      ≡ Some i
  redundant_here t = redundant_first ∙ ap (λ b. cond b (Some i) (redundant_from all (suc i) rest)) t

  pub redundant_next : is_some (first_divisor (others i) 0 all e) ≡ false → redundant_from all i ds
      ≡ redundant_from all (i + 1) rest
  redundant_next t = redundant_first ∙ ap (λ b. cond b (Some i) (redundant_from all (suc i) rest)) t
      ∙ ap (λ n. redundant_from all n rest) (let q : suc i ≡ i + 1 = omega arith in q)

pub redundant_end : (all : List (List ℕ)) (i : ℕ) (ds : List (List ℕ)) → ds ≡ []
    → redundant_from all i ds ≡ None
unfolding redundant_from
redundant_end all i ds is = ap (redundant_from all i) is

-- ---- where there is none
pub none_divides : (may : ℕ → Bool) (k : ℕ) (ds : List (List ℕ)) (e : List ℕ)
    → first_divisor may k ds e ≡ None → (j : ℕ) (d : List ℕ) → slice_get ds j ≡ Some d
    → may (k + j) ≡ true → divides d e ≡ false
unfolding first_divisor
none_divides may k [] e h j d at a = absurd (let z : ⊥ = cc in z)
none_divides may k (x ∷ ds) e h j d at a = go (may k) (divides x e) refl refl h j at a
    (none_divides may (suc k) ds e)
  where
    go : (b c : Bool) → may k ≡ b → divides x e ≡ c
        → cond (b && c) (Some k) (first_divisor may (suc k) ds e) ≡ None → (j : ℕ)
        → slice_get (x ∷ ds) j ≡ Some d → may (k + j) ≡ true
        → (first_divisor may (suc k) ds e ≡ None → (j : ℕ) (d : List ℕ) → slice_get ds j ≡ Some d
        → may (suc k + j) ≡ true → divides d e ≡ false) → divides d e ≡ false
    go true true m c h j at a ih = absurd (let z : ⊥ = cc in z)
    go true false m c h zero at a ih = let is : x ≡ d = cc in ap (λ y. divides y e) (sym is) ∙ c
    go true false m c h (suc j) at a ih =
        ih h j d at (ap may (let q : suc k + j ≡ k + suc j = omega arith in q) ∙ a)
    go false c m n h zero at a ih = absurd (let q : k + 0 ≡ k = omega arith in
        let t : may k ≡ true = ap may (sym q) ∙ a in let z : ⊥ = cc in z)
    go false c m n h (suc j) at a ih =
        ih h j d at (ap may (let q : suc k + j ≡ k + suc j = omega arith in q) ∙ a)

pub none_where : (may : ℕ → Bool) (k : ℕ) (ds : List (List ℕ)) (e : List ℕ)
    → ((j : ℕ) (d : List ℕ) → slice_get ds j ≡ Some d → may (k + j) ≡ true → divides d e ≡ false)
    → first_divisor may k ds e ≡ None
unfolding first_divisor
none_where may k [] e h = refl
none_where may k (x ∷ ds) e h =
    go (may k) refl (none_where may (suc k) ds e (λ j d at a.
    h (suc j) d at (ap may (let q : k + suc j ≡ suc k + j = omega arith in q) ∙ a)))
  where
    go : (b : Bool) → may k ≡ b → first_divisor may (suc k) ds e ≡ None
        → cond (b && divides x e) (Some k) (first_divisor may (suc k) ds e) ≡ None
    go true m ih = ap (λ c. cond c (Some k) (first_divisor may (suc k) ds e))
        (h zero x refl (ap may (let q : k + 0 ≡ k = omega arith in q) ∙ m)) ∙ ih
    go false m ih = ih

pub none_of_test : {X : Type 0} (o : Option X) → is_some o ≡ false → o ≡ None
none_of_test None h = refl
none_of_test (Some x) h = absurd (let z : ⊥ = cc in z)

pub redundant_before : (all : List (List ℕ)) (i : ℕ) (rest : List (List ℕ)) (k : ℕ)
    → redundant_from all i rest ≡ Some k → (j : ℕ) (e : List ℕ) → i + j < k
    → slice_get rest j ≡ Some e → first_divisor (others (i + j)) 0 all e ≡ None
unfolding redundant_from
redundant_before all i [] k h j e l at = absurd (let z : ⊥ = cc in z)
redundant_before all i (x ∷ rest) k h j e l at = go (is_some (first_divisor (others i) 0 all x))
    refl h j l at (redundant_before all (suc i) rest k)
  where
    go : (b : Bool) → is_some (first_divisor (others i) 0 all x) ≡ b
        → cond b (Some i) (redundant_from all (suc i) rest) ≡ Some k → (j : ℕ) → i + j < k
        → slice_get (x ∷ rest) j ≡ Some e
        → (redundant_from all (suc i) rest ≡ Some k → (j : ℕ) (e : List ℕ) → suc i + j < k
        → slice_get rest j ≡ Some e → first_divisor (others (suc i + j)) 0 all e ≡ None)
        → first_divisor (others (i + j)) 0 all e ≡ None
    go true b h j l at ih = absurd (let is : i ≡ k = cc in omega (arith, is, l))
    go false b h zero l at ih = let is : x ≡ e = cc in ap₂ (λ n y. first_divisor (others n) 0 all y)
        (let q : i + 0 ≡ i = omega arith in q) (sym is) ∙ none_of_test _ b
    go false b h (suc j) l at ih = ap (λ n. first_divisor (others n) 0 all e) (let q : i + suc j
        ≡ suc i + j = omega arith in q) ∙ ih h j e (omega (arith, l)) at

pub redundant_clear : (all : List (List ℕ)) (i : ℕ) (rest : List (List ℕ)) (n : ℕ) → n ≤ length rest
    → ((j : ℕ) (e : List ℕ) → j < n → slice_get rest j ≡ Some e
    → first_divisor (others (i + j)) 0 all e ≡ None)
    → redundant_from all i rest ≡ redundant_from all (i + n) (drop n rest)
unfolding redundant_from
redundant_clear all i rest zero l h = ap (λ n. redundant_from all n rest) (let q : i ≡ i + 0 =
    omega arith in q)
redundant_clear all i [] (suc n) l h = absurd (omega arith)
redundant_clear all i (x ∷ rest) (suc n) l h =
    let here : first_divisor (others i) 0 all x ≡ None = ap (λ m. first_divisor (others m) 0 all x)
    (let q : i ≡ i + 0 = omega arith in q) ∙ h zero x (omega arith) refl in
    ap (λ (o : Option ℕ). cond (is_some o) (Some i) (redundant_from all (suc i) rest)) here
    ∙ redundant_clear all (suc i) rest n (omega arith) (λ j e k at.
    ap (λ m. first_divisor (others m) 0 all e) (let q : suc i + j ≡ i + suc j = omega arith in
    q) ∙ h (suc j) e (omega arith) at)
    ∙ ap (λ m. redundant_from all m (drop n rest)) (let q : suc i + n ≡ i + suc n = omega arith in
    q)

pub redundant_in : (all : List (List ℕ)) (i : ℕ) (rest : List (List ℕ)) (k : ℕ)
    → redundant_from all i rest ≡ Some k → k < i + length rest
unfolding redundant_from
redundant_in all i [] k h = absurd (let z : ⊥ = cc in z)
redundant_in all i (x ∷ rest) k h = go (is_some (first_divisor (others i) 0 all x)) h
    (redundant_in all (suc i) rest k)
  where
    go : (b : Bool) → cond b (Some i) (redundant_from all (suc i) rest) ≡ Some k
        → (redundant_from all (suc i) rest ≡ Some k → k < suc i + length rest)
        → k < i + length (x ∷ rest)
    go true h ih = let is : i ≡ k = cc in omega (arith, is)
    go false h ih = let l = ih h in omega (arith, l)

-- ---- the division rule goes by the leads
module _ (S : Scalars) where
  abbrev F : FieldArithmetic S.Elem
  F = field S

  pub record Located (may : ℕ → Bool) (k : ℕ) (gs : List (Terms S.Elem)) (t : List ℕ × S.Elem)
      (j : ℕ) : Type 0 where
    pub after : ℕ
    pub place : j ≡ k + after
    pub element_in : after < length gs
    pub divided : divides (lead_of (get_or gs after [])) t.0 ≡ true
    pub is : cut_by F may k gs t ≡ Some (cutting_of S j t (get_or gs after []))

  pub cut_found : (may : ℕ → Bool) (k : ℕ) (gs : List (Terms S.Elem)) (t : List ℕ × S.Elem) (j : ℕ)
      → first_divisor may k (map lead_of gs) t.0 ≡ Some j → Located may k gs t j
  unfolding first_divisor cut_by
  cut_found may k [] t j h = absurd (let z : ⊥ = cc in z)
  cut_found may k (g ∷ gs) t j h = go (may k) (divides (lead_of g) t.0) refl refl h
      (cut_found may (suc k) gs t j)
    where
      here : may k ≡ true → divides (lead_of g) t.0 ≡ true → k ≡ j → Located may k (g ∷ gs) t j
      here m d is = subst (Located may k (g ∷ gs) t) is (record {
        after = zero;
        place = omega arith;
        element_in = omega arith;
        divided = d;
        is =
            ap₂ (λ a b. cond (a && b) (Some (cutting_of S k t g)) (cut_by F may (suc k) gs t)) m
            d;
      })

      later : (may k && divides (lead_of g) t.0) ≡ false → Located may (suc k) gs t j
          → Located may k (g ∷ gs) t j
      later m l = record {
        after = suc l.after;
        place = l.place ∙ omega arith;
        element_in = let q = l.element_in in omega (arith, q);
        divided = l.divided;
        is = ap (λ a. cond a (Some (cutting_of S k t g)) (cut_by F may (suc k) gs t)) m ∙ l.is;
      }

      go : (b c : Bool) → may k ≡ b → divides (lead_of g) t.0 ≡ c
          → cond (b && c) (Some k) (first_divisor may (suc k) (map lead_of gs) t.0) ≡ Some j
          → (first_divisor may (suc k) (map lead_of gs) t.0 ≡ Some j → Located may (suc k) gs t j)
          → Located may k (g ∷ gs) t j
      go true true m d h ih = here m d cc
      go true false m d h ih = later (ap₂ (λ a b. a && b) m d) (ih h)
      go false c m d h ih = later (ap (λ a. a && divides (lead_of g) t.0) m) (ih h)

  pub cut_is : (may : ℕ → Bool) (k : ℕ) (gs : List (Terms S.Elem)) (t : List ℕ × S.Elem)
      → is_some (cut_by F may k gs t) ≡ is_some (first_divisor may k (map lead_of gs) t.0)
  unfolding first_divisor cut_by
  cut_is may k [] t = refl
  cut_is may k (g ∷ gs) t = go (may k && divides (lead_of g) t.0) (cut_is may (suc k) gs t)
    where
      go : (b : Bool) → is_some (cut_by F may (suc k) gs t)
          ≡ is_some (first_divisor may (suc k) (map lead_of gs) t.0)
          → is_some (cond b (Some (cutting_of S k t g)) (cut_by F may (suc k) gs t))
          ≡ is_some (cond b (Some k) (first_divisor may (suc k) (map lead_of gs) t.0))
      go true ih = refl
      go false ih = ih

  pub cut_none : (may : ℕ → Bool) (gs : List (Terms S.Elem)) (t : List ℕ × S.Elem)
      → first_divisor may 0 (map lead_of gs) t.0 ≡ None → cut_by F may 0 gs t ≡ None
  cut_none may gs t h = none_of_test (cut_by F may 0 gs t) (cut_is may 0 gs t ∙ ap is_some h)

  pub drop_is : (gs : List (Terms S.Elem)) (i : ℕ) (rest : List (Terms S.Elem))
      → drop_from F gs i rest ≡ redundant_from (map lead_of gs) i (map lead_of rest)
  unfolding drop_from redundant_from
  drop_is gs i [] = refl
  drop_is gs i (g ∷ rest) = ap₂ (λ b (o : Option ℕ). cond b (Some i) o)
      (cut_is (others i) 0 gs (lead_of g, lead_number F g)) (drop_is gs (suc i) rest)
