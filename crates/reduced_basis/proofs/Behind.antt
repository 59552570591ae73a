-- Terms behind leads (specs/Tails), over plain variables.
--   term_found, term_end               the first term that another lead divides, of a list of terms
--   tail_here, tail_next, tail_end     the first cutting of a tail, by one element
--   tail_seen, behind_at               the terms behind the lead
--   tail_long                          they and the leads have as many exponents
--   tail_at                            where the first cutting is
--   tail_before, tail_clear            before the first cutting there is none, and the other way
--   clean_kept                         and none comes where that element is replaced by one with the same lead
use Rattle.std.proofs.Common.{◌≡◌, ℕ, zero, suc, ◌+◌, ◌<◌, ◌≤◌, Bool, true, is_some, List, [], ◌∷◌, map, drop, length, get_or, slice_get, set, Option, Some, None, refl, sym, ap, ap₂, subst, ◌∙◌, arith, ◌⊎◌, inl, inr}
use Rattle.std.specs.List.{All}
use Rattle.std.proofs.Math.ListN.{get_or-map}
use Rattle.std.proofs.lemmas.List.{length-map, length-set, drop_more, drop_all}
use Rattle.std.proofs.lemmas.List.Elements.{All-drop}
use Rattle.algebra.specs.FieldArithmetic.{FieldArithmetic}
use Rattle.algebra.specs.Scalars.{Scalars, field}
use Rattle.polynomials.specs.Polynomial.{Arity}
use Rattle.polynomials.specs.Terms.{Terms}
use Rattle.machines.specs.Cut.{Cutting, lead_of, tail_of, divides, cut_by, find_cut, first_of}
use Rattle.machines.specs.Tidying.{others, TailCut, tail_or, tail_from}
use Rattle.machines.proofs.Places.{get_set}
use Rattle.divide.specs.Cutting.{term_at, cutting_of}
use Rattle.divide.proofs.Finding.{find_first}
use Rattle.divide.proofs.OneCut.{term_long}
use Rattle.reduced_basis.specs.Leads.{first_divisor}
use Rattle.reduced_basis.specs.Tails.{FoundBut, TailAt}
use Rattle.reduced_basis.proofs.Divisors.{cut_found, cut_is, none_of_test}

pub tail_seen : {X A : Type 0} (f : X → List ℕ × A) (xs : List X)
    → map f (drop 1 xs) ≡ tail_of (map f xs)
unfolding tail_of
tail_seen f [] = refl
tail_seen f (x ∷ xs) = refl

pub tail_long : {X A : Type 0} (f : X → List ℕ × A) (m : ℕ) (xs ys : List X) (ls : List (List ℕ))
    → ys ≡ drop 1 xs → Arity m (map f xs) → All (λ d. length d ≡ m) ls
    → All (λ x. All (λ d. length d ≡ length (f x).0) ls) ys
tail_long {X} f m xs ys ls e a long = subst (All (λ x. All (λ d. length d ≡ length (f x).0) ls))
    (sym e) (All-drop (λ x. All (λ d. length d ≡ length (f x).0) ls) 1 xs each)
  where
    each : (k : ℕ) (x : X) → k < length xs → (j : ℕ) (d : List ℕ) → j < length ls
        → length (get_or ls j d) ≡ length (f (get_or xs k x)).0
    each k x l j d i =
        let within : k < length (map f xs) = subst (λ n. k < n) (sym (length-map xs f)) l in
        long j d i ∙ sym (term_long m (map f xs) k (f x) within a)
        ∙ ap (λ t. length t.0) (get_or-map f xs k x)

module _ (S : Scalars) where
  abbrev F : FieldArithmetic S.Elem
  F = field S

  -- ---- one element
  pub term_found : (at : ℕ) (ls : List (List ℕ)) (gs : List (Terms S.Elem)) (p : Terms S.Elem)
      (i k : ℕ) → ls ≡ map lead_of gs → i < length p
      → first_divisor (others at) 0 ls (term_at S p i).0 ≡ Some k
      → find_cut F (others at) gs p ≡ find_cut F (others at) gs (drop i p) → FoundBut S at gs p i k
  term_found at ls gs p i k e l h reached =
      let c = cut_found S (others at) 0 gs (term_at S p i) k
      (ap (λ z. first_divisor (others at) 0 z (term_at S p i).0) (sym e) ∙ h) in
      let same : c.after ≡ k = let q = c.place in omega (arith, q) in
      record {
        term_in = l;
        element_in = subst (λ n. n < length gs) same c.element_in;
        divided = subst (λ n. divides (lead_of (get_or gs n [])) (term_at S p i).0 ≡ true) same
            c.divided;
        is = reached ∙ find_first S (others at) gs p i _ l c.is
            ∙ ap (λ n. Some (cutting_of S k (term_at S p i) (get_or gs n []))) same;
      }

  -- ---- along the elements
  module _ (gs : List (Terms S.Elem)) where
    from_at : (i : ℕ) (rest : List (Terms S.Elem)) (g : Terms S.Elem) (later : List (Terms S.Elem))
        → rest ≡ g ∷ later → tail_from F gs i rest ≡ tail_or F i g
        (find_cut F (others i) gs (tail_of g)) (tail_from F gs (suc i) later)
    unfolding tail_from
    from_at i rest g later e = ap (tail_from F gs i) e

    pub tail_here : (i : ℕ) (c : Cutting S.Elem) → i < length gs
        → find_cut F (others i) gs (tail_of (get_or gs i [])) ≡ Some c
        → tail_from F gs i (drop i gs) ≡ Some (record {
          element = i;
          from = get_or gs i [];
          cutting = c;
        })
    unfolding tail_or
    tail_here i c l h = from_at i (drop i gs) (get_or gs i []) (drop (i + 1) gs)
        (drop_more gs i [] l)
        ∙ ap (λ o. tail_or F i (get_or gs i []) o (tail_from F gs (suc i) (drop (i + 1) gs))) h

    pub tail_next : (i : ℕ) → i < length gs → find_cut F (others i) gs (tail_of (get_or gs i []))
        ≡ None → tail_from F gs i (drop i gs) ≡ tail_from F gs (i + 1) (drop (i + 1) gs)
    unfolding tail_or
    tail_next i l h = from_at i (drop i gs) (get_or gs i []) (drop (i + 1) gs) (drop_more gs i [] l)
        ∙ ap (λ o. tail_or F i (get_or gs i []) o (tail_from F gs (suc i) (drop (i + 1) gs))) h
        ∙ ap (λ n. tail_from F gs n (drop (i + 1) gs)) (let q : suc i ≡ i + 1 = omega arith in q)

    pub tail_end : (i : ℕ) → length gs ≤ i → tail_from F gs i (drop i gs) ≡ None
    unfolding tail_from
    tail_end i l = ap (tail_from F gs i) (drop_all i gs l)

    -- ---- the place of the first cutting
    length-tail : (p : Terms S.Elem) (i : ℕ) → i < length (tail_of p) → i + 1 < length p
    unfolding tail_of
    length-tail [] i l = absurd (omega arith)
    length-tail (t ∷ p) i l = omega (arith, l)

    behind_at : (p : Terms S.Elem) (i : ℕ) → i < length (tail_of p) → term_at S (tail_of p) i
        ≡ term_at S p (i + 1)
    unfolding tail_of
    behind_at [] i l = absurd (omega arith)
    behind_at (t ∷ p) i l = ap (λ n. term_at S (t ∷ p) n) (let q : suc i ≡ i + 1 = omega arith in q)

    pub tail_at : (from i j k : ℕ) (q : Terms S.Elem) → q ≡ tail_of (get_or gs i []) → i < length gs
        → FoundBut S i gs q j k → tail_from F gs from (drop from gs) ≡ tail_from F gs i (drop i gs)
        → TailAt S gs from i (j + 1) k
    tail_at from i j k q e l f reached =
        let p = get_or gs i [] in
        let g = subst (λ x. FoundBut S i gs x j k) e f in
        let term = behind_at p j g.term_in in
        record {
          element_in = l;
          term_in = length-tail p j g.term_in;
          behind = omega arith;
          divisor_in = g.element_in;
          divided = ap (λ (t : List ℕ × S.Elem). divides (lead_of (get_or gs k [])) t.0) (sym term)
              ∙ g.divided;
          is = reached ∙ tail_here i _ l g.is
              ∙ ap (λ t.
              Some (record {
                element = i;
                from = p;
                cutting = cutting_of S k t (get_or gs k []);
              })) term;
        }

  -- ---- before the first cutting
  pub tail_before : (gs : List (Terms S.Elem)) (i : ℕ) (rest : List (Terms S.Elem))
      (c : TailCut S.Elem) → tail_from F gs i rest ≡ Some c → (j : ℕ) (g : Terms S.Elem)
      → i + j < c.element → slice_get rest j ≡ Some g → find_cut F (others (i + j)) gs (tail_of g)
      ≡ None
  unfolding tail_from tail_or
  tail_before gs i [] c h j g l at = absurd (let z : ⊥ = cc in z)
  tail_before gs i (x ∷ rest) c h j g l at = go (find_cut F (others i) gs (tail_of x)) refl h j l at
      (tail_before gs (suc i) rest c)
    where
      here : (d : Cutting S.Elem) → record { element = i; from = x; cutting = d } ≡ c
          → i ≡ c.element
      here d is = ap (λ (y : TailCut S.Elem). y.element) is

      go : (o : Option (Cutting S.Elem)) → find_cut F (others i) gs (tail_of x) ≡ o
          → tail_or F i x o (tail_from F gs (suc i) rest) ≡ Some c → (j : ℕ) → i + j < c.element
          → slice_get (x ∷ rest) j ≡ Some g
          → (tail_from F gs (suc i) rest ≡ Some c → (j : ℕ) (g : Terms S.Elem)
          → suc i + j < c.element → slice_get rest j ≡ Some g
          → find_cut F (others (suc i + j)) gs (tail_of g) ≡ None)
          → find_cut F (others (i + j)) gs (tail_of g) ≡ None
      go (Some d) e h j l at ih = absurd (let q = here d cc in omega (arith, q, l))
      go None e h zero l at ih = let is : x ≡ g = cc in
          ap₂ (λ n (y : Terms S.Elem). find_cut F (others n) gs (tail_of y)) (let q : i + 0 ≡ i =
          omega arith in q) (sym is) ∙ e
      go None e h (suc j) l at ih = ap (λ n. find_cut F (others n) gs (tail_of g))
          (let q : i + suc j ≡ suc i + j = omega arith in q) ∙ ih h j g (omega (arith, l)) at

  pub tail_clear : (gs : List (Terms S.Elem)) (i : ℕ) (rest : List (Terms S.Elem)) (n : ℕ)
      → n ≤ length rest → ((j : ℕ) (g : Terms S.Elem) → j < n → slice_get rest j ≡ Some g
      → find_cut F (others (i + j)) gs (tail_of g) ≡ None)
      → tail_from F gs i rest ≡ tail_from F gs (i + n) (drop n rest)
  unfolding tail_from tail_or
  tail_clear gs i rest zero l h = ap (λ n. tail_from F gs n rest) (let q : i ≡ i + 0 =
      omega arith in q)
  tail_clear gs i [] (suc n) l h = absurd (omega arith)
  tail_clear gs i (x ∷ rest) (suc n) l h =
      ap (λ o. tail_or F i x o (tail_from F gs (suc i) rest))
      (ap (λ m. find_cut F (others m) gs (tail_of x)) (let q : i ≡ i + 0 = omega arith in q)
      ∙ h zero x (omega arith) refl)
      ∙ tail_clear gs (suc i) rest n (omega arith) (λ j g k at.
      ap (λ m. find_cut F (others m) gs (tail_of g)) (let q : suc i + j ≡ i + suc j =
      omega arith in q) ∙ h (suc j) g (omega arith) at)
      ∙ ap (λ m. tail_from F gs m (drop n rest)) (let q : suc i + n ≡ i + suc n = omega arith in q)

  -- a list of terms without a cutting has none by elements with the same leads
  none_along : (may : ℕ → Bool) (gs hs : List (Terms S.Elem)) → map lead_of gs ≡ map lead_of hs
      → (p : Terms S.Elem) → find_cut F may gs p ≡ None → find_cut F may hs p ≡ None
  unfolding find_cut
  none_along may gs hs e [] h = refl
  none_along may gs hs e (t ∷ p) h = go (cut_by F may 0 gs t) refl h (none_along may gs hs e p)
    where
      go : (o : Option (Cutting S.Elem)) → cut_by F may 0 gs t ≡ o
          → first_of o (find_cut F may gs p) ≡ None → (find_cut F may gs p ≡ None
          → find_cut F may hs p ≡ None) → first_of (cut_by F may 0 hs t) (find_cut F may hs p)
          ≡ None
      go (Some c) is h ih = absurd (let z : ⊥ = cc in z)
      go None is h ih =
          let none : cut_by F may 0 hs t ≡ None = none_of_test (cut_by F may 0 hs t)
          (cut_is S may 0 hs t ∙ ap (λ ls. is_some (first_divisor may 0 ls t.0)) (sym e)
          ∙ sym (cut_is S may 0 gs t) ∙ ap is_some is) in
          ap (λ o. first_of o (find_cut F may hs p)) none ∙ ih h

  pub clean_kept : (gs hs : List (Terms S.Elem)) (c : TailCut S.Elem) (y : Terms S.Elem)
      → tail_from F gs 0 gs ≡ Some c → c.element < length gs → hs ≡ set gs c.element y
      → map lead_of gs ≡ map lead_of hs
      → tail_from F hs 0 hs ≡ tail_from F hs c.element (drop c.element hs)
  clean_kept gs hs c y h l e leads =
      subst (λ n. tail_from F hs 0 hs ≡ tail_from F hs n (drop c.element hs)) (let q : 0 + c.element
      ≡ c.element = omega arith in q)
      (tail_clear hs 0 hs c.element (let s = ap length e in let t = length-set gs c.element y in
      omega (arith, s, t, l)) clear)
    where
      clear : (j : ℕ) (g : Terms S.Elem) → j < c.element → slice_get hs j ≡ Some g
          → find_cut F (others (0 + j)) hs (tail_of g) ≡ None
      clear j g b at = none_along (others (0 + j)) gs hs leads (tail_of g)
          (tail_before gs 0 gs c h j g (omega arith)
          (old (get_set gs c.element j y g (ap (λ z. slice_get z j) (sym e) ∙ at))))
        where
          old : ((j ≡ c.element) × (g ≡ y)) ⊎ (slice_get gs j ≡ Some g) → slice_get gs j ≡ Some g
          old (inl z) = absurd (let q = z.0 in omega (arith, q, b))
          old (inr z) = z
