-- The elements, one after the other in ascending order of their leads.
--   IsElementOf q es ls c g     an element of a column before c where no row leads
--   InOrder gs                  each lead is below all later ones, and divides none of them
--   IsFoundTo q es ls c gs      of each column before c a row leads there or a lead of gs divides the monomial
--   found_first, found_no, found_push      at the first column, and past one
--   found_tidy, found_standard             at the end
use Rattle.std.proofs.Common.{◌≡◌, ◌≢◌, ◌⊎◌, inl, inr, ℕ, ◌+◌, ◌<◌, ◌≤◌, ℤ, pos, Bool, true, false, true≢false, ◌||◌, List, [], ◌∷◌, ◌++◌, map, length, sum, get_or, refl, sym, ap, subst, ◌∙◌, arith, Less}
use Rattle.std.specs.List.{AllZip}
use Rattle.std.proofs.lemmas.Bool.{cases_lt}
use Rattle.algebra.specs.Each.{Each}
use Rattle.algebra.specs.In.{In}
use Rattle.algebra.specs.Fraction.{Fraction, ℚ, rationals}
use Rattle.algebra.proofs.Each.{each_weaker, each-append}
use Rattle.algebra.proofs.In.{each_in, in_place, in_get, in_left, in_right, in_map, map-in}
use Rattle.polynomials.specs.Exponent.{over}
use Rattle.polynomials.specs.Terms.{Terms}
use Rattle.polynomials.specs.Order.{compare, grevlex}
use Rattle.polynomials.proofs.Monomials.{length-over}
use Rattle.polynomials.proofs.Order.{compare_least}
use Rattle.polynomials.proofs.Orders.{grevlex_order}
use Rattle.machines.specs.Cut.{lead_of, lead_number, divides}
use Rattle.machines.specs.Reduced.{Ascends, AllAbove}
use Rattle.machines.proofs.Tidied.{divides-itself}
use Rattle.machines.proofs.Elements.{over-plus}
use Rattle.closures.specs.Modulo.{IsMultiple}
use Rattle.closures.specs.Monomials.{AreAscending, AreMonomialsUpTo}
use Rattle.closures.specs.UpTo.{AreTidy, HasStandard}
use Rattle.residue_rows.specs.Modulus.{modulus}
use Rattle.residue_rows.specs.EchelonForm.{Led, leads_in, IsEchelonOf}
use Rattle.residue_rows.proofs.EchelonForms.{form_own}
use Rattle.residue_rows.specs.Elements.{IsValueRow, standard_in}
use Rattle.residue_rows.specs.ElementParts as parts
use Rattle.residue_rows.specs.ElementParts.{Share, IsTermAt, IsElementTo, has_divisor}
use Rattle.residue_rows.proofs.Shares.{ascend_at, arity_at, element_end, element_polynomial}
use Rattle.residue_rows.proofs.Clean.{no_standard_multiple}

pub not_true : (b : Bool) → (b ≡ true → ⊥) → b ≡ false
not_true true h = absurd (h refl)
not_true false h = refl

-- ---- divisors
pub record IsDivided (gs : List (Terms Fraction)) (e : List ℕ) : Type 0 where
  pub by : Terms Fraction
  pub within : In by gs
  pub divides_it : divides (lead_of by) e ≡ true

find_divisor : (gs : List (Terms Fraction)) (e : List ℕ)
    → has_divisor (map lead_of gs) e ≡ true → IsDivided gs e
find_divisor [] e h = absurd (true≢false (sym h))
find_divisor (g ∷ gs) e h = go (divides (lead_of g) e) refl h (find_divisor gs e)
  where
    go : (b : Bool) → divides (lead_of g) e ≡ b
        → (b || has_divisor (map lead_of gs) e) ≡ true
        → (has_divisor (map lead_of gs) e ≡ true → IsDivided gs e) → IsDivided (g ∷ gs) e
    go true is k f = record { by = g; within = inl refl; divides_it = is }
    go false is k f =
        let r = f k in record { by = r.by; within = inr r.within; divides_it = r.divides_it }

pub none_divides : (gs : List (Terms Fraction)) (e : List ℕ)
    → has_divisor (map lead_of gs) e ≡ false → Each (λ g. divides (lead_of g) e ≡ false) gs
unfolding Each
none_divides [] e h = tt
none_divides (g ∷ gs) e h = go (divides (lead_of g) e) refl h (none_divides gs e)
  where
    go : (b : Bool) → divides (lead_of g) e ≡ b
        → (b || has_divisor (map lead_of gs) e) ≡ false
        → (has_divisor (map lead_of gs) e ≡ false → Each (λ g. divides (lead_of g) e ≡ false) gs)
        → Each (λ g. divides (lead_of g) e ≡ false) (g ∷ gs)
    go true is k f = absurd (true≢false k)
    go false is k f = (is, f k)

-- ---- order
abbrev IsBefore : Terms Fraction → Terms Fraction → Type 0
IsBefore h g =
    (compare grevlex (lead_of h) (lead_of g) ≡ Less) × (divides (lead_of h) (lead_of g) ≡ false)

unfoldable pub InOrder : List (Terms Fraction) → Type 0
InOrder [] = Unit {0}
InOrder (h ∷ gs) = Each (IsBefore h) gs × InOrder gs

order_push : (gs : List (Terms Fraction)) (g : Terms Fraction) → InOrder gs
    → Each (λ h. IsBefore h g) gs → InOrder (gs ++ g ∷ [])
unfolding InOrder Each
order_push [] g o b = (tt, tt)
order_push (h ∷ gs) g o b =
    (each-append (IsBefore h) gs (g ∷ []) o.0 (b.0, tt), order_push gs g o.1 b.1)

ordered : (gs : List (Terms Fraction)) → InOrder gs → (h g : Terms Fraction) → In h gs
    → In g gs → (h ≡ g) ⊎ (IsBefore h g ⊎ IsBefore g h)
unfolding InOrder
ordered [] o h g i j = absurd i
ordered (x ∷ gs) o h g (inl i) (inl j) = inl (i ∙ sym j)
ordered (x ∷ gs) o h g (inl i) (inr j) =
    inr (inl (subst (λ y. IsBefore y g) (sym i) (each_in (IsBefore x) gs g o.0 j)))
ordered (x ∷ gs) o h g (inr i) (inl j) =
    inr (inr (subst (λ y. IsBefore y h) (sym j) (each_in (IsBefore x) gs h o.0 i)))
ordered (x ∷ gs) o h g (inr i) (inr j) = ordered gs o.1 h g i j

all_above : (h : Terms Fraction) (gs : List (Terms Fraction)) → Each (IsBefore h) gs
    → AllAbove grevlex (lead_of h) gs
unfolding Each AllAbove
all_above h [] b = tt
all_above h (g ∷ gs) b = (b.0.0, all_above h gs b.1)

order_ascends : (gs : List (Terms Fraction)) → InOrder gs → Ascends grevlex gs
unfolding InOrder Ascends
order_ascends [] o = tt
order_ascends (h ∷ gs) o = (all_above h gs o.0, order_ascends gs o.1)

module _ (q : ℤ) (es : List (List ℕ)) (ls : List Led) where
  abbrev pub IsElementOf : ℕ → Terms Fraction → Type 0
  IsElementOf c g = parts.IsElementOf q es ls c g

  pub record IsFoundTo (c : ℕ) (gs : List (Terms Fraction)) : Type 0 where
    pub elements : Each (IsElementOf c) gs
    pub order : InOrder gs
    pub covers : (k : ℕ) → k < c → In k (leads_in ls) ⊎ IsDivided gs (get_or es k [])

  pub lead_is : {c : ℕ} (g : Terms Fraction) (e : IsElementOf c g)
      → lead_of g ≡ get_or es e.column []
  unfolding lead_of
  lead_is g e = let i = e.is in ap lead_of i.is

  pub element_some : (c : ℕ) (g : Terms Fraction) → IsElementOf c g → g ≢ []
  element_some c g e n = let i = e.is in empty (sym n ∙ i.is)
    where
      empty : {x : List ℕ × Fraction} {r : Terms Fraction} → [] ≡ x ∷ r → ⊥
      empty d = cc

  pub found_first : IsFoundTo 0 []
  unfolding Each InOrder
  found_first = record { elements = tt; order = tt; covers = λ k l. absurd (omega (arith, l)) }

  further : (c : ℕ) (gs : List (Terms Fraction)) → Each (IsElementOf c) gs
      → Each (IsElementOf (c + 1)) gs
  further c gs h =
      each_weaker (IsElementOf c) (IsElementOf (c + 1))
      (λ g e. record { column = e.column; low = omega (arith, e.low); is = e.is }) gs h

  covered : (c : ℕ) (gs hs : List (Terms Fraction)) → ((g : Terms Fraction) → In g gs → In g hs)
      → ((k : ℕ) → k < c → In k (leads_in ls) ⊎ IsDivided gs (get_or es k []))
      → In c (leads_in ls) ⊎ IsDivided hs (get_or es c [])
      → (k : ℕ) → k < c + 1 → In k (leads_in ls) ⊎ IsDivided hs (get_or es k [])
  covered c gs hs f h n k l = go (cases_lt k c)
    where
      more : In k (leads_in ls) ⊎ IsDivided gs (get_or es k [])
          → In k (leads_in ls) ⊎ IsDivided hs (get_or es k [])
      more (inl i) = inl i
      more (inr d) = inr (record { by = d.by; within = f d.by d.within; divides_it = d.divides_it })

      go : (k < c) ⊎ (c ≤ k) → In k (leads_in ls) ⊎ IsDivided hs (get_or es k [])
      go (inl m) = more (h k m)
      go (inr m) =
          subst (λ j. In j (leads_in ls) ⊎ IsDivided hs (get_or es j [])) (omega (arith, l, m)) n

  pub found_no : (c : ℕ) {gs : List (Terms Fraction)} → IsFoundTo c gs
      → In c (leads_in ls) ⊎ (has_divisor (map lead_of gs) (get_or es c []) ≡ true)
      → IsFoundTo (c + 1) gs
  found_no c {gs = gs} h n = record {
    elements = further c gs h.elements;
    order = h.order;
    covers = covered c gs gs (λ g i. i) h.covers (go n);
  }
    where
      go : In c (leads_in ls) ⊎ (has_divisor (map lead_of gs) (get_or es c []) ≡ true)
          → In c (leads_in ls) ⊎ IsDivided gs (get_or es c [])
      go (inl i) = inl i
      go (inr d) = inr (find_divisor gs (get_or es c []) d)

  module _ (ascend : AreAscending es) (c : ℕ) (low : c < length es) {gs : List (Terms Fraction)}
      (h : IsFoundTo c gs) {g : Terms Fraction} (new : has_divisor (map lead_of gs) (get_or es c [])
      ≡ false) (is : IsElementTo q es ls c 0 g) where
    lead_new : lead_of g ≡ get_or es c []
    unfolding lead_of
    lead_new = ap lead_of is.is

    all_before : (hs : List (Terms Fraction)) → Each (IsElementOf c) hs
        → Each (λ h. divides (lead_of h) (get_or es c []) ≡ false) hs
        → Each (λ h. IsBefore h g) hs
    unfolding Each
    all_before [] i n = tt
    all_before (h ∷ hs) i n = (
      (
        subst (λ e. compare grevlex e (lead_of g) ≡ Less) (sym (lead_is h i.0))
            (subst (λ e. compare grevlex (get_or es (column_of i.0) []) e ≡ Less) (sym lead_new)
            (ascend_at es ascend (column_of i.0) c (low_of i.0) low)),
        subst (λ e. divides (lead_of h) e ≡ false) (sym lead_new) n.0,
      ),
      all_before hs i.1 n.1,
    )
      where
        column_of : {h : Terms Fraction} → IsElementOf c h → ℕ
        column_of e = e.column

        low_of : {h : Terms Fraction} (e : IsElementOf c h) → column_of e < c
        low_of e = e.low

    pub found_push : IsFoundTo (c + 1) (gs ++ g ∷ [])
    unfolding Each
    found_push = record {
      elements = each-append (IsElementOf (c + 1)) gs (g ∷ []) (further c gs h.elements)
          (record { column = c; low = omega arith; is = is }, tt);
      order = order_push gs g h.order
          (all_before gs h.elements (none_divides gs (get_or es c []) new));
      covers = covered c gs (gs ++ g ∷ []) (λ x i. in_left x gs (g ∷ []) i) h.covers
          (inr (record {
            by = g;
            within = in_right g gs (g ∷ []) (inl refl);
            divides_it = subst (λ e. divides e (get_or es c []) ≡ true) (sym lead_new)
                (divides-itself (get_or es c []));
          }));
    }

  -- ---- the end
  pub found_standard : (m d : ℕ) → AreMonomialsUpTo m d es → (gs : List (Terms Fraction))
      → IsFoundTo (length es) gs → HasStandard m d gs (standard_in es ls)
  found_standard m d are gs h = record {
    covers = λ e l s f.
        let (k, low, told) = in_place es [] e (are.covers e l s) in
        subst (λ x. In x (standard_in es ls)) told
        (go k (h.covers k low) (λ g i. subst (λ x. divides (lead_of g) x ≡ false) (sym told)
        (f g i)));
  }
    where
      go : (k : ℕ) → In k (leads_in ls) ⊎ IsDivided gs (get_or es k [])
          → ((g : Terms Fraction) → In g gs → divides (lead_of g) (get_or es k []) ≡ false)
          → In (get_or es k []) (standard_in es ls)
      go k (inl i) f = map-in (λ j. get_or es j []) (leads_in ls) k i
      go k (inr d) f = absurd (true≢false (sym d.divides_it ∙ f d.by d.within))

find_share : (es : List (List ℕ)) (ss : List Share) (rest : Terms Fraction)
    → AllZip (IsTermAt es) ss rest → (P : Share → Type 0) → Each P ss
    → (t : List ℕ × Fraction) → In t rest
    → (s : Share) × P s × (t.0 ≡ get_or es s.column [])
unfolding Each
find_share es [] [] h P p t i = absurd i
find_share es [] (u ∷ rest) h P p t i = absurd h
find_share es (s ∷ ss) [] h P p t i = absurd h
find_share es (s ∷ ss) (u ∷ rest) h P p t (inl e) =
    let k = h.0 in (s, p.0, ap (λ (x : List ℕ × Fraction). x.0) e ∙ k.monomial)
find_share es (s ∷ ss) (u ∷ rest) h P p t (inr i) = find_share es ss rest h.1 P p.1 t i

module _ (m d : ℕ) {es : List (List ℕ)} {ls : List Led} (are : AreMonomialsUpTo m d es)
    (none : IsMultiple (pos modulus) (pos 1) → ⊥) (given : List (List ℤ))
    (e : IsEchelonOf (pos modulus) (length es) given ls)
    (values : Each (IsValueRow (pos modulus) es) given) {gs : List (Terms Fraction)}
    (found : IsFoundTo (pos modulus) es ls (length es) gs) where
  element : (g : Terms Fraction) → In g gs → IsElementOf (pos modulus) es ls (length es) g
  element g i = each_in (IsElementOf (pos modulus) es ls (length es)) gs g found.elements i

  lead_at : (g : Terms Fraction) (i : In g gs)
      → (c : ℕ) × (c < length es) × (lead_of g ≡ get_or es c [])
  lead_at g i =
      let x = element g i in (x.column, x.low, lead_is (pos modulus) es ls g x)

  lead_arity : (g : Terms Fraction) → In g gs → length (lead_of g) ≡ m
  lead_arity g i =
      let (c, low, is) = lead_at g i in
      ap length is ∙ arity_at m es are.arities c low

  first_number : (g : Terms Fraction) → In g gs → lead_number rationals g ≡ ℚ.one
  unfolding lead_number
  first_number g i = let x = element g i in let y = x.is in ap (lead_number rationals) y.is

  undivided_lead : (g h : Terms Fraction) → In g gs → In h gs → (lead_of h ≡ lead_of g → ⊥)
      → divides (lead_of h) (lead_of g) ≡ false
  undivided_lead g h i j ne = go (ordered gs found.order h g j i)
    where
      go : (h ≡ g) ⊎ (IsBefore h g ⊎ IsBefore g h) → divides (lead_of h) (lead_of g) ≡ false
      go (inl s) = absurd (ne (ap lead_of s))
      go (inr (inl b)) = b.1
      go (inr (inr b)) =
          not_true _
          (λ t. let w = lead_arity h j ∙ sym (lead_arity g i) in
          compare_least grevlex grevlex_order (over (lead_of g) (lead_of h)) (lead_of h)
          (length-over (lead_of g) (lead_of h) (sym w) ∙ sym w)
          (subst (λ x. compare grevlex x (lead_of h) ≡ Less)
          (sym (over-plus (lead_of h) (lead_of g) w t)) b.0))

  undivided_rest : (h : Terms Fraction) → In h gs → (k : ℕ) → In k (leads_in ls)
      → divides (lead_of h) (get_or es k []) ≡ false
  undivided_rest h j k s =
      not_true _
      (λ t. let x = element h j in
      let y = x.is in
      let (l, i, is) = in_map (λ (l : Led). l.lead) ls k s in
      no_standard_multiple m d es are (pos modulus) none given ls e values x.column x.low y.shares
      y.below (element_end (pos modulus) none es ls (form_own (pos modulus) (length es) ls e)
      x.column h y) l i (subst (λ z. divides (get_or es x.column []) (get_or es z []) ≡ true) is
      (subst (λ z. divides z (get_or es k []) ≡ true) (lead_is (pos modulus) es ls h x) t)))

  undivided : (g h : Terms Fraction) → In g gs → In h gs → (lead_of h ≡ lead_of g → ⊥)
      → (t : List ℕ × Fraction) → In t g → divides (lead_of h) t.0 ≡ false
  undivided g h i j ne t k =
      let x = element g i in
      let y = x.is in
      go y.shares y.rest y.terms y.standard x.column (lead_is (pos modulus) es ls g x)
      (subst (In t) y.is k)
    where
      go : (ss : List Share) (rest : Terms Fraction) → AllZip (IsTermAt es) ss rest
          → Each (λ s. In s.column (leads_in ls)) ss → (c : ℕ) → lead_of g ≡ get_or es c []
          → In t ((get_or es c [], ℚ.one) ∷ rest) → divides (lead_of h) t.0 ≡ false
      go ss rest z st c is (inl f) =
          subst (λ e. divides (lead_of h) e ≡ false)
          (is ∙ sym (ap (λ (u : List ℕ × Fraction). u.0) f)) (undivided_lead g h i j ne)
      go ss rest z st c is (inr n) =
          let (s, p, told) = find_share es ss rest z (λ s. In s.column (leads_in ls)) st t n in
          subst (λ e. divides (lead_of h) e ≡ false) (sym told) (undivided_rest h j s.column p)

  pub found_tidy : AreTidy m d gs
  found_tidy = record {
    polynomials = λ g i. let x = element g i in
        element_polynomial m es are.arities are.ascend x.column x.low x.is;
    nonzero = λ g i. element_some (pos modulus) es ls (length es) g (element g i);
    degrees = λ g i. let (c, low, is) = lead_at g i in
        subst (λ x. sum x ≤ d) (sym is)
        (each_in (λ e. sum e ≤ d) es (get_or es c []) are.degrees (in_get es c [] low));
    monic = first_number;
    ascends = order_ascends gs found.order;
    clean = undivided;
  }
