-- Marks that tell of each variable whether its polynomial at a number of iterations isn't that of a state.
--   off, not_is          a test that has failed, and its opposite
--   at_same, at_told     one polynomial
--   none_set, some_set     whether some mark is set
--   place_to, place_from     the polynomial at a place
--   marked_here, marked_kept     one mark set
--   class_first, kept_both, classes_next     variable by variable, and class by class
--   past_first, past_later, past_class     what is past
use Rattle.std.proofs.Common.{◌≡◌, ◌≢◌, inl, inr, ℕ, zero, suc, ◌<◌, Bool, true, false, List, [], ◌∷◌, length, take, get_or, set, ◌+◌, Vec, Global, refl, sym, ap, subst, ◌∙◌, arith}
use mathlib.Core.Bool.{beq, not}
use Rattle.std.specs.List.{list_any}
use Rattle.std.proofs.lemmas.Bool.{cases_eq}
use Rattle.std.proofs.lemmas.List.{get_or_default, get_or-set_same, get_or-set_other}
use Rattle.algebra.specs.In.{In}
use Rattle.algebra.proofs.In.{in_push, in_get, map-in}
use Rattle.algebra.proofs.Lists.{take_next}
use Rattle.algebra.specs.Fraction.{Fraction, ℚ}
use Rattle.algebra.proofs.Fractions.{ℚ_ring}
use Rattle.polynomials.specs.Order.{grevlex}
use Rattle.polynomials.specs.Polynomial.{IsPolynomial}
use Rattle.polynomials.specs.Terms.{Terms, value_at}
use Rattle.polynomials.proofs.ByValues.{same_by_values}
use Rattle.polynomials.proofs.Canonical.{polynomial_unique}
use Rattle.polynomials.proofs.Orders.{grevlex_order}
use Rattle.poly.specs.Seen.{terms_in, terms_each}
use Rattle.solvable_maps.specs.Uses.{poly_at}
use Rattle.solvable.proofs.Using.{FracPoly, poly_at-is}
use Rattle.expo.specs.Operations.{IsPastIteration}
use Rattle.expo.specs.View.{value_of}
use Rattle.expo.specs.declared.exponential.Expo.{Expo}
use Rattle.solvable_maps.specs.Classes.{first_of}
use Rattle.closed_forms.specs.Settling.{IsAt, IsAtPlace, IsMarked, AreMarked, AreAllMarked, KeptMarks, IsPastPlace, IsPastOfClass}
use Rattle.closed_forms.specs.Splits.{groups_in}

pub off : {P : Type 0} {b : Bool} → b ≡ false → (P → b ≡ true) → P → ⊥
off e test p = (let t = test p in let bad : ⊥ = cc in bad)

pub not_is : (b : Bool) → (not b ≡ false → b ≡ true) × (b ≡ true → not b ≡ false)
not_is true = ((λ e. refl), (λ e. refl))
not_is false = ((λ e. (let bad : ⊥ = cc in absurd bad)), (λ e. (let bad : ⊥ = cc in absurd bad)))

-- ---- one polynomial
pub at_same : (e : Expo) (n : ℕ) (p : FracPoly) {q : Terms Fraction}
    → ((s : List Fraction) → length s ≡ e.vars → value_at ℚ (terms_in p) s ≡ value_of e n s)
    → terms_in p ≡ q → IsAt e n q
at_same e n p h k = λ s l. sym (h s l) ∙ ap (λ x. value_at ℚ x s) k

pub at_told : (e : Expo) (n : ℕ) (p q : FracPoly) → p.arity ≡ e.vars → q.arity ≡ e.vars
    → ((s : List Fraction) → length s ≡ e.vars → value_at ℚ (terms_in p) s ≡ value_of e n s)
    → IsAt e n (terms_in q) → (p.arity ≡ q.arity) × (terms_in p ≡ terms_in q)
at_told e n p q a b h k =
    let m = e.vars in
    let x : IsPolynomial ℚ grevlex m (terms_in p) = subst (λ i. IsPolynomial ℚ grevlex i
    (terms_in p)) a p.polynomial in
    let y : IsPolynomial ℚ grevlex m (terms_in q) = subst (λ i. IsPolynomial ℚ grevlex i
    (terms_in q)) b q.polynomial in (
      a ∙ sym b,
      polynomial_unique grevlex grevlex_order ℚ_ring m m (terms_in p) (terms_in q) x y
          (same_by_values m (terms_in p) (terms_in q) x.arity y.arity (λ s l. h s l ∙ k s l)),
    )

-- ---- whether some mark is set
pub none_set : (marks : List Bool) → list_any (λ m. beq m true) marks ≡ false → (i : ℕ)
    → get_or marks i false ≡ false
none_set [] e i = refl
none_set (true ∷ marks) e i = absurd (let bad : ⊥ = cc in bad)
none_set (false ∷ marks) e zero = refl
none_set (false ∷ marks) e (suc i) = none_set marks e i

pub some_set : (marks : List Bool) → list_any (λ m. beq m true) marks ≡ true
    → (i : ℕ) × (i < length marks) × (get_or marks i false ≡ true)
some_set [] e = absurd (let bad : ⊥ = cc in bad)
some_set (true ∷ marks) e = (0, omega arith, refl)
some_set (false ∷ marks) e = (let r = some_set marks e in let l = r.1 in (
  suc r.0,
  omega (arith, l),
  r.2,
))

-- ---- the polynomial at a place
same_item : (es : List Expo) (i : ℕ) → i < length es → (a b : Expo) → a ≡ get_or es i a
    → b ≡ get_or es i b → a ≡ b
same_item es i l a b h k = h ∙ get_or_default es i a b l ∙ sym k

module _ (es : List Expo) (n : ℕ) (state : List FracPoly) (i : ℕ) {e : Expo} {q : FracPoly}
    (l : i < length es) (k : i < length state) (own : e ≡ get_or es i e)
    (other : q ≡ get_or state i q) where
  pub place_to : IsAt e n (terms_in q) → IsAtPlace es n (terms_each state) i
  place_to h x is = subst (λ (y : Expo). IsAt y n (poly_at (terms_each state) i))
      (same_item es i l e x own is)
      (subst (IsAt e n) (sym (poly_at-is state i q k other)) h)

  pub place_from : IsAtPlace es n (terms_each state) i → IsAt e n (terms_in q)
  place_from h = subst (IsAt e n) (poly_at-is state i q k other) (h e own)

  -- ---- one mark set
  module _ (same : Bool) (told : (same ≡ true → IsAt e n (terms_in q))
      × (IsAt e n (terms_in q) → same ≡ true)) (old new : List Bool) (mark : Bool)
      (low : i < length old) (not : (mark ≡ false → same ≡ true) × (same ≡ true → mark ≡ false))
      (is : new ≡ set old i mark) where
    mark_is : get_or new i false ≡ mark
    mark_is = ap (λ l. get_or l i false) is ∙ get_or-set_same old i mark false low

    pub marked_here : IsMarked es n (terms_each state) new i
    marked_here = (
      (λ h. place_to (told.0 (not.0 (sym mark_is ∙ h)))),
      (λ h. mark_is ∙ not.1 (told.1 (place_from h))),
    )

    pub marked_kept : KeptMarks es n (terms_each state) old new
    marked_kept j h = elim (cases_eq j i) [
      | inl s ↦ subst (IsMarked es n (terms_each state) new) (sym s) marked_here
      | inr d ↦ (
        (λ g. h.0 (sym (other_is d) ∙ g)),
        (λ g. other_is d ∙ h.1 g),
      )
    ]
      where
        other_is : j ≢ i → get_or new j false ≡ get_or old j false
        other_is d = ap (λ l. get_or l j false) is
            ∙ get_or-set_other old i j mark false (λ s. d s)

-- ---- variable by variable, and class by class
module _ (es : List Expo) (n : ℕ) (state : List (Terms Fraction)) where
  pub class_first : {g rest : List ℕ} {i : ℕ} (mid new : List Bool) → g ≡ i ∷ rest
      → IsMarked es n state mid i → KeptMarks es n state mid new → AreMarked es n state rest new
      → AreMarked es n state g new
  class_first {rest = rest} {i = i} mid new e here kept later j inside = go (subst (In j) e inside)
    where
      go : In j (i ∷ rest) → IsMarked es n state new j
      go (inl s) = subst (IsMarked es n state new) (sym s) (kept i here)
      go (inr h) = later j h

  pub kept_both : (old mid new : List Bool) → KeptMarks es n state old mid
      → KeptMarks es n state mid new → KeptMarks es n state old new
  kept_both old mid new h k = λ i m. k i (h i m)

  pub classes_next : (groups : List (Vec ℕ Global)) (k : ℕ) {group : Vec ℕ Global} {g : List ℕ}
      (mid new : List Bool)
      → k < length groups → group ≡ get_or groups k group → g ≡ group.items
      → KeptMarks es n state mid new → AreMarked es n state g new
      → AreAllMarked es n state (groups_in (take k groups)) mid
      → AreAllMarked es n state (groups_in (take (k + 1) groups)) new
  classes_next groups k {group = group} mid new l is at kept here earlier h inside i within =
      elim (in_push (groups_in (take k groups)) group.items h
      (subst (In h) (take_next (λ (g : Vec ℕ Global). g.items) groups k group l is) inside)) [
        | inl e ↦ kept i (earlier h e i within)
        | inr e ↦ here i (subst (In i) (e ∙ sym at) within)
      ]

  -- ---- what is past
  pub past_first : (g rest : List ℕ) (i : ℕ) (e : Expo) → g ≡ i ∷ rest → i < length es
      → e ≡ get_or es i e → IsPastIteration e n → IsPastPlace es n g
  past_first g rest i e is l own h = record {
    place = i;
    within = subst (In i) (sym is) (inl refl);
    past = λ x k. subst (λ (y : Expo). IsPastIteration y n) (same_item es i l e x own k) h;
  }

  pub past_later : (g rest : List ℕ) (i : ℕ) → g ≡ i ∷ rest → IsPastPlace es n rest
      → IsPastPlace es n g
  past_later g rest i is h = record {
    place = h.place;
    within = subst (In h.place) (sym is) (inr h.within);
    past = h.past;
  }

  pub past_class : (groups : List (Vec ℕ Global)) (k : ℕ) {group : Vec ℕ Global} {g : List ℕ}
      {v : ℕ}
      → k < length groups → group ≡ get_or groups k group → g ≡ group.items → v ≡ first_of g
      → IsPastPlace es n g → IsPastOfClass (groups_in groups) es n v
  past_class groups k {group = group} {g = g} l is at f h = record {
    class = g;
    is = subst (λ x. In x (groups_in groups)) (sym (at ∙ ap (λ x. x.items) is))
        (map-in (λ (x : Vec ℕ Global). x.items) groups _ (in_get groups k group l));
    first = sym f;
    past = h;
  }
