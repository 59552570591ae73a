-- What is kept of a list (machines/specs/Elimination), element by element.
--   kept_none, kept_step_in, kept_step_out     so far: nothing, and one element more, which is kept or isn't
--   free_all, all_free_of, not_free     none of the first variables, in the words of poly and of machines
--   rest_made, rest_some     an element without them, which isn't 0
use Rattle.std.proofs.Common.{◌≡◌, ◌≢◌, ◌↔◌, ℕ, ◌+◌, Bool, true, false, ◌&&◌, cond, List, [], ◌∷◌, ◌++◌, drop, take, replicate, refl, sym, ap, ap₂, ◌∙◌}
use Rattle.std.proofs.lemmas.List.{append-nil}
use Rattle.std.proofs.lemmas.Bool.{and_parts}
use Rattle.algebra.specs.Each.{Each}
use Rattle.algebra.specs.FieldArithmetic.{field_of}
use Rattle.algebra.specs.Ring.{Field, IsRing, IsFieldOf}
use Rattle.algebra.specs.Scalars.{Scalars, field}
use Rattle.algebra.proofs.ScalarFields.{is_field}
use Rattle.polynomials.specs.Exponent.{same}
use Rattle.polynomials.specs.Order.{grevlex, blocks}
use Rattle.polynomials.specs.Polynomial.{IsPolynomial}
use Rattle.polynomials.specs.Terms.{Terms, Same, retold}
use Rattle.polynomials.proofs.Canonical.{polynomial_unique}
use Rattle.polynomials.proofs.Exponent.{same_refl, same_true}
use Rattle.polynomials.proofs.Orders.{grevlex_order}
use Rattle.machines.specs.Elimination.{free, all_free, free_part}
use Rattle.machines.proofs.Front.{dropped_polynomial, retold_nothing, kept-append}
use Rattle.machines.specs.Front.{IsFreeOfFirst}

module _ {A : Type 0} (k : ℕ) where
  kept_one : (g : Terms A) (b : Bool) → all_free k g ≡ b
      → free_part k (g ∷ []) ≡ cond b (retold (drop k) g ∷ []) []
  unfolding free_part
  kept_one g b e = ap (λ c. cond c (retold (drop k) g ∷ []) []) e

  pub kept_none : (out : List (Terms A)) → out ≡ [] → out ≡ free_part k []
  unfolding free_part
  kept_none out e = e

  pub kept_step_in : (gs gs' out news : List (Terms A)) (g q : Terms A) → gs' ≡ gs ++ g ∷ []
      → all_free k g ≡ true → news ≡ out ++ q ∷ [] → q ≡ retold (drop k) g → out ≡ free_part k gs
      → news ≡ free_part k gs'
  kept_step_in gs gs' out news g q e f n i h = n ∙ ap₂ (λ zs z. zs ++ z ∷ []) h i
      ∙ ap (λ zs. free_part k gs ++ zs) (sym (kept_one g true f)) ∙ sym (kept-append k gs (g ∷ []))
      ∙ ap (free_part k) (sym e)

  pub kept_step_out : (gs gs' out : List (Terms A)) (g : Terms A) → gs' ≡ gs ++ g ∷ []
      → all_free k g ≡ false → out ≡ free_part k gs → out ≡ free_part k gs'
  kept_step_out gs gs' out g e f h = h ∙ sym (append-nil (free_part k gs))
      ∙ ap (λ zs. free_part k gs ++ zs) (sym (kept_one g false f)) ∙ sym (kept-append k gs (g ∷ []))
      ∙ ap (free_part k) (sym e)

  -- ---- none of the first variables
  pub free_all : (p : Terms A) → IsFreeOfFirst k p → all_free k p ≡ true
  unfolding Each all_free
  free_all [] h = refl
  free_all (t ∷ p) h = ap₂ ◌&&◌ (ap (λ d. same d (replicate k 0)) h.0 ∙ same_refl (replicate k 0))
      (free_all p h.1)

  pub all_free_of : (p : Terms A) → all_free k p ≡ true → IsFreeOfFirst k p
  unfolding Each all_free
  all_free_of [] h = tt
  all_free_of (t ∷ p) h = let two = and_parts (free k t.0) (all_free k p) h in
      (same_true (take k t.0) (replicate k 0) two.0, all_free_of p two.1)

  pub not_free : (p : Terms A) → (IsFreeOfFirst k p → ⊥) → all_free k p ≡ false
  not_free p n = go (all_free k p) refl
    where
      go : (b : Bool) → all_free k p ≡ b → all_free k p ≡ false
      go true e = absurd (n (all_free_of p e))
      go false e = e

-- ---- an element kept
module _ (S : Scalars) (r : IsRing S.arithmetic) (f : IsFieldOf S.arithmetic S.inverse)
    (z : (a : S.Elem) → (S.is_zero a ≡ true) ↔ (a ≡ S.zero)) (k m : ℕ) where
  abbrev K : Field S.Elem
  K = field_of (field S) (is_field S r f z)

  pub rest_made : (n : ℕ) (g q : Terms S.Elem) → IsFreeOfFirst k g
      → IsPolynomial S.arithmetic (blocks k grevlex grevlex) (k + m) g
      → IsPolynomial S.arithmetic grevlex n q
      → Same S.arithmetic q (retold (drop k) g) → q ≡ retold (drop k) g
  rest_made n g q free h i s = polynomial_unique grevlex grevlex_order K.ring n m q
      (retold (drop k) g) i
      (dropped_polynomial k m grevlex grevlex grevlex_order grevlex_order S.arithmetic g
      (free_all k g free) h) s

  pub rest_some : (g q : Terms S.Elem) → g ≢ [] → q ≡ retold (drop k) g → q ≢ []
  rest_some g q n e i = retold_nothing (drop k) g n (sym e ∙ i)
