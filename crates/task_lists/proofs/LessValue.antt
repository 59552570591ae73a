-- A variable less its value, as the code makes it.
--   value_less_is          its terms
--   nothing_shared         the variable and the value have no monomial in common
use Rattle.std.proofs.Common.{◌≡◌, ℕ, zero, suc, ◌<◌, List, [], ◌∷◌, ◌++◌, get_or, slice_get, Option, Some, refl, sym, ap, subst, ◌∙◌, arith}
use Rattle.std.specs.List.{Contains}
use Rattle.std.specs.Option.{IsSomeAnd, option_map}
use Rattle.std.proofs.lemmas.Option.{slice_get-map}
use Rattle.algebra.specs.Each.{Each}
use Rattle.algebra.specs.Fraction.{Fraction, ℚ, fractions}
use Rattle.algebra.proofs.Fractions.{ℚ_ring, ℚ_field, fractions_ring}
use Rattle.polynomials.specs.Algebra as Algebra
use Rattle.polynomials.specs.Exponent.{unit_exponents}
use Rattle.polynomials.specs.Order.{grevlex}
use Rattle.polynomials.specs.Polynomial.{Falls, IsPolynomial}
use Rattle.polynomials.specs.Terms.{Terms, Same, negate, variables}
use Rattle.polynomials.proofs.Arity.{arity_at, arity-append, arity-negate, arity-variables}
use Rattle.polynomials.proofs.Canonical.{polynomial_unique}
use Rattle.polynomials.proofs.Orders.{grevlex_order}
use Rattle.solvable_maps.specs.Uses.{unit}
use Rattle.machines.proofs.Collecting.{collect-is}
use Rattle.poly.specs.Seen.{terms_in, Is}
use Rattle.poly.specs.Shared.{monomials, Share}
use Rattle.poly.proofs.Steps.{polynomial_negate}
use Rattle.monos.specs.declared.order.Grevlex.{Grevlex}
use Rattle.rounds.specs.Form.{variable_at}
use Rattle.loop_model.specs.FracPoly.{FracPoly}
use Rattle.task_lists.specs.Starts.{value_less, IsWithout}
use Rattle.poly.proofs.Standing.{polynomial_over as graded_polynomial}
use Rattle.solvable_maps.proofs.Exponents.{length-unit, unit_get}
use Rattle.rounds.proofs.RelationTerms.{variable_is, unit_here}

variables_get : (m i : ℕ) → i < m → slice_get (variables ℚ m) i ≡ Some ((unit m i, ℚ.one) ∷ [])
unfolding variables
variables_get m i l = slice_get-map (λ e. (e, ℚ.one) ∷ []) (unit_exponents m) i
    ∙ ap (option_map (λ e. (e, ℚ.one) ∷ [])) (unit_get m i l)

module _ (o : Grevlex) (n i : ℕ) (l : i < n) (p : FracPoly)
    (is : IsSomeAnd (slice_get (variables ℚ n) i) (λ x. Is o n x p)) where
  variable_made : Is o n ((unit n i, ℚ.one) ∷ []) p
  variable_made = subst (λ (s : Option (Terms Fraction)). IsSomeAnd s (λ x. Is o n x p))
      (variables_get n i l) is

  one_polynomial : IsPolynomial ℚ grevlex n ((unit n i, ℚ.one) ∷ [])
  unfolding Each Falls
  one_polynomial = record {
    nonzero = (ℚ_field.one-ne-zero, tt);
    arity = (length-unit n i, tt);
    falls = (tt, tt);
  }

  variable_terms : terms_in p ≡ (unit n i, ℚ.one) ∷ []
  variable_terms = polynomial_unique grevlex grevlex_order ℚ_ring n n (terms_in p)
      ((unit n i, ℚ.one) ∷ []) (graded_polynomial n p variable_made.arity) one_polynomial
      variable_made.same

module _ (i : ℕ) (value variable : FracPoly) {opposite : FracPoly} (l : i < value.arity) {n : ℕ}
    (arity : n ≡ value.arity) (o : Grevlex) (v : IsSomeAnd (slice_get (variables ℚ n) i)
    (λ x. Is o n x variable)) (w : Is value.order value.arity (negate ℚ (terms_in value)) opposite)
  where
    inside : i < n
    inside = omega (arith, l, arity)

    opposite_terms : terms_in opposite ≡ negate ℚ (terms_in value)
    opposite_terms =
        polynomial_unique grevlex grevlex_order ℚ_ring value.arity value.arity (terms_in opposite)
        (negate ℚ (terms_in value)) (graded_polynomial value.arity opposite w.arity)
        (polynomial_negate fractions fractions_ring grevlex value.arity (terms_in value)
        (negate ℚ (terms_in value)) value.polynomial refl) w.same

    parts : terms_in variable ++ terms_in opposite ≡ variable_at value.arity i
        ++ negate ℚ (terms_in value)
    parts =
        ap (λ x. x ++ terms_in opposite) (variable_terms o n i inside variable v
        ∙ ap (λ k. (unit k i, ℚ.one) ∷ []) arity ∙ sym (variable_is value.arity i l))
        ∙ ap (λ x. variable_at value.arity i ++ x) opposite_terms

    pub value_less_is : (p : FracPoly)
        → Is variable.order variable.arity (terms_in variable ++ terms_in opposite) p
        → terms_in p ≡ value_less value.arity i (terms_in value)
    value_less_is p s =
        let m = value.arity in
        collect-is ℚ_field grevlex grevlex_order m _ (terms_in p) (arity-append m (variable_at m i)
        (negate ℚ (terms_in value)) (arity_at m (variables ℚ m) (arity-variables m ℚ) i)
        (arity-negate m ℚ (terms_in value) value.polynomial.arity)) (graded_polynomial m p
        (s.arity ∙ (variable_made o n i inside variable v).arity ∙ arity))
        (subst (Same ℚ (terms_in p)) parts s.same)

    without_negate : (q : Terms Fraction) → IsWithout i q → (e : List ℕ)
        → Contains (monomials (negate ℚ q)) e → get_or e i 0 ≡ 0
    unfolding Algebra.negate
    without_negate [] a e (k, below, is) = absurd (omega (arith, below))
    without_negate (t ∷ q) a e (zero, below, is) = ap (λ d. get_or d i 0) (sym is)
        ∙ a 0 t (omega arith)
    without_negate (t ∷ q) a e (suc k, below, is) =
        without_negate q (λ j d h. a (suc j) d (omega (arith, h))) e (k, omega (arith, below), is)

    only_unit : (e : List ℕ) → Contains (monomials ((unit n i, ℚ.one) ∷ [])) e → e ≡ unit n i
    only_unit e (zero, below, is) = sym is
    only_unit e (suc k, below, is) = absurd (omega (arith, below))

    pub nothing_shared : IsWithout i (terms_in value)
        → Share (terms_in variable) (terms_in opposite) → ⊥
    nothing_shared a s =
        let e = only_unit s.monomial (subst (λ q. Contains (monomials q) s.monomial)
        (variable_terms o n i inside variable v) s.in_left) in
        let z = without_negate (terms_in value) a s.monomial
        (subst (λ q. Contains (monomials q) s.monomial) opposite_terms s.in_right) in
        let one = unit_here n i inside in
        let here = ap (λ d. get_or d i 0) e in
        omega (arith, z, one, here)
