-- A variable, as the code makes it.
--   variable_of        its terms, and how many variables there are
use Rattle.std.proofs.Common.{◌≡◌, ℕ, ◌<◌, [], ◌∷◌, slice_get, Option, Some, sym, ap, subst, ◌∙◌}
use Rattle.std.specs.Option.{IsSomeAnd, option_map}
use Rattle.std.proofs.lemmas.Option.{slice_get-map}
use Rattle.algebra.specs.Each.{Each}
use Rattle.algebra.specs.Fraction.{Fraction, ℚ}
use Rattle.algebra.proofs.Fractions.{ℚ_ring, ℚ_field}
use Rattle.polynomials.specs.Exponent.{unit_exponents}
use Rattle.polynomials.specs.Order.{grevlex}
use Rattle.polynomials.specs.Polynomial.{Falls, IsPolynomial}
use Rattle.polynomials.specs.Terms.{Terms, variables}
use Rattle.polynomials.proofs.Canonical.{polynomial_unique}
use Rattle.polynomials.proofs.Orders.{grevlex_order}
use Rattle.solvable_maps.specs.Uses.{unit}
use Rattle.solvable_maps.proofs.Exponents.{length-unit, unit_get}
use Rattle.monos.specs.declared.order.Grevlex.{Grevlex}
use Rattle.poly.specs.Seen.{terms_in, Is}
use Rattle.poly.proofs.Standing.{polynomial_over}
use Rattle.rounds.specs.Form.{variable_at}
use Rattle.rounds.proofs.RelationTerms.{variable_is}
use Rattle.loop_model.specs.FracPoly.{FracPoly}

module _ (o : Grevlex) (n i : ℕ) (l : i < n) (p : FracPoly)
    (is : IsSomeAnd (slice_get (variables ℚ n) i) (λ x. Is o n x p)) where
  variables_get : slice_get (variables ℚ n) i ≡ Some ((unit n i, ℚ.one) ∷ [])
  unfolding variables
  variables_get = slice_get-map (λ e. (e, ℚ.one) ∷ []) (unit_exponents n) i
      ∙ ap (option_map (λ e. (e, ℚ.one) ∷ [])) (unit_get n i l)

  made : Is o n ((unit n i, ℚ.one) ∷ []) p
  made = subst (λ (s : Option (Terms Fraction)). IsSomeAnd s (λ x. Is o n x p)) variables_get is

  one_polynomial : IsPolynomial ℚ grevlex n ((unit n i, ℚ.one) ∷ [])
  unfolding Each Falls
  one_polynomial = record {
    nonzero = (ℚ_field.one-ne-zero, tt);
    arity = (length-unit n i, tt);
    falls = (tt, tt);
  }

  here : (terms_in p ≡ variable_at n i) × (p.arity ≡ n)
  here = (
    polynomial_unique grevlex grevlex_order ℚ_ring n n (terms_in p) ((unit n i, ℚ.one) ∷ [])
        (polynomial_over n p made.arity) one_polynomial made.same ∙ sym (variable_is n i l),
    made.arity,
  )

pub variable_of : (o : Grevlex) (n : ℕ) {w : ℕ} (i : ℕ) → n ≡ w → i < w → (p : FracPoly)
    → IsSomeAnd (slice_get (variables ℚ n) i) (λ x. Is o n x p)
    → (terms_in p ≡ variable_at w i) × (p.arity ≡ w)
variable_of o n {w = w} i e l p is = here o w i l p
    (subst (λ k. IsSomeAnd (slice_get (variables ℚ k) i) (λ x. Is o k x p)) e is)
