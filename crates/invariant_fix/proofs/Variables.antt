-- Variables, and polynomials with others in their place.
--   in_blocks       one that is told up to order, in an order by blocks
--   variable_is, variable_arity     a variable, as code makes it
use Rattle.std.proofs.Common.{◌≡◌, ◌<◌, ℕ, List, [], ◌∷◌, length, get_or, replicate, set, slice_get, sym, ap, subst, ◌∙◌, Some, None, Option}
use Rattle.std.specs.Option.{option_map, IsSomeAnd}
use Rattle.std.proofs.lemmas.List.{length-set, length-replicate}
use Rattle.std.proofs.lemmas.Option.{slice_get-map, get_or_from_slice_get}
use Rattle.algebra.specs.Each.{Each}
use Rattle.algebra.specs.Fraction.{Fraction, ℚ, rationals}
use Rattle.algebra.proofs.Fractions.{ℚ_field}
use Rattle.polynomials.specs.Exponent.{unit_exponents}
use Rattle.polynomials.specs.Order.{grevlex, blocks}
use Rattle.polynomials.specs.Polynomial.{Arity, IsPolynomial, Falls}
use Rattle.polynomials.specs.Terms.{Terms, Same, variables}
use Rattle.polynomials.proofs.Exponent.{unit_exponents-at}
use Rattle.polynomials.proofs.Orders.{grevlex_order, blocks_order}
use Rattle.polynomials.proofs.Same.{Same-refl}
use Rattle.machines.specs.Collect.{collect}
use Rattle.machines.proofs.Collecting.{collect-is}
use Rattle.monos.specs.declared.order.Grevlex.{Grevlex}
use Rattle.poly.specs.Seen.{terms_in, Is}
use Rattle.loop_model.specs.FracPoly.{FracPoly}
use Rattle.invariant_fix.specs.Blocked.{Blocked}
use Rattle.invariant_fix.proofs.Blocks.{graded_polynomial}
use Rattle.task_lists.proofs.TwoTerms.{block_polynomial}

module _ {k n : ℕ} (h : Terms Fraction) (a : Arity n h) (p : Blocked) (first : p.order.first ≡ k)
    (over : p.arity ≡ n) where
  pub in_blocks : Same ℚ (terms_in p) h
      → terms_in p ≡ collect rationals (blocks k grevlex grevlex) h
  in_blocks s = collect-is ℚ_field (blocks k grevlex grevlex)
      (blocks_order k grevlex grevlex grevlex_order grevlex_order) n h (terms_in p) a
      (block_polynomial k n p first over) s

-- the terms of a variable are in order already
single_in_order : (m : ℕ) (e : List ℕ) → length e ≡ m → IsPolynomial ℚ grevlex m ((e, ℚ.one) ∷ [])
unfolding Each Falls
single_in_order m e l =
    record { nonzero = (ℚ_field.one-ne-zero, tt); arity = (l, tt); falls = (tt, tt) }

single_is : (m : ℕ) (e : List ℕ) → length e ≡ m → (p : FracPoly) → p.arity ≡ m
    → Same ℚ (terms_in p) ((e, ℚ.one) ∷ []) → terms_in p ≡ (e, ℚ.one) ∷ []
unfolding Each
single_is m e l p a s =
    let arity : Arity m ((e, ℚ.one) ∷ []) = (l, tt) in
    collect-is ℚ_field grevlex grevlex_order m ((e, ℚ.one) ∷ []) (terms_in p) arity
    (graded_polynomial m p a) s
    ∙ sym (collect-is ℚ_field grevlex grevlex_order m ((e, ℚ.one) ∷ []) ((e, ℚ.one) ∷ []) arity
    (single_in_order m e l) (Same-refl ℚ ((e, ℚ.one) ∷ [])))

variable_there : (m i : ℕ) → i < m
    → slice_get (variables ℚ m) i ≡ Some ((set (replicate m 0) i 1, ℚ.one) ∷ [])
unfolding variables
variable_there m i h = slice_get-map (λ e. (e, ℚ.one) ∷ []) (unit_exponents m) i
    ∙ ap (option_map (λ e. (e, ℚ.one) ∷ [])) (unit_exponents-at m i h)

pub variable_is : (o : Grevlex) (m i : ℕ) → i < m → (p : FracPoly)
    → IsSomeAnd (slice_get (variables ℚ m) i) (λ x. Is o m x p)
    → terms_in p ≡ get_or (variables ℚ m) i []
variable_is o m i h p s =
    single_is m (set (replicate m 0) i 1) (length-set (replicate m 0) i 1 ∙ length-replicate m 0) p
    is.arity is.same ∙ sym (get_or_from_slice_get (variables ℚ m) i _ [] (variable_there m i h))
  where
    is : Is o m ((set (replicate m 0) i 1, ℚ.one) ∷ []) p
    is = subst (λ v. IsSomeAnd v (λ x. Is o m x p)) (variable_there m i h) s

pub variable_arity : (o : Grevlex) (m i : ℕ) (p : FracPoly)
    → IsSomeAnd (slice_get (variables ℚ m) i) (λ x. Is o m x p) → p.arity ≡ m
variable_arity o m i p s = go (slice_get (variables ℚ m) i) s
  where
    go : (v : Option (Terms Fraction)) → IsSomeAnd v (λ x. Is o m x p) → p.arity ≡ m
    go (Some x) is = is.arity
    go None is = absurd is
