-- The definitions at a small program, by computation: vars x, y; y = 1/x; assert x*y = 1;
--   reciprocal            the program
--   reciprocal_valid      a certificate of it: at the assertion and at the end x*y - 1 is the zero of the path
--   reciprocal_invariant  so x*y - 1 is 0 at each state that is seen at the assertion
use Rattle.std.proofs.Common.{ℕ, zero, suc, ◌<◌, [], ◌∷◌, refl, arith, ◌+◌, inl}
use Rattle.algebra.specs.Each.{Each}
use Rattle.algebra.specs.Arithmetic.{power}
use Rattle.algebra.specs.Sum.{sum_over}
use Rattle.algebra.specs.Gcd.{gcd}
use Rattle.algebra.specs.Ratio.{is_lowest, reduce}
use Rattle.algebra.specs.Fraction as Fraction
use Rattle.algebra.specs.Fraction.{fraction}
use Rattle.algebra.proofs.Fractions.{ℚ_ring, fraction_eq, fraction_eq_refl, fraction_eq_true}
use Rattle.polynomials.specs.Algebra as Algebra
use Rattle.polynomials.specs.Exponent.{plus, same, unit_exponents}
use Rattle.polynomials.specs.Terms.{constant, combination, evaluate, monomial_at, variables, retold}
use Rattle.polynomials.specs.Polynomial.{AllArity}
use Rattle.polynomials.proofs.SameDecided.{agree_at, test_same, same_from_test}
use Rattle.loops.specs.Effect.{store, value_of}
use Rattle.flows.specs.Paths.{unknowns, all_unknowns, inverse_zeros, zeros_of, after_step, all_zeros, after_all}
use Rattle.flows.specs.Code.{points, PointInv}
use Rattle.flows.specs.Chart.{exits, edges, graph}
use Rattle.flows.specs.Certificate.{family, cofactors, transition_at, elements, IsValid, AreOver, PassesStep}
use Rattle.flows.specs.Reciprocal.{reciprocal, product_less_one, one, reciprocal_certificate}
use Rattle.flows.proofs.Members.{member_in}
use Rattle.flows.proofs.Sound.{sound}
use Rattle.flows.proofs.Certified.{certified_inductive}
use Rattle.flows.proofs.Programs.{graph_is, point_invariants}

first_passes : PassesStep (graph 2 reciprocal) reciprocal_certificate 0 0
unfolding points exits edges unknowns all_unknowns inverse_zeros zeros_of after_step all_zeros
    after_all store value_of constant combination evaluate monomial_at variables unit_exponents
    retold Algebra.shift Algebra.times Algebra.negate Algebra.coefficient sum_over power plus same
    agree_at test_same fraction_eq fraction Fraction.sum Fraction.product Fraction.opposite
    Fraction.inverse is_lowest reduce gcd
first_passes = same_from_test ℚ_ring fraction_eq fraction_eq_refl fraction_eq_true _ _ refl

second_passes : PassesStep (graph 2 reciprocal) reciprocal_certificate 1 0
unfolding points exits edges unknowns all_unknowns inverse_zeros zeros_of after_step all_zeros
    after_all store value_of constant combination evaluate monomial_at variables unit_exponents
    retold Algebra.shift Algebra.times Algebra.negate Algebra.coefficient sum_over power plus same
    agree_at test_same fraction_eq fraction Fraction.sum Fraction.product Fraction.opposite
    Fraction.inverse is_lowest reduce gcd
second_passes = same_from_test ℚ_ring fraction_eq fraction_eq_refl fraction_eq_true _ _ refl

pub reciprocal_valid : IsValid (graph 2 reciprocal) reciprocal_certificate
unfolding exits edges points
reciprocal_valid = record { start = refl; steps = each_passes }
  where
    each_passes : (j i : ℕ) → j < 2
        → i < elements (graph 2 reciprocal) reciprocal_certificate j
        → PassesStep (graph 2 reciprocal) reciprocal_certificate j i
    each_passes zero zero l k = first_passes
    each_passes zero (suc i) l k = absurd (omega (arith, k))
    each_passes (suc zero) zero l k = second_passes
    each_passes (suc zero) (suc i) l k = absurd (omega (arith, k))
    each_passes (suc (suc j)) i l k = absurd (omega (arith, l))

product_arity : AllArity 2 (product_less_one ∷ [])
unfolding Each
product_arity = ((refl, (refl, tt)), tt)

one_arity : AllArity 3 (one ∷ [])
unfolding Each
one_arity = ((refl, tt), tt)

pub reciprocal_over : AreOver (graph 2 reciprocal) reciprocal_certificate
unfolding Each exits edges points unknowns all_unknowns
reciprocal_over = record { arities = lists; cofactor_arities = numbers }
  where
    lists : (v : ℕ) → AllArity 2 (family reciprocal_certificate v)
    lists zero = tt
    lists (suc zero) = product_arity
    lists (suc (suc zero)) = product_arity
    lists (suc (suc (suc v))) = tt

    numbers : (j i : ℕ)
        → AllArity ((transition_at (graph 2 reciprocal) j).unknowns + 2)
        (cofactors reciprocal_certificate j i)
    numbers zero zero = one_arity
    numbers zero (suc i) = tt
    numbers (suc zero) zero = one_arity
    numbers (suc zero) (suc i) = tt
    numbers (suc (suc j)) i = tt

pub reciprocal_invariant : PointInv 2 reciprocal 1 product_less_one
unfolding Each
reciprocal_invariant =
    let one : 0 < 1 = omega arith in
    (point_invariants 2 reciprocal 1 one product_less_one).1
    (sound (graph 2 reciprocal) (graph_is 2 reciprocal) (family reciprocal_certificate)
    (certified_inductive (graph 2 reciprocal) reciprocal_certificate reciprocal_over
    reciprocal_valid) 1 within product_less_one product_arity.0
    (member_in 2 (product_less_one ∷ []) product_less_one product_arity (inl refl)))
  where
    within : 1 < (graph 2 reciprocal).nodes
    within = omega arith
