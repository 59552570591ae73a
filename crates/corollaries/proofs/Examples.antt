-- A full certificate that is valid, by computation.
--   square_certificate, square_is_valid     of vars a, x; init x=a^2; branch { }, which has no round
use Rattle.std.proofs.Common.{◌≡◌, pos, negsuc, true, [], ◌∷◌, refl, arith}
use Rattle.std.specs.Prelude.{⊤}
use Rattle.algebra.specs.Arithmetic.{power}
use Rattle.algebra.specs.Each.{Each}
use Rattle.algebra.specs.Sum.{sum_over}
use Rattle.algebra.specs.Gcd.{gcd}
use Rattle.algebra.specs.Ratio.{is_lowest, reduce}
use Rattle.algebra.specs.Fraction as Fraction
use Rattle.algebra.specs.Fraction.{Fraction, fraction, over, whole, ℚ}
use Rattle.algebra.proofs.Fractions.{ℚ_ring, fraction_eq, fraction_eq_refl, fraction_eq_true}
use Rattle.polynomials.specs.Algebra as Algebra
use Rattle.polynomials.specs.Exponent.{same, plus, over as less, lcm, unit_exponents}
use Rattle.polynomials.specs.Order.{compare, grevlex, blocks}
use Rattle.polynomials.specs.Polynomial.{Falls}
use Rattle.polynomials.specs.Terms.{Terms, Same, AllSame, constant, variables, combination, evaluate, monomial_at, retold}
use Rattle.polynomials.proofs.SameDecided.{agree_at, test_same, same_from_test}
use Rattle.exponentials.specs.Keys.{excess}
use Rattle.machines.specs.Collect.{collect, insert, place}
use Rattle.machines.specs.Completion.{s_polynomial}
use Rattle.machines.specs.Cut.{lead_of, lead_number}
use Rattle.machines.specs.Elimination.{all_free, free_part}
use Rattle.loops.specs.Program.{Expr, variable, power as raised, Program}
use Rattle.loops.specs.Effect.{init_statement, store, value_of, after_statement, after_branch, start_from}
use Rattle.loops.specs.Map.{branch_map, start_map}
use Rattle.loops.proofs.Examples.{given}
use Rattle.rounds.specs.Form.{relation, relations_to}
use Rattle.rounds.specs.Start.{start_list, start_polynomial, in_order}
use Rattle.corollaries.specs.Representation.{pairs_of, AreBelow}
use Rattle.corollaries.specs.Full.{FullCertificate, so_far, before}
use Rattle.corollaries.specs.Parts.{branch_parts, parts, AllHold}

abbrev one : Fraction
one = whole (pos 1)

abbrev minus : Fraction
minus = whole (negsuc 0)

abbrev pub square : Program (Expr ⊤)
square = record {
  names = (97 ∷ []) ∷ (120 ∷ []) ∷ [];
  locals = [];
  init = given 1 (raised tt (variable 0) 2) ∷ [];
  branches = [] ∷ [];
}

abbrev pub square_certificate : FullCertificate
square_certificate = record {
  basis = ((2 ∷ 0 ∷ [], one) ∷ (0 ∷ 1 ∷ [], minus) ∷ []) ∷ [];
  steps = ((((0 ∷ 0 ∷ [], one) ∷ []) ∷ []) ∷ []) ∷ [];
  forms = (record {
    base = [];
    polys = ((0 ∷ 0 ∷ 1 ∷ 0 ∷ [], one) ∷ []) ∷ ((0 ∷ 0 ∷ 0 ∷ 1 ∷ [], one) ∷ []) ∷ [];
  }) ∷ [];
  start_out = ((2 ∷ 0 ∷ [], one) ∷ (0 ∷ 1 ∷ [], minus) ∷ []) ∷ [];
  start_links = (((0 ∷ 0 ∷ [], minus) ∷ []) ∷ []) ∷ [];
  rounds = [];
}

pub tested : (p q : Terms Fraction) → test_same ℚ fraction_eq p q ≡ true → Same ℚ p q
tested p q h = same_from_test ℚ_ring fraction_eq fraction_eq_refl fraction_eq_true p q h

pub square_is_valid : AllHold square square_certificate
unfolding parts branch_parts before so_far pairs_of Each Falls AllSame combination start_list
    start_polynomial in_order start_map branch_map start_from init_statement after_branch
    after_statement store value_of variables unit_exponents constant evaluate sum_over monomial_at
    power Algebra.times Algebra.shift Algebra.negate Algebra.coefficient plus same lcm collect
    insert place compare grevlex blocks relation relations_to free_part all_free retold lead_of
    lead_number s_polynomial less AreBelow excess test_same agree_at fraction_eq fraction
    Fraction.sum
    Fraction.product Fraction.opposite Fraction.inverse is_lowest reduce gcd
square_is_valid = record {
  each = (
    tested _ _ refl,
    (
      tested _ _ refl,
      (
        record {
          ascending = tt;
          coprime = tt;
          normal = (((omega arith, tt, tt, tt), tt), (((omega arith, tt, tt, tt), tt), tt));
          at_zero = (tested _ _ refl, (tested _ _ refl, tt));
          goes_on = (tested _ _ refl, (tested _ _ refl, tt));
        },
        (tested _ _ refl, ((tested _ _ refl, tt), tt)),
      ),
    ),
  );
}
