use Rattle.std.proofs.Common.{subst}
use Rattle.algebra.specs.Fraction.{ℚ}
use Rattle.polynomials.specs.Order.{grevlex}
use Rattle.polynomials.specs.Polynomial.{IsPolynomial}
use Rattle.frac128.specs.FracMeaning.{fraction_of}
use Rattle.poly.specs.Seen.{terms_in}
use Rattle.expo.proofs.Outcomes.{ok_weaker}
use Rattle.expo.proofs.AtIterations.{number_is}
use Rattle.expo.proofs.points.number_of.Goals as goal

pub returns-clause-terms : goal.returns-clause-terms
returns-clause-terms c =
    ok_weaker _ _ (λ p i. number_is c.args.vars c.args.iterations
    (fraction_of c.frac_of_usize-number.result)
    (terms_in p) c.frac_of_usize-number.ensures
    (subst (λ n. IsPolynomial ℚ grevlex n (terms_in p)) i.arity p.polynomial) i.same)
    c.constant.result c.constant.ensures.constant
