use Rattle.std.proofs.Common.{refl}
use Rattle.frac128.specs.FracMeaning.{fraction_of}
use Rattle.frac128.proofs.FracResults.{difference_past}
use Rattle.linear.proofs.Weights.{wide_mul, wide_sub, wide_rest}
use Rattle.linear.proofs.rows.+push_less.Goals as goal

pub returns-in_err-product-clause-wide : goal.returns-in_err-product-clause-wide
returns-in_err-product-clause-wide t c =
    λ h. wide_mul c.args.other.now c.args.factor.now c.in-Some-Some.ensures.cases.0
    c.in-Some-Some.ensures'.cases.0 (c.in_err-product.ensures.wide.0 refl)

pub returns-in_err-sub-clause-wide : goal.returns-in_err-sub-clause-wide
returns-in_err-sub-clause-wide t c =
    λ h. wide_sub c.args.other.now c.args.factor.now c.in_ok-product.product
    c.in-Some-Some.ensures.cases.0 c.in-Some-Some.ensures'.cases.0 c.in_ok-product.ensures.ok
    (difference_past (fraction_of c.in-Some-Some.first.now) (fraction_of c.in_ok-product.product)
    (c.in_err-sub.ensures.wide.0 refl))

pub returns-clause-wide : goal.returns-clause-wide
returns-clause-wide t c = λ h. wide_rest c.args.other.now c.args.factor.now
    c.in-Some-Some.ensures.cases.0 c.in-Some-Some.ensures'.cases.0 (c.push_less.ensures.wide h)
