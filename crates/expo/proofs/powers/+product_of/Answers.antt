use Rattle.std.proofs.Common.{refl}
use Rattle.expo.proofs.Sides.{side_some, side_past, tail_coprime}
use Rattle.expo.proofs.powers.+product_of.Goals as goal

pub returns-in_err-rest-clause-wide : goal.returns-in_err-rest-clause-wide
returns-in_err-rest-clause-wide t c =
    λ e. side_past c.args.below c.args.base.now c.in-Some-Some.numbers.now c.in-Some-Some.number.now
    c.args.exponents.now c.in-Some-Some.exponents.now c.in-Some-Some.exponent.now
    c.in-Some-Some.ensures.cases.0 c.in-Some-Some.ensures'.cases.0 c.requires.base
    (c.in_err-rest.ensures.wide refl)

pub times_power-requires-clause-number : goal.times_power-requires-clause-number
times_power-requires-clause-number t c =
    side_some c.in-Some-Some.numbers.now c.args.below c.in-Some-Some.exponents.now c.in_ok-rest.rest
    (tail_coprime c.args.base.now c.in-Some-Some.numbers.now c.in-Some-Some.number.now
    c.in-Some-Some.ensures.cases.0 c.requires.base) c.in_ok-rest.ensures.product
