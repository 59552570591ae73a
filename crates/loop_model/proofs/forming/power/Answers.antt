use Rattle.std.proofs.Common.{◌≡◌, [], arith, subst}
use Rattle.algebra.specs.Fraction.{ℚ}
use Rattle.polynomials.specs.Terms.{constant}
use Rattle.poly.specs.Seen.{terms_in}
use Rattle.poly.specs.Standing.{StandsFor}
use Rattle.loop_model.specs.Operations.{IsFree}
use Rattle.loop_model.specs.Stops.{Stops}
use Rattle.loop_model.proofs.OperationLaws.{stops_front, handed_on}
use Rattle.loop_model.proofs.PowerLaws.{Raised, power_none, power_more, power_stop}
use Rattle.loop_model.proofs.forming.power.Goals as goal

pub loop-step-init : goal.loop-step-init
loop-step-init c = power_none c.args.base.now.arity c.args.at (terms_in c.args.base.now)
    c.in_ok-power.power
    (subst (λ m. StandsFor m c.in_ok-power.power (constant m ℚ.one) × IsFree m [])
    c.arity.ensures.arity c.in_ok-power.ensures)

pub product-requires : goal.product-requires
product-requires c = c.loop-step.invariant.0.arity

pub loop-step-preserved : goal.loop-step-preserved
loop-step-preserved c = power_more c.args.base.now.arity c.args.at (terms_in c.args.base.now)
    c.loop-step._step c.loop-step.power c.loop-step.invariant c.in_ok-power-2.power
    c.in_ok-power-2.ensures

pub returns-in_err-power : goal.returns-in_err-power
returns-in_err-power c = handed_on c.args.base.now.arity _ _ c.in_err-power.field-0.0
    c.from_residual.result c.from_residual.ensures.1
    (stops_front c.args.base.now.arity [] _ c.in_err-power.field-0.0
    (subst (λ m. Stops m [] c.in_err-power.field-0.0) c.arity.ensures.arity
    c.in_err-power.ensures))

pub returns-in_err-power-2 : goal.returns-in_err-power-2
returns-in_err-power-2 c = handed_on c.args.base.now.arity _ _ c.in_err-power-2.field-0.0
    c.from_residual-in_err-power-2.result c.from_residual-in_err-power-2.ensures.1
    (power_stop c.args.base.now.arity c.args.at (terms_in c.args.base.now) c.loop-step._step
    c.loop-step.power c.loop-step.invariant c.args.exponent c.in_err-power-2.field-0.0
    c.loop-step-test.true c.in_err-power-2.ensures)

pub returns : goal.returns
returns c =
    let same : c.loop-step._step ≡ c.args.exponent = omega arith in
    subst (λ n. Raised c.args.base.now.arity c.args.at (terms_in c.args.base.now) n
    c.loop-step.power) same c.loop-step.invariant
