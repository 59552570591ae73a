use Rattle.std.proofs.Common.{pos, Some, sym, ap, subst, ◌∙◌}
use Rattle.algebra.specs.Fraction.{inverse}
use Rattle.algebra.proofs.Wholes.{whole_injective}
use Rattle.frac128.specs.FracMeaning.{fraction_of}
use Rattle.loop_model.specs.ExpressionView.{IsDefined}
use Rattle.loop_runs.specs.Checked.{checked_product, unary_value}
use Rattle.loop_runs.proofs.Operations.{product_is}
use Rattle.loop_runs.proofs.values.unary_value.Goals as goal

pub returns-in-Neg : goal.returns-in-Neg
returns-in-Neg c =
    ap Some c.neg.ensures ∙ ap (λ o. unary_value o (fraction_of c.args.of.now)) (sym c.in-Neg.is)

pub div-requires : goal.div-requires
div-requires c =
    let defined = subst IsDefined c.in-Div.is c.requires in
    λ e. defined (whole_injective c.in-Div.by.value (pos 0) (sym c.whole.ensures ∙ e))

pub returns-in-Div : goal.returns-in-Div
returns-in-Div c =
    let p = fraction_of c.args.of.now in
    product_is c.div.result p _ c.div.ensures.ok c.div.ensures.wide
    ∙ ap (λ n. checked_product p (inverse n)) c.whole.ensures
    ∙ ap (λ o. unary_value o p) (sym c.in-Div.is)

pub returns-in-Power : goal.returns-in-Power
returns-in-Power c =
    c.power_of.ensures ∙ ap (λ o. unary_value o (fraction_of c.args.of.now)) (sym c.in-Power.is)
