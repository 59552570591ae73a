use Rattle.std.proofs.Common.{ap, map, ◌∙◌}
use Rattle.std.proofs.lemmas.List.{map-append}
use Rattle.frac128.specs.FracMeaning.{fraction_of}
use Rattle.poly.specs.View.{term_of}
use Rattle.algebra.proofs.Lists.{take_next}
use Rattle.expo.proofs.Stepping.{step_turned}
use Rattle.expo.proofs.operations.terms_inverse_form.Goals as goal

pub loop-term-preserved : goal.loop-term-preserved
loop-term-preserved c =
    let t = term_of fraction_of in
    step_turned c.args.count _ _ _ _ _ _ (take_next t _ _ _ c.loop-term-test.true c.term-item.is)
    (ap (map t) c.in_ok-push.ensures.items ∙ map-append t _ _) c.in_ok-mono.ensures.ok
    c.coefficient_inverse_form-coef.ensures c.loop-term.invariant
