use Rattle.std.proofs.Common.{refl, ap, map, ◌∙◌}
use Rattle.std.proofs.lemmas.List.{map-append}
use Rattle.frac128.specs.FracMeaning.{fraction_of}
use Rattle.poly.specs.View.{term_of}
use Rattle.algebra.proofs.Lists.{take_next}
use Rattle.task_lists.proofs.Copies.{begin_wider, step_wider}
use Rattle.task_lists.proofs.widening.wider_terms.Goals as goal

pub loop-term-init : goal.loop-term-init
loop-term-init c = begin_wider _ _ _
    (ap (map (term_of fraction_of)) c.in_ok-out.ensures.items)

pub loop-term-preserved : goal.loop-term-preserved
loop-term-preserved c =
    let t = term_of fraction_of in
    step_wider _ _ _ _ _ _ _ _ (take_next t _ _ _ c.loop-term-test.true c.term-item.is)
    (ap (map t) c.in_ok-push.ensures.items ∙ map-append t _ _) c.in_ok-mono.ensures.wider refl
    c.loop-term.invariant
