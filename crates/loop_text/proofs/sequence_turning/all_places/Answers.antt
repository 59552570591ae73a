use Rattle.std.proofs.Common.{◌++◌, [], ◌∷◌, ap, ◌∙◌}
use Rattle.loop_text.proofs.IterationReads.{no_places, one_place_more}
use Rattle.loop_text.proofs.sequence_turning.all_places.Goals as goal

pub loop-var-init : goal.loop-var-init
loop-var-init c = c.new-places.ensures.items ∙ no_places

pub loop-var-preserved : goal.loop-var-preserved
loop-var-preserved c = c.in_ok-push.ensures.items
    ∙ ap (λ l. l ++ c.loop-var.var ∷ []) c.loop-var.invariant ∙ one_place_more c.loop-var.var
