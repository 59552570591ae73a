use Rattle.std.proofs.Common.{ap, sym, ◌++◌, ◌∷◌, [], ◌+◌, ◌∙◌}
use Rattle.loop_text.proofs.LocalPlaces.{places_more, no_places}
use Rattle.loop_text.proofs.places.local_places.Goals as goal

pub loop-index-init : goal.loop-index-init
loop-index-init c = c.new-found.ensures.items ∙ no_places c.args.variables

pub loop-index-preserved : goal.loop-index-preserved
loop-index-preserved c = c.in_ok-push.ensures.items
    ∙ ap (λ is. is ++ (c.args.variables + c.loop-index.index) ∷ []) c.loop-index.invariant
    ∙ sym (places_more c.args.variables c.loop-index.index)
