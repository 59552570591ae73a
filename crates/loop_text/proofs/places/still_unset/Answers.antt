use Rattle.std.proofs.Common.{ap, ◌∙◌}
use Rattle.std.proofs.lemmas.List.{take_all}
use Rattle.loops.specs.WellFormed.{still_unset}
use Rattle.loop_text.proofs.places.still_unset.Goals as goal

pub loop-place-init : goal.loop-place-init
loop-place-init c = c.new-found.ensures.items

pub returns : goal.returns
returns c = c.loop-place.invariant
    ∙ ap (still_unset c.args.targets.now) (take_all c.loop-place.place-index c.args.unset.now
    c.loop-place-test.false)
