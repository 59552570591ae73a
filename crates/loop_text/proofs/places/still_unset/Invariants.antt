use Rattle.std.proofs.Common.{◌≡◌, take}
use Rattle.loops.specs.WellFormed.{still_unset}
use Rattle.loop_text.proofs.places.still_unset.Given as goal

abbrev pub invariant-loop-place : goal.invariant-loop-place
invariant-loop-place l = l.found.items ≡ still_unset l.targets (take l.place-index l.unset)
