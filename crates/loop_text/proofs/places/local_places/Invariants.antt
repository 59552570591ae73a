use Rattle.std.proofs.Common.{◌≡◌}
use Rattle.loops.specs.WellFormed.{local_places}
use Rattle.loop_text.proofs.places.local_places.Given as goal

abbrev pub invariant-loop-index : goal.invariant-loop-index
invariant-loop-index l = l.found.items ≡ local_places l.variables l.index
