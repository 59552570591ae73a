use Rattle.std.proofs.Common.{◌≡◌}
use Rattle.loops.specs.Turning.{places}
use Rattle.loop_text.proofs.sequence_turning.all_places.Given as goal

abbrev pub invariant-loop-var : goal.invariant-loop-var
invariant-loop-var l = l.places.items ≡ places 0 l.var
