use Rattle.std.proofs.Common.{◌≡◌, take}
use Rattle.loop_runs.proofs.parts.copy_names.Given as goal

abbrev pub invariant-loop-index : goal.invariant-loop-index
invariant-loop-index l = l.copy ≡ take l.index l.names
