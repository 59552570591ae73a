use Rattle.std.proofs.Common.{length}
use Rattle.loop_model.proofs.BranchLaws.{Entered}
use Rattle.loop_model.proofs.loop_.Loop.entry.Given as goal

abbrev pub invariant-loop-index : goal.invariant-loop-index
invariant-loop-index l = Entered (length l.self.names) l._index l.state.items
