use Rattle.std.proofs.Common.{take, length}
use Rattle.loop_model.specs.View.{program_of}
use Rattle.loop_model.specs.Maps.{entry}
use Rattle.loop_model.proofs.BranchLaws.{Turned}
use Rattle.loop_model.proofs.loop_.Loop.branch_map.Given as goal

abbrev pub invariant-loop-statement : goal.invariant-loop-statement
invariant-loop-statement l = Turned (length l.self.names) (entry (program_of l.self))
    (take l.statement-index l.statement-items) l.state.items
