use Rattle.std.proofs.Common.{take, length}
use Rattle.loop_model.proofs.StartLaws.{Begun}
use Rattle.loop_model.proofs.loop_.Loop.start_map.Given as goal

abbrev pub invariant-loop-init : goal.invariant-loop-init
invariant-loop-init l = Begun (length l.self.names) (take l.init-index l.init-items) l.state.items
