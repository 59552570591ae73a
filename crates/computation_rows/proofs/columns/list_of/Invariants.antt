use Rattle.std.proofs.Common.{length}
use Rattle.complete.specs.Completing.{AreLike}
use Rattle.computation_rows.proofs.columns.list_of.Given as goal

abbrev pub invariant-loop-item : goal.invariant-loop-item
invariant-loop-item g l = AreLike l.order (length l.names) l.list.items
