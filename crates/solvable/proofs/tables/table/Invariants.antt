use Rattle.solvable.proofs.Rows.{Begun}
use Rattle.solvable.proofs.tables.table.Given as goal

abbrev pub invariant-loop-i : goal.invariant-loop-i
invariant-loop-i g l = Begun l.size l.i (λ i j b. g.F.Fn.post l.test (i, (j, tt)) b) l.table.items
