use Rattle.std.proofs.Common.{All, take}
use Rattle.eigen_split.specs.Residues.{IsNone}
use Rattle.eigen_split.proofs.annihilator.are_zero.Given as goal

abbrev pub invariant-loop-row : goal.invariant-loop-row
invariant-loop-row l = All (λ row. All IsNone row.items) (take l.row-index l.rows)
