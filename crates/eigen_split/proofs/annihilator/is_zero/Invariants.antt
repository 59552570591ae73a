use Rattle.std.proofs.Common.{All, take}
use Rattle.eigen_split.specs.Residues.{IsNone}
use Rattle.eigen_split.proofs.annihilator.is_zero.Given as goal

abbrev pub invariant-loop-number : goal.invariant-loop-number
invariant-loop-number l = All IsNone (take l.number-index l.row)
