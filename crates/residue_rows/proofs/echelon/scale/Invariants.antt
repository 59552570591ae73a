use Rattle.std.proofs.Common.{pos, []}
use Rattle.residue_rows.specs.Modulus.{modulus}
use Rattle.residue_rows.specs.Numbers.{number_of, numbers_of}
use Rattle.residue_rows.proofs.Iterations.{IsBlendTo}
use Rattle.residue_rows.proofs.echelon.scale.Given as goal

abbrev pub invariant-loop-column : goal.invariant-loop-column
invariant-loop-column l = IsBlendTo (pos modulus) (number_of l.by)
    (numbers_of l.initial.row.items) (pos 0) [] l.column (numbers_of l.row.items)
