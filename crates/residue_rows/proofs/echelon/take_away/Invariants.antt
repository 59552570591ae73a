use Rattle.std.proofs.Common.{pos, neg_ℤ}
use Rattle.residue_rows.specs.Modulus.{modulus}
use Rattle.residue_rows.specs.Numbers.{number_of, numbers_of}
use Rattle.residue_rows.proofs.Iterations.{IsBlendTo}
use Rattle.residue_rows.proofs.echelon.take_away.Given as goal

abbrev pub invariant-loop-column : goal.invariant-loop-column
invariant-loop-column l = IsBlendTo (pos modulus) (pos 1) (numbers_of l.initial.row.items)
    (neg_ℤ (number_of l.factor)) (numbers_of l.other.entries.items) l.column
    (numbers_of l.row.items)
