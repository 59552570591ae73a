use Rattle.std.proofs.Common.{pos, length, take}
use Rattle.residue_rows.specs.Modulus.{modulus}
use Rattle.residue_rows.specs.Numbers.{numbers_of}
use Rattle.residue_rows.specs.LedRows.{leds_of}
use Rattle.residue_rows.proofs.Iterations.{IsRestTo}
use Rattle.residue_rows.proofs.echelon.reduce.Given as goal

abbrev pub invariant-loop-other : goal.invariant-loop-other
invariant-loop-other l = IsRestTo (pos modulus) (length l.initial.row.items) (leds_of l.rows)
    (numbers_of l.initial.row.items) (leds_of (take l.other-index l.rows))
    (numbers_of l.row.items)
