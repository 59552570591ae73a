use Rattle.std.proofs.Common.{refl}
use Rattle.residue_rows.proofs.Entries.{first_step}
use Rattle.residue_rows.proofs.echelon.first_nonzero.Goals as goal

pub loop-column-preserved : goal.loop-column-preserved
loop-column-preserved c =
    first_step c.args.row.now c.loop-column.column c.loop-column-test.true c.index-row-column.is
    (c.if-not-is_zero.ensures.0 refl) c.loop-column.invariant
