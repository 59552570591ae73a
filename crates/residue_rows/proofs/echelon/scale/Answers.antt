use Rattle.std.proofs.Common.{pos, [], arith}
use Rattle.residue_rows.specs.Modulus.{modulus}
use Rattle.residue_rows.specs.Numbers.{number_of}
use Rattle.residue_rows.proofs.Entries.{scaled_step, blend_done, row_length}
use Rattle.residue_rows.proofs.echelon.scale.Goals as goal

pub loop-column-preserved : goal.loop-column-preserved
loop-column-preserved c =
    let w = row_length (pos modulus) (number_of c.args.by.now) c.args.row.now.items (pos 0) [] _
    c.loop-column.invariant in
    scaled_step (pos modulus) c.args.row.now.items c.loop-column.row.items c.loop-column.column
    c.args.by.now c.index.result.now c.mul.result
    (omega (arith, c.loop-column-test.true, c.len-column-end.ensures, c.args.row.now.ok.0, w))
    c.index.ensures c.mul.ensures c.loop-column.invariant

pub returns-clause-row : goal.returns-clause-row
returns-clause-row c =
    blend_done (pos modulus) (number_of c.args.by.now) c.args.row.now.items (pos 0) []
    c.loop-column.column c.len-column-end.result c.loop-column.row.items
    (omega (arith, c.len-column-end.ensures, c.args.row.now.ok.0))
    (omega (arith, c.loop-column-test.false)) (omega arith) c.loop-column.invariant
