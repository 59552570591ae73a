use Rattle.algebra.specs.Each.{Each}
use Rattle.residue_rows.proofs.Entries.{row_read, none_before, none_leads}
use Rattle.residue_rows.proofs.echelon.row_in.Goals as goal

pub loop-row-init : goal.loop-row-init
unfolding Each
loop-row-init c = tt

pub loop-row-preserved : goal.loop-row-preserved
loop-row-preserved c =
    none_before c.args.rows.now c.loop-row.row-index c.args.column c.row-item.result
    c.loop-row-test.true c.row-item.is c.if-row-column.false c.loop-row.invariant

pub returns-then-row-column-clause-within : goal.returns-then-row-column-clause-within
returns-then-row-column-clause-within c =
    row_read _ _ c.loop-row-test.true c.row-item.is

pub returns-clause-none : goal.returns-clause-none
returns-clause-none c = λ n.
    none_leads c.args.rows.now c.loop-row.row-index c.args.column c.loop-row-test.false
    c.loop-row.invariant
