use Rattle.cert_form.proofs.Listed.{RowSoFar}
use Rattle.cert_form.proofs.write.row_value.Given as goal

abbrev pub invariant-loop-position : goal.invariant-loop-position
invariant-loop-position l = RowSoFar l.names l.row.items l.position l.pairs.items
