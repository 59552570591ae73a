use Rattle.std.proofs.Common.{All}
use Rattle.cert_form.specs.Cert.{polys_in}
use Rattle.cert_form.specs.Written.{row_data, IsReadBack}
use Rattle.cert_form.proofs.Listed.{WrittenSoFar}
use Rattle.cert_form.proofs.write.block_value.Given as goal

abbrev pub invariant-loop-row : goal.invariant-loop-row
invariant-loop-row l = WrittenSoFar polys_in (row_data l.names) (All (IsReadBack l.names))
    l.block.items l.row-index l.rows.items
