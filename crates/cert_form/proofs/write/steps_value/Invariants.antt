use Rattle.std.proofs.Common.{All}
use Rattle.cert_form.specs.Cert.{rows_in}
use Rattle.cert_form.specs.Written.{block_data, IsReadBack}
use Rattle.cert_form.proofs.Listed.{WrittenSoFar}
use Rattle.cert_form.proofs.write.steps_value.Given as goal

abbrev pub invariant-loop-block : goal.invariant-loop-block
invariant-loop-block l = WrittenSoFar rows_in (block_data l.names) (All (All (IsReadBack l.names)))
    l.steps.items l.block-index l.blocks.items
