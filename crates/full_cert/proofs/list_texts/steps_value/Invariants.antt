use Rattle.full_cert.specs.Seen.{block_of}
use Rattle.full_cert.specs.Narrow.{AreRowsNarrow}
use Rattle.full_cert.specs.Written.{rows_data}
use Rattle.cert_form.proofs.Listed.{WrittenSoFar}
use Rattle.full_cert.proofs.list_texts.steps_value.Given as goal

abbrev pub invariant-loop-element : goal.invariant-loop-element
invariant-loop-element l = WrittenSoFar block_of rows_data AreRowsNarrow l.steps
    l.element-index l.values.items
