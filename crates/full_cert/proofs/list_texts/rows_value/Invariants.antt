use Rattle.full_cert.specs.Seen.{row_of}
use Rattle.full_cert.specs.Narrow.{ArePolysNarrow}
use Rattle.full_cert.specs.Written.{raws_data}
use Rattle.cert_form.proofs.Listed.{WrittenSoFar}
use Rattle.full_cert.proofs.list_texts.rows_value.Given as goal

abbrev pub invariant-loop-element : goal.invariant-loop-element
invariant-loop-element g l = WrittenSoFar row_of raws_data ArePolysNarrow l.rows
    l.element-index l.values.items
