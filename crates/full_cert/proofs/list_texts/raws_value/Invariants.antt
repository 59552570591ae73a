use Rattle.std.proofs.Common.{All}
use Rattle.poly.specs.Seen.{terms_in}
use Rattle.full_cert.specs.RawWritten.{raw_data}
use Rattle.poly_text.specs.Narrow.{IsNarrow}
use Rattle.cert_form.proofs.Listed.{WrittenSoFar}
use Rattle.full_cert.proofs.list_texts.raws_value.Given as goal

abbrev pub invariant-loop-element : goal.invariant-loop-element
invariant-loop-element g l = WrittenSoFar terms_in raw_data (All IsNarrow) l.polys
    l.element-index l.values.items
