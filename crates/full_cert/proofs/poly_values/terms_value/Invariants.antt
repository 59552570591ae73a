use Rattle.poly_text.specs.Narrow.{IsNarrow}
use Rattle.poly.specs.View.{term_of}
use Rattle.frac128.specs.FracMeaning.{fraction_of}
use Rattle.full_cert.specs.RawWritten.{term_data}
use Rattle.cert_form.proofs.Listed.{WrittenSoFar}
use Rattle.full_cert.proofs.poly_values.terms_value.Given as goal

abbrev pub invariant-loop-term : goal.invariant-loop-term
invariant-loop-term l = WrittenSoFar (term_of fraction_of) term_data IsNarrow l.terms l.term-index
    l.values.items
