use Rattle.full_cert.specs.Seen.{size_of}
use Rattle.full_cert.specs.Narrow.{IsNarrowNumber}
use Rattle.full_cert.specs.Written.{base_number_data}
use Rattle.cert_form.proofs.Listed.{WrittenSoFar}
use Rattle.full_cert.proofs.parts.base_value.Given as goal

abbrev pub invariant-loop-element : goal.invariant-loop-element
invariant-loop-element l = WrittenSoFar size_of base_number_data IsNarrowNumber l.base
    l.element-index l.values.items
