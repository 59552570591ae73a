use Rattle.poly.specs.Seen.{terms_in}
use Rattle.cert_form.specs.Written.{poly_data, IsReadBack}
use Rattle.cert_form.proofs.Listed.{WrittenSoFar}
use Rattle.cert_form.proofs.write.basis_value.Given as goal

abbrev pub invariant-loop-p : goal.invariant-loop-p
invariant-loop-p l = WrittenSoFar terms_in (poly_data l.names) (IsReadBack l.names) l.basis.items
    l.p-index l.texts.items
