use Rattle.std.proofs.Common.{length}
use Rattle.cert_form.specs.Form.{poly_at}
use Rattle.poly.specs.Standing.{StandsFor}
use Rattle.cert_form.specs.Path.{path_bytes}
use Rattle.cert_form.proofs.Each.{ReadSoFar}
use Rattle.cert_form.proofs.parts.read_polys.Given as goal

abbrev pub invariant-loop-i : goal.invariant-loop-i
invariant-loop-i l =
    ReadSoFar (StandsFor (length l.names)) (poly_at l.names) (path_bytes l.path) l.list l.i l.found
