use Rattle.std.proofs.Common.{length}
use Rattle.cert_form.specs.Form.{row_at}
use Rattle.cert_form.specs.Cert.{IsRowOf}
use Rattle.cert_form.specs.Path.{path_bytes}
use Rattle.cert_form.proofs.Each.{ReadSoFar}
use Rattle.cert_form.proofs.cofactors.CofactorReader.read_rows.Given as goal

abbrev pub invariant-loop-i : goal.invariant-loop-i
invariant-loop-i l = ReadSoFar (IsRowOf (length l.self.names.now) l.self.elements)
    (row_at l.self.names.now l.self.sparse l.self.elements) (path_bytes l.path) l.list l.i l.found
