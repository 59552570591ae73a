use Rattle.std.proofs.Common.{pos, subst}
use Rattle.residue_rows.specs.Modulus.{modulus}
use Rattle.residue_rows.specs.EchelonForm.{Form, IsReducedEchelon}
use Rattle.residue_rows.proofs.echelon.Echelon.row_at.Goals as goal

pub returns-clause-kept : goal.returns-clause-kept
returns-clause-kept c =
    subst (λ (e : Form). IsReducedEchelon (pos modulus) e.width e.rows) c.self.view_is
    c.self.invariant
