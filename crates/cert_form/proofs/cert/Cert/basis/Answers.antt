use Rattle.std.proofs.Common.{subst}
use Rattle.loops.specs.Certificate.{AreOver}
use Rattle.cert_form.specs.Cert.{OverVariables}
use Rattle.cert_form.proofs.Kept.{kept_over}
use Rattle.cert_form.proofs.cert.Cert.basis.Goals as goal

pub returns-clause-over : goal.returns-clause-over
returns-clause-over c = subst (λ (v : OverVariables). AreOver v.arity v.certificate) c.self.view_is
    (kept_over c.self.inside.arity c.self.inside.basis c.self.inside.steps c.self.invariant)
