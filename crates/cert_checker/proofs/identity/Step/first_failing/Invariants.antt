use Rattle.std.proofs.Common.{ℕ, ◌<◌, length}
use Rattle.cert_form.specs.Cert.{polys_in, rows_in}
use Rattle.cert_checker.specs.Identities.{StepHolds}
use Rattle.cert_checker.proofs.identity.Step.first_failing.Given as goal

abbrev pub invariant-loop-i : goal.invariant-loop-i
invariant-loop-i l = (j : ℕ) → j < l.i → StepHolds (length l.self.images.now.items)
    (polys_in l.self.basis.now)
    (polys_in l.self.images.now) (rows_in l.self.rows.now) j
