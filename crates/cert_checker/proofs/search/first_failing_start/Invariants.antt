use Rattle.std.proofs.Common.{ℕ, ◌<◌, length}
use Rattle.cert_form.specs.Cert.{polys_in}
use Rattle.cert_checker.specs.Identities.{StartHolds}
use Rattle.cert_checker.proofs.search.first_failing_start.Given as goal

abbrev pub invariant-loop-i : goal.invariant-loop-i
invariant-loop-i l = (j : ℕ) → j < l.i → StartHolds (length l.images.items) (polys_in l.basis)
    (polys_in l.images) j
