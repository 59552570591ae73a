use Rattle.std.proofs.Common.{◌≡◌, ◌≤◌}
use Rattle.cert_form.specs.Cert.{polys_in, rows_in}
use Rattle.expansion.specs.Counts.{most_terms}
use Rattle.cert_checker.specs.Long.{step_terms, total}
use Rattle.cert_checker.proofs.identity.Step.test.Given as goal

abbrev pub invariant-loop-i : goal.invariant-loop-i
invariant-loop-i l = record {
  is : l.before ≡ total (step_terms (polys_in l.self.basis.now) (polys_in l.self.images.now)
      (rows_in l.self.rows.now)) l.i;
  few : l.before ≤ most_terms;
}
