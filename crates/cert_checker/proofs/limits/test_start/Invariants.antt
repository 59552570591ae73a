use Rattle.std.proofs.Common.{◌≡◌, ◌≤◌}
use Rattle.cert_form.specs.Cert.{polys_in}
use Rattle.expansion.specs.Counts.{most_terms}
use Rattle.cert_checker.specs.Long.{start_terms, total}
use Rattle.cert_checker.proofs.limits.test_start.Given as goal

abbrev pub invariant-loop-i : goal.invariant-loop-i
invariant-loop-i l = record {
  is : l.before ≡ total (start_terms (polys_in l.basis) (polys_in l.images)) l.i;
  few : l.before ≤ most_terms;
}
