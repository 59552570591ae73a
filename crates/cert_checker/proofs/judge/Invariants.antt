use Rattle.std.proofs.Common.{ℕ, ◌<◌, length}
use Rattle.loops.specs.Certificate.{PassesStep}
use Rattle.loop_model.specs.View.{program_of}
use Rattle.cert_form.specs.Cert.{certificate_of}
use Rattle.cert_checker.specs.Short.{ShortStep}
use Rattle.cert_checker.proofs.judge.Given as goal

abbrev pub invariant-loop-branch : goal.invariant-loop-branch
invariant-loop-branch l =
    let program = program_of l.lp in
    let c = certificate_of l.basis l.steps in
    record {
      passed : (a j : ℕ) → a < l.branch → j < length c.basis → PassesStep program c a j;
      short : (a : ℕ) → a < l.branch → ShortStep program c a;
    }
