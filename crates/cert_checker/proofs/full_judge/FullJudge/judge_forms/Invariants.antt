use Rattle.std.proofs.Common.{◌≡◌, ℕ, ◌<◌, get_or, length, Vec, Global}
use Rattle.loop_model.specs.FracPoly.{FracPoly}
use Rattle.corollaries.specs.Parts.{Holds, in_forms}
use Rattle.cert_checker.specs.FullJudge.{program_by, cert_by}
use Rattle.cert_checker.specs.InverseForm.{IsInverseForm}
use Rattle.cert_checker.proofs.full_judge.FullJudge.judge_forms.Given as goal

abbrev pub invariant-loop-b : goal.invariant-loop-b
invariant-loop-b l = record {
  holds : (j : ℕ) → j < l.b → Holds (program_by l.self) (cert_by l.self) (in_forms j);
  count : length l.found.items ≡ l.b;
  back : (j : ℕ) (d : Vec FracPoly Global) → j < l.b
      → IsInverseForm (program_by l.self) l.self.cert.now j (get_or l.found.items j d);
}
