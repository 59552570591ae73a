use Rattle.std.proofs.Common.{ℕ, ◌<◌}
use Rattle.corollaries.specs.Parts.{Holds, in_start}
use Rattle.cert_checker.specs.FullJudge.{program_by, cert_by}
use Rattle.cert_checker.proofs.full_judge.FullJudge.judge_starts.Given as goal

abbrev pub invariant-loop-i : goal.invariant-loop-i
invariant-loop-i l = (j : ℕ) → j < l.i → Holds (program_by l.self) (cert_by l.self) (in_start j)
