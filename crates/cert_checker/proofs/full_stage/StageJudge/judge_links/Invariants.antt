use Rattle.std.proofs.Common.{ℕ, ◌<◌}
use Rattle.corollaries.specs.Stage.{in_links}
use Rattle.cert_checker.specs.StageJudge.{HoldsBy}
use Rattle.cert_checker.proofs.full_stage.StageJudge.judge_links.Given as goal

abbrev pub invariant-loop-i : goal.invariant-loop-i
invariant-loop-i l = (j : ℕ) → j < l.i → HoldsBy l.self (in_links j)
