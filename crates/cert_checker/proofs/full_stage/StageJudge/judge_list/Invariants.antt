use Rattle.std.proofs.Common.{ℕ, ◌<◌}
use Rattle.corollaries.specs.Stage.{in_list}
use Rattle.cert_checker.specs.StageJudge.{HoldsBy}
use Rattle.cert_checker.proofs.full_stage.StageJudge.judge_list.Given as goal

abbrev pub invariant-loop-i : goal.invariant-loop-i
invariant-loop-i l = (j : ℕ) → j < l.i → HoldsBy l.self (in_list j)
