use Rattle.std.specs.List.{flat_map}
use Rattle.corollaries.specs.Stage.{below}
use Rattle.cert_checker.specs.FullJudge.{Hold, branch_by}
use Rattle.cert_checker.proofs.full_judge.FullJudge.judge_round.Given as goal

abbrev pub invariant-loop-branch : goal.invariant-loop-branch
invariant-loop-branch l = Hold l.self (flat_map (branch_by l.self l.round) (below l.branch))
