use Rattle.std.specs.List.{flat_map}
use Rattle.corollaries.specs.Stage.{below}
use Rattle.cert_checker.specs.FullJudge.{Hold, round_by}
use Rattle.cert_checker.proofs.full_judge.FullJudge.judge_rounds.Given as goal

abbrev pub invariant-loop-round : goal.invariant-loop-round
invariant-loop-round l = Hold l.self (flat_map (round_by l.self) (below l.round))
