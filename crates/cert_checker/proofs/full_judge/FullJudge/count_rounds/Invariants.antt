use Rattle.std.specs.List.{flat_map}
use Rattle.corollaries.specs.Stage.{below}
use Rattle.cert_checker.specs.FullJudge.{terms_by, round_by}
use Rattle.cert_checker.specs.LongParts.{IsTotal}
use Rattle.cert_checker.proofs.full_judge.FullJudge.count_rounds.Given as goal

abbrev pub invariant-loop-round : goal.invariant-loop-round
invariant-loop-round l = IsTotal (terms_by l.self) l.before
    (flat_map (round_by l.self) (below l.round)) l.terms
