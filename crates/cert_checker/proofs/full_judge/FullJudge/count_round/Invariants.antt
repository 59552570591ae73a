use Rattle.std.specs.List.{flat_map}
use Rattle.corollaries.specs.Stage.{below}
use Rattle.cert_checker.specs.FullJudge.{terms_by, branch_by}
use Rattle.cert_checker.specs.LongParts.{IsTotal}
use Rattle.cert_checker.proofs.full_judge.FullJudge.count_round.Given as goal

abbrev pub invariant-loop-branch : goal.invariant-loop-branch
invariant-loop-branch l = IsTotal (terms_by l.self) l.before
    (flat_map (branch_by l.self l.round) (below l.branch)) l.terms
