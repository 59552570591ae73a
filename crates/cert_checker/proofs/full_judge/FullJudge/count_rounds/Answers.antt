use Rattle.std.proofs.Common.{arith}
use Rattle.std.proofs.lemmas.List.{length-map}
use Rattle.task_lists.specs.View.{round_in}
use Rattle.cert_checker.specs.FullJudge.{terms_by, round_by}
use Rattle.cert_checker.proofs.PartTotals.{several_next, several_beyond}
use Rattle.cert_checker.proofs.full_judge.FullJudge.count_rounds.Goals as goal

pub returns-in-Err-clause-beyond : goal.returns-in-Err-clause-beyond
returns-in-Err-clause-beyond c =
    let j = c.args.self.now in
    several_beyond (terms_by j) (round_by j) _ _ c.loop-round.invariant _
    (omega (arith, c.loop-round-test.true, length-map j.cert.now.rounds.items round_in))
    c.in-Err.ensures.beyond

pub loop-round-preserved : goal.loop-round-preserved
loop-round-preserved c =
    let j = c.args.self.now in
    several_next (terms_by j) (round_by j) _ _
    c.loop-round.invariant c.in-Ok.more c.in-Ok.ensures.total
