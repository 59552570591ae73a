use Rattle.std.proofs.Common.{arith}
use Rattle.std.proofs.lemmas.List.{length-map}
use Rattle.algebra.specs.Each.{Each}
use Rattle.task_lists.specs.View.{round_in}
use Rattle.cert_checker.specs.FullJudge.{program_by, cert_by}
use Rattle.cert_checker.specs.FullWide.{IsPastPart}
use Rattle.cert_checker.proofs.Stopping.{several_hold, first_several, several_stop, passed_on}
use Rattle.cert_checker.proofs.full_judge.FullJudge.judge_rounds.Goals as goal

pub loop-round-init : goal.loop-round-init
unfolding Each
loop-round-init c = tt

pub judge_round-requires-clause-round : goal.judge_round-requires-clause-round
judge_round-requires-clause-round c =
    omega (arith, c.loop-round-test.true, length-map c.args.self.now.cert.now.rounds.items round_in)

pub loop-round-preserved : goal.loop-round-preserved
loop-round-preserved c = several_hold _ _ c.loop-round.round c.loop-round.invariant
    c.in_ok-judge_round.ensures.holds

pub returns-in_err-judge_round-clause-stops : goal.returns-in_err-judge_round-clause-stops
returns-in_err-judge_round-clause-stops c =
    let j = c.args.self.now in
    let n = length-map j.cert.now.rounds.items round_in in
    passed_on _ _ _ c.from_residual.ensures.1 (several_stop _ _
    (IsPastPart (program_by j) (cert_by j)) _ _ c.loop-round.round
    (omega (arith, c.loop-round-test.true, n)) c.loop-round.invariant _
    c.in_err-judge_round.ensures.stops)

pub returns-clause-holds : goal.returns-clause-holds
returns-clause-holds c =
    let n = length-map c.args.self.now.cert.now.rounds.items round_in in
    first_several _ _ _ c.loop-round.round (omega (arith, c.loop-round-test.false, n))
    c.loop-round.invariant
