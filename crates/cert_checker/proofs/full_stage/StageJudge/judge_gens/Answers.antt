use Rattle.std.proofs.Common.{arith}
use Rattle.std.proofs.lemmas.List.{length-map}
use Rattle.poly.specs.Seen.{terms_each}
use Rattle.cert_checker.proofs.Stopping.{here_stops, more_hold, passed_on}
use Rattle.cert_checker.proofs.full_stage.StageJudge.judge_gens.Goals as goal

pub loop-i-init : goal.loop-i-init
loop-i-init c = λ j l. absurd (omega arith)

pub is_made-requires-clause-place : goal.is_made-requires-clause-place
is_made-requires-clause-place c =
    let n = length-map c.args.self.now.stage.now.gens.items (λ row. terms_each row.items) in
    omega (arith, c.loop-i-test.true, n, c.requires.judge.counts.gens)

pub loop-i-preserved : goal.loop-i-preserved
loop-i-preserved c =
    more_hold _ c.loop-i.i c.loop-i.invariant c.in_ok-told.ensures.holds c.is_made.ensures.holds

pub returns-in_err-told-clause-stops : goal.returns-in_err-told-clause-stops
returns-in_err-told-clause-stops c =
    let n = length-map c.args.self.now.stage.now.gens.items (λ row. terms_each row.items) in
    passed_on _ _ _ c.from_residual.ensures.1 (here_stops _ _ _ c.loop-i.i
    (omega (arith, c.loop-i-test.true, n, c.requires.judge.counts.gens)) c.loop-i.invariant _
    c.is_made.ensures.holds c.is_made.ensures.wide _ c.in_err-told.ensures.stops)

pub returns-clause-holds : goal.returns-clause-holds
returns-clause-holds c =
    let n = length-map c.args.self.now.stage.now.gens.items (λ row. terms_each row.items) in
    λ j l. c.loop-i.invariant j
    (omega (arith, l, c.loop-i-test.false, n, c.requires.judge.counts.gens))
