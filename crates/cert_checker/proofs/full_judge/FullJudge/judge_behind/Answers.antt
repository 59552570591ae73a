use Rattle.std.proofs.Common.{sym, subst}
use Rattle.std.proofs.lemmas.Result.{on_ok_weaker, IfErr-weaker}
use Rattle.cert_checker.specs.FullJudge.{program_by, cert_by, StopsAmong, further_by}
use Rattle.cert_checker.proofs.Behind.{forms_hold, starts_hold, forms_stop, starts_stop, rounds_stop, end_stops, further_hold}
use Rattle.cert_checker.proofs.StageSteps.{unless_err}
use Rattle.cert_checker.proofs.Stopping.{passed_on}
use Rattle.cert_checker.proofs.full_judge.FullJudge.judge_behind.Goals as goal

pub returns-in-Err-clause-stops : goal.returns-in-Err-clause-stops
returns-in-Err-clause-stops c =
    let program = program_by c.args.self.now in
    let cert = cert_by c.args.self.now in
    subst (StopsAmong c.args.self.now (further_by c.args.self.now)) (sym c.in_forms.ensures)
    (forms_stop program cert c.in-Err.stop c.in-Err.ensures.stops)

pub returns-in-Err-judge_starts-clause-stops : goal.returns-in-Err-judge_starts-clause-stops
returns-in-Err-judge_starts-clause-stops c =
    let program = program_by c.args.self.now in
    let cert = cert_by c.args.self.now in
    subst (StopsAmong c.args.self.now (further_by c.args.self.now)) (sym c.in_starts.ensures)
    (starts_stop program cert (forms_hold program cert c.in-Ok.ensures.holds)
    c.in-Err-judge_starts.stop c.in-Err-judge_starts.ensures.stops)

pub returns-in_err-judge_rounds-clause-stops : goal.returns-in_err-judge_rounds-clause-stops
returns-in_err-judge_rounds-clause-stops c =
    let program = program_by c.args.self.now in
    let cert = cert_by c.args.self.now in
    passed_on _ _ _ c.from_residual.ensures.1 (rounds_stop program cert
    (forms_hold program cert c.in-Ok.ensures.holds) (starts_hold program cert (unless_err _ _
    c.in_default.not-Err c.judge_starts.ensures.holds)) _ c.in_err-judge_rounds.ensures.stops)

pub returns-clause-holds : goal.returns-clause-holds
returns-clause-holds c =
    let program = program_by c.args.self.now in
    let cert = cert_by c.args.self.now in
    on_ok_weaker _ (λ ends. further_hold program cert
    (forms_hold program cert c.in-Ok.ensures.holds) (starts_hold program cert (unless_err _ _
    c.in_default.not-Err c.judge_starts.ensures.holds)) c.in_ok-judge_rounds.ensures.holds ends)
    c.judge_end.ensures.holds

pub returns-clause-stops : goal.returns-clause-stops
returns-clause-stops c =
    let program = program_by c.args.self.now in
    let cert = cert_by c.args.self.now in
    IfErr-weaker c.judge_end.result _ _ (λ e s. end_stops program cert
    (forms_hold program cert c.in-Ok.ensures.holds) (starts_hold program cert (unless_err _ _
    c.in_default.not-Err c.judge_starts.ensures.holds)) c.in_ok-judge_rounds.ensures.holds e s)
    c.judge_end.ensures.stops
