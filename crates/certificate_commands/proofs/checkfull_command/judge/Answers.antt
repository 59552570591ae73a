use Rattle.std.proofs.lemmas.Result.{IfOk-weaker}
use Rattle.loop_model.specs.View.{program_of}
use Rattle.io_edge.specs.Views.{answer_view}
use Rattle.task_lists.specs.View.{full_of}
use Rattle.certificate_commands.proofs.CheckfullJudgements.{verdict_said, refused_said}
use Rattle.certificate_commands.proofs.checkfull_command.judge.Goals as goal

pub returns-in-Ok-check_full : goal.returns-in-Ok-check_full
returns-in-Ok-check_full c =
    let verdict = c.in-Ok-check_full.ensures in
    IfOk-weaker c.verdict_answer.result _ _
    (λ a says. verdict_said (program_of c.args.lp.now) c.args.bytes.now (full_of c.in-Ok.cert)
    (answer_view a) c.in-Ok.ensures.ok c.in-Ok-check_full.verdict verdict.free verdict.verdict
    verdict.complete verdict.few says)
    c.verdict_answer.ensures

pub returns : goal.returns
returns c =
    IfOk-weaker c.judge_refusal.result _ _
    (λ a says. refused_said (program_of c.args.lp.now) c.args.bytes.now (full_of c.in-Ok.cert)
    (answer_view a) c.in-Ok.ensures.ok c.in-Err-check_full.e c.in-Err-check_full.ensures.refused
    says)
    c.judge_refusal.ensures
