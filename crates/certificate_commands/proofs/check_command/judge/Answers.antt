use Rattle.std.proofs.Common.{rules, length, ◌≡◌, sym, ap, ◌∙◌}
use Rattle.std.proofs.lemmas.List.{length-map}
use Rattle.std.proofs.lemmas.Result.{IfOk-weaker}
use Rattle.loops.specs.Certificate.{IsOver}
use Rattle.loop_model.specs.View.{program_of}
use Rattle.cert_checker.specs.Views.{verdict_of}
use Rattle.certificate_commands.specs.CheckTexts.{verdict}
use Rattle.io_edge.specs.Views.{answer_view}
use Rattle.certificate_commands.proofs.CheckJudgements.{IsRead, is_read, judged_said, refused_said}
use Rattle.certificate_commands.proofs.check_command.judge.Goals as goal

pub returns-in-Ok-check : goal.returns-in-Ok-check
returns-in-Ok-check c =
    let l = program_of c.args.lp.now in
    let count : length c.branches.result.now ≡ length l.branches =
    sym (length-map c.branches.result.now _) ∙ ap length c.branches.ensures.branches in
    let over : IsOver l c.in-Ok.cert.certificate = search rules in
    let read : IsRead l c.args.bytes.now c.in-Ok.cert.certificate =
    is_read l c.names.result.now _ c.args.bytes.now _ c.names.ensures.names count
    c.in-Ok.ensures.ok c.in-Ok.ensures.complete over in
    IfOk-weaker c.verdict_answer.result _ _
    (λ a says. judged_said l c.args.bytes.now c.in-Ok.cert.certificate (answer_view a)
    (verdict (verdict_of c.in-Ok-check.verdict)) read
    (c.in-Ok-check.ensures.free, c.in-Ok-check.ensures.verdict, c.in-Ok-check.ensures.short)
    says)
    c.verdict_answer.ensures

pub returns : goal.returns
returns c =
    let l = program_of c.args.lp.now in
    let count : length c.branches.result.now ≡ length l.branches =
    sym (length-map c.branches.result.now _) ∙ ap length c.branches.ensures.branches in
    let over : IsOver l c.in-Ok.cert.certificate = search rules in
    let read : IsRead l c.args.bytes.now c.in-Ok.cert.certificate =
    is_read l c.names.result.now _ c.args.bytes.now _ c.names.ensures.names count
    c.in-Ok.ensures.ok c.in-Ok.ensures.complete over in
    IfOk-weaker c.check_refusal.result _ _
    (λ a says. refused_said l c.args.bytes.now c.in-Ok.cert.certificate
    (answer_view a) read c.in-Err-check.e c.in-Err-check.ensures.refused says)
    c.check_refusal.ensures
