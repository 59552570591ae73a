use Rattle.std.proofs.Common.{◌≡◌, subst, Err}
use Rattle.std.proofs.lemmas.Result.{IfOk-weaker}
use Rattle.flows.specs.Certificate.{IsVerdict}
use Rattle.cert_form.specs.Faults.{IfFault}
use Rattle.program_model.specs.GraphView.{graph_of}
use Rattle.program_checker.specs.Form.{cert_in}
use Rattle.program_checker.specs.View.{certificate_of, lists_of}
use Rattle.program_checker.specs.Verdicts.{verdict_of}
use Rattle.io_edge.specs.Views.{answer_view}
use Rattle.checkproof_command.specs.Found.{IsAnswerOf}
use Rattle.checkproof_command.specs.Views.{source_view}
use Rattle.checkproof_command.proofs.Judgements.{formed, read_so, forming_said, fault_said, can_be_found, valid_said, fails_said, stopped_said}
use Rattle.checkproof_command.proofs.command.judge.Goals as goal

pub returns-in-Err : goal.returns-in-Err
returns-in-Err c =
    IfOk-weaker c.map_refusal.result _ _
    (λ a says. forming_said (source_view c.args.source.now) c.args.bytes.now (answer_view a)
    c.in-Err.stop c.in-Err.ensures.stops says) c.map_refusal.ensures

pub returns-in-Err-read_program_cert : goal.returns-in-Err-read_program_cert
returns-in-Err-read_program_cert c =
    let s = source_view c.args.source.now in
    let made = c.in-Ok.ensures in
    let is_formed = formed s.program c.in-Ok.graph made.graph made.same made.edges made.points
    made.free in
    IfOk-weaker c.certificate_refusal.result _ _
    (λ a says. fault_said s c.args.bytes.now c.in-Ok.graph is_formed (answer_view a)
    c.in-Err-read_program_cert.e
    (subst (λ ns. IfFault c.in-Err-read_program_cert.e
    (λ f. cert_in ns (graph_of c.in-Ok.graph) c.args.bytes.now ≡ Err f)) c.names.ensures.names
    c.in-Err-read_program_cert.ensures) says) c.certificate_refusal.ensures

pub valid_answer-requires-clause-found : goal.valid_answer-requires-clause-found
valid_answer-requires-clause-found c =
    let s = source_view c.args.source.now in
    let g = c.in-Ok.graph in
    let cert = c.in-Ok-read_program_cert.cert in
    let made = c.in-Ok.ensures in
    let is_formed = formed s.program g made.graph made.same made.edges made.points made.free in
    can_be_found s c.args.bytes.now g is_formed cert
    (read_so s.program g cert c.args.bytes.now _ c.names.ensures.names
    c.in-Ok-read_program_cert.ensures)

pub returns-in-Ok-Valid : goal.returns-in-Ok-Valid
returns-in-Ok-Valid c =
    let s = source_view c.args.source.now in
    let g = c.in-Ok.graph in
    let cert = c.in-Ok-read_program_cert.cert in
    let made = c.in-Ok.ensures in
    let is_formed = formed s.program g made.graph made.same made.edges made.points made.free in
    IfOk-weaker c.valid_answer.result _ _
    (λ a found. valid_said s c.args.bytes.now g is_formed cert
    (read_so s.program g cert c.args.bytes.now _ c.names.ensures.names
    c.in-Ok-read_program_cert.ensures) (answer_view a)
    (subst (λ v. IsVerdict (graph_of g) (certificate_of cert) (verdict_of v))
    c.in-Ok-Valid.field-0-is c.in-Ok-Valid.ensures.verdict)
    (subst (λ t. IsAnswerOf t (lists_of cert) g.points.items (answer_view a))
    c.deref.ensures.value found)) c.valid_answer.ensures

pub returns-in-Ok-Fails : goal.returns-in-Ok-Fails
returns-in-Ok-Fails c =
    let s = source_view c.args.source.now in
    let g = c.in-Ok.graph in
    let cert = c.in-Ok-read_program_cert.cert in
    let made = c.in-Ok.ensures in
    let is_formed = formed s.program g made.graph made.same made.edges made.points made.free in
    IfOk-weaker c.step_line.result _ _
    (λ a says. fails_said s c.args.bytes.now g is_formed cert
    (read_so s.program g cert c.args.bytes.now _ c.names.ensures.names
    c.in-Ok-read_program_cert.ensures) (answer_view a)
    c.in-Ok-Fails.transition c.in-Ok-Fails.element
    (subst (λ v. IsVerdict (graph_of g) (certificate_of cert) (verdict_of v))
    c.in-Ok-Fails.field-0-is c.in-Ok-Fails.ensures.verdict) says) c.step_line.ensures

pub returns : goal.returns
returns c =
    let s = source_view c.args.source.now in
    let g = c.in-Ok.graph in
    let cert = c.in-Ok-read_program_cert.cert in
    let made = c.in-Ok.ensures in
    let is_formed = formed s.program g made.graph made.same made.edges made.points made.free in
    IfOk-weaker c.check_refusal.result _ _
    (λ a says. stopped_said s c.args.bytes.now g is_formed cert
    (read_so s.program g cert c.args.bytes.now _ c.names.ensures.names
    c.in-Ok-read_program_cert.ensures) (answer_view a)
    c.in-Err-check_program.e c.in-Err-check_program.ensures.refused says) c.check_refusal.ensures
