use Rattle.std.proofs.Common.{length, subst}
use Rattle.loop_model.proofs.Formed.{formed}
use Rattle.loop_model.specs.View.{program_of}
use Rattle.analysis_commands.proofs.BasisAnswers.{refused_named}
use Rattle.full_trace.specs.Late.{IfUntraceable}
use Rattle.full_trace.specs.Traced.{IsTraceIn}
use Rattle.certificate_commands.specs.FullMade.{IsFoundBy}
use Rattle.certificate_commands.proofs.FullMaking.{found_by, has_opened, has_analysed, has_traced, unformed_said, late_said, unanalysed_said, untraced_said, certified_said}
use Rattle.certificate_commands.proofs.FullRefusing.{unformed_named, stopped_named}
use Rattle.certificate_commands.proofs.full_answers.answer_to_loop.Goals as goal
use Rattle.certificate_commands.proofs.full_answers.answer_to_loop.Goals.{After-open-2}

-- ---- before the analysis
pub answer_to_refusal-requires : goal.answer_to_refusal-requires
answer_to_refusal-requires c =
    unformed_named (program_of c.args.lp.now) c.in-Err-Analysis.error c.names.result.now
    c.names.ensures.names (subst (IfUntraceable (program_of c.args.lp.now))
    c.in-Err-Analysis.field-0-is c.in-Err-Analysis.ensures.refused)

pub returns-in-Err-Late-clause-answer : goal.returns-in-Err-Late-clause-answer
returns-in-Err-Late-clause-answer c =
    late_said c.args.lp.now c.args.budget.units c.open.new.self c.open.ensures
    c.late_answer.result c.in-Err-Late.branch (subst (IfUntraceable (program_of c.args.lp.now))
    c.in-Err-Late.field-0-is c.in-Err-Late.ensures.refused) c.late_answer.ensures

pub returns-in-Err-Analysis-clause-answer : goal.returns-in-Err-Analysis-clause-answer
returns-in-Err-Analysis-clause-answer c =
    unformed_said c.args.lp.now c.args.budget.units c.open.new.self c.open.ensures
    c.answer_to_refusal.result c.names.result.now c.names.ensures.names c.in-Err-Analysis.error
    (subst (IfUntraceable (program_of c.args.lp.now)) c.in-Err-Analysis.field-0-is
    c.in-Err-Analysis.ensures.refused) c.answer_to_refusal.ensures

pub returns-in-Err-Late-clause-worked : goal.returns-in-Err-Late-clause-worked
returns-in-Err-Late-clause-worked c =
    has_opened c.args.lp.now c.args.budget.units c.open.new.self c.open.ensures

pub returns-in-Err-Analysis-clause-worked : goal.returns-in-Err-Analysis-clause-worked
returns-in-Err-Analysis-clause-worked c =
    has_opened c.args.lp.now c.args.budget.units c.open.new.self c.open.ensures

-- ---- the analysis
pub answer_to_refusal-requires-in-Err : goal.answer_to_refusal-requires-in-Err
answer_to_refusal-requires-in-Err c =
    refused_named (program_of c.args.lp.now) c.open.new.self c.analyse.new.meter c.in-Err.error
    c.names-in-Err.result.now c.names-in-Err.ensures.names c.in-Err.ensures.refused

pub returns-in-Err-clause-answer : goal.returns-in-Err-clause-answer
returns-in-Err-clause-answer c =
    unanalysed_said c.args.lp.now c.args.budget.units c.open.new.self c.analyse.new.meter
    c.open.ensures c.in-Err.ensures.limit c.answer_to_refusal-in-Err.result
    c.names-in-Err.result.now c.names-in-Err.ensures.names c.in-Err.error c.in-Err.ensures.refused
    c.in-Ok.ensures.all_at_zero c.answer_to_refusal-in-Err.ensures

pub returns-in-Err-clause-worked : goal.returns-in-Err-clause-worked
returns-in-Err-clause-worked c =
    has_analysed c.args.lp.now c.args.budget.units c.open.new.self c.analyse.new.meter
    c.open.ensures c.in-Err.ensures.limit c.in-Err.ensures.follows

-- what it has found
found : (c : After-open-2) → IsFoundBy (program_of c.args.lp.now) c.args.budget.units
    c.in-Ok-analyse.found
found c = found_by (program_of c.args.lp.now) c.args.budget.units c.open.new.self
    c.analyse.new.meter c.open.ensures c.in-Ok-analyse.ensures.limit c.in-Ok-analyse.found
    c.in-Ok-analyse.ensures.free c.in-Ok-analyse.ensures.forms c.in-Ok-analyse.ensures.closed
    c.within_limit.ensures.within c.in-Ok-analyse.ensures.rounds c.in-Ok-analyse.ensures.basis
    c.in-Ok-analyse.ensures.certificate c.in-Ok-analyse.ensures.over
    c.in-Ok-analyse.ensures.square

-- ---- the trace
pub answer_to_refusal-requires-in-Err-trace : goal.answer_to_refusal-requires-in-Err-trace
answer_to_refusal-requires-in-Err-trace c =
    stopped_named (program_of c.args.lp.now) c.in-Ok-analyse.found.rounds c.trace.new.meter
    c.in-Err-trace.error (length c.names-in-Err-trace.result.now)
    (c.in-Err-trace.ensures.refused (program_of c.args.lp.now) (formed c.args.lp.now)
    c.in-Ok.ensures.setting)

pub returns-in-Ok-trace-clause-answer : goal.returns-in-Ok-trace-clause-answer
returns-in-Ok-trace-clause-answer c =
    certified_said c.args.lp.now c.args.budget.units c.open-2.new.self c.trace.new.meter
    c.open-2.ensures c.in-Ok-trace.ensures.limit c.found_answer.result
    c.names-in-Ok-trace.result.now
    c.names-in-Ok-trace.ensures.names c.in-Ok-analyse.found
    (found (goal.at.returns-in-Ok-trace-clause-answer c).After-open-2) c.in-Ok-trace.told
    c.certificate_of.result
    (c.in-Ok-trace.ensures.traced (program_of c.args.lp.now) (formed c.args.lp.now)
    c.in-Ok.ensures.setting)
    (subst (λ m. IsTraceIn m c.in-Ok-trace.told) c.in-Ok.ensures.setting.arity
    c.in-Ok-trace.ensures.over) c.certificate_of.ensures c.found_answer.ensures

pub returns-in-Err-trace-clause-answer : goal.returns-in-Err-trace-clause-answer
returns-in-Err-trace-clause-answer c =
    untraced_said c.args.lp.now c.args.budget.units c.open-2.new.self c.trace.new.meter
    c.open-2.ensures c.in-Err-trace.ensures.limit c.answer_to_refusal-in-Err-trace.result
    c.names-in-Err-trace.result.now c.names-in-Err-trace.ensures.names c.in-Ok-analyse.found
    (found (goal.at.returns-in-Err-trace-clause-answer c).After-open-2) c.in-Err-trace.error
    (c.in-Err-trace.ensures.refused (program_of c.args.lp.now) (formed c.args.lp.now)
    c.in-Ok.ensures.setting) c.answer_to_refusal-in-Err-trace.ensures

pub returns-in-Ok-trace-clause-worked : goal.returns-in-Ok-trace-clause-worked
returns-in-Ok-trace-clause-worked c =
    has_traced c.args.lp.now c.args.budget.units c.open-2.new.self c.trace.new.meter
    c.open-2.ensures c.in-Ok-trace.ensures.limit c.in-Ok-analyse.found
    (found (goal.at.returns-in-Ok-trace-clause-worked c).After-open-2)
    (c.in-Ok-trace.ensures.follows (program_of c.args.lp.now) (formed c.args.lp.now)
    c.in-Ok.ensures.setting)

pub returns-in-Err-trace-clause-worked : goal.returns-in-Err-trace-clause-worked
returns-in-Err-trace-clause-worked c =
    has_traced c.args.lp.now c.args.budget.units c.open-2.new.self c.trace.new.meter
    c.open-2.ensures c.in-Err-trace.ensures.limit c.in-Ok-analyse.found
    (found (goal.at.returns-in-Err-trace-clause-worked c).After-open-2)
    (c.in-Err-trace.ensures.follows (program_of c.args.lp.now) (formed c.args.lp.now)
    c.in-Ok.ensures.setting)
