use Rattle.std.proofs.Common.{sym, ap, subst}
use Rattle.std.specs.Prelude.{All, length}
use Rattle.loop_model.specs.View.{program_of}
use Rattle.ideal_ops.specs.Calls.{AreOver}
use Rattle.invariant_fix.specs.Closing.{IsSquare}
use Rattle.analysis_commands.proofs.BasisAnswers.{has_analysed, closed_of, found_said, refused_said, refused_named}
use Rattle.analysis_commands.proofs.analysis.answer_to_analysis.Goals as goal

pub found_answer-requires-clause-arity : goal.found_answer-requires-clause-arity
found_answer-requires-clause-arity c =
    subst (λ n. AreOver n c.in-Ok.found.basis.items)
    (sym (ap length c.names.ensures.names)) c.in-Ok.ensures.over

pub found_answer-requires-clause-square : goal.found_answer-requires-clause-square
found_answer-requires-clause-square c =
    subst (λ n. All (λ rows. IsSquare n (length c.in-Ok.found.basis.items) rows.items)
    c.in-Ok.found.steps.items) (sym (ap length c.names.ensures.names)) c.in-Ok.ensures.square

pub answer_to_refusal-requires : goal.answer_to_refusal-requires
answer_to_refusal-requires c =
    refused_named (program_of c.args.lp.now) c.open.new.self c.analyse.new.meter c.in-Err.error
    c.names-in-Err.result.now c.names-in-Err.ensures.names c.in-Err.ensures.refused

pub returns-in-Ok-clause-answer : goal.returns-in-Ok-clause-answer
returns-in-Ok-clause-answer c =
    let l = program_of c.args.lp.now in
    found_said l c.args.budget.units c.open.new.self c.analyse.new.meter c.open.ensures
    c.in-Ok.ensures.limit
    c.found_answer.result c.names.result.now c.names.ensures.names c.args.kind c.in-Ok.found
    (closed_of l c.analyse.new.meter c.in-Ok.found c.in-Ok.ensures.free c.in-Ok.ensures.forms
    c.in-Ok.ensures.closed c.in-Ok.ensures.rounds c.in-Ok.ensures.basis)
    c.in-Ok.ensures.certificate c.found_answer.ensures.text
    c.found_answer.ensures.read_back

pub returns-in-Err-clause-answer : goal.returns-in-Err-clause-answer
returns-in-Err-clause-answer c =
    refused_said (program_of c.args.lp.now) c.args.budget.units c.open.new.self c.analyse.new.meter
    c.open.ensures c.in-Err.ensures.limit
    c.answer_to_refusal.result c.names-in-Err.result.now c.names-in-Err.ensures.names c.args.kind
    c.in-Err.error c.in-Err.ensures.refused c.answer_to_refusal.ensures

pub returns-in-Ok-clause-analysed : goal.returns-in-Ok-clause-analysed
returns-in-Ok-clause-analysed c =
    has_analysed (program_of c.args.lp.now) c.args.budget.units c.open.new.self c.analyse.new.meter
    c.open.ensures c.in-Ok.ensures.limit c.in-Ok.ensures.follows

pub returns-in-Err-clause-analysed : goal.returns-in-Err-clause-analysed
returns-in-Err-clause-analysed c =
    has_analysed (program_of c.args.lp.now) c.args.budget.units c.open.new.self c.analyse.new.meter
    c.open.ensures c.in-Err.ensures.limit c.in-Err.ensures.follows
