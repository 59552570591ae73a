use Rattle.loop_model.specs.View.{program_of}
use Rattle.io_edge.specs.Views.{answer_view}
use Rattle.analysis_commands.proofs.BasisAnswers.{refused_named}
use Rattle.analysis_commands.proofs.Tallying.{refusal_given}
use Rattle.analysis_commands.proofs.gen_command.count_basis.Goals as goal

pub answer_to_refusal-requires : goal.answer_to_refusal-requires
answer_to_refusal-requires c =
    refused_named (program_of c.args.lp.now) c.open.new.self c.analyse.new.meter c.in-Err.error
    c.names.result.now c.names.ensures.names c.in-Err.ensures.refused

pub returns-in_ok-refusal-in-Err-clause-refused : goal.returns-in_ok-refusal-in-Err-clause-refused
returns-in_ok-refusal-in-Err-clause-refused c =
    refusal_given (program_of c.args.lp.now) c.usual-budget.result.units c.open.new.self
    c.analyse.new.meter c.names.result.now c.in-Err.error
    (answer_view c.in_ok-refusal-in-Err.refusal) c.usual-budget.ensures c.open.ensures
    c.in-Err.ensures.limit c.names.ensures.names c.in-Err.ensures.refused
    c.in_ok-refusal-in-Err.ensures
