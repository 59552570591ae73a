use Rattle.std.proofs.Common.{string_bytes}
use Rattle.loop_model.specs.View.{program_of}
use Rattle.io_edge.proofs.Going.{refused_made}
use Rattle.command_parts.specs.Equations.{equation_in}
use Rattle.command_parts.specs.EquationReading.{IsUnread}
use Rattle.analysis_commands.proofs.MemberAnswers.{formed_says, unformed_says}
use Rattle.analysis_commands.proofs.questions.answer_to_equation.Goals as goal

pub answer_to_question-requires : goal.answer_to_question-requires
answer_to_question-requires c = c.in-Ok.ensures.polynomial.arity

pub returns-in-Ok : goal.returns-in-Ok
returns-in-Ok c = λ files idle untried.
    formed_says (program_of c.args.lp.now) (string_bytes c.args.equation.now) c.args.budget.units
    c.args.meter.now files idle untried c.answer_to_question.result c.in-Ok.p
    c.in-Ok.ensures.polynomial c.answer_to_question.new.meter c.answer_to_question.ensures.asked
    c.answer_to_question.ensures.answer

pub returns-in-Err : goal.returns-in-Err
returns-in-Err c = λ files idle untried.
    unformed_says (program_of c.args.lp.now) (string_bytes c.args.equation.now) c.args.budget.units
    c.args.meter.now files idle untried c.into_answer.result
    (refused_made c.in-Err.refusal c.into_answer.result
    (IsUnread (program_of c.args.lp.now)
    (equation_in (program_of c.args.lp.now).names (string_bytes c.args.equation.now)))
    c.in-Err.ensures.unread c.into_answer.ensures)
