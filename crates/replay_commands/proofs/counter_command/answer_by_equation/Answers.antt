use Rattle.std.proofs.Common.{string_bytes}
use Rattle.loop_model.specs.View.{program_of}
use Rattle.io_edge.proofs.Going.{refused_made}
use Rattle.command_parts.specs.Equations.{equation_in}
use Rattle.command_parts.specs.EquationReading.{IsUnread}
use Rattle.replay_commands.proofs.CounterTold.{answers_equation, answers_unread}
use Rattle.replay_commands.proofs.counter_command.answer_by_equation.Goals as goal

pub answer_by_search-requires : goal.answer_by_search-requires
answer_by_search-requires c = c.in-Ok.ensures.polynomial.arity

pub returns-in-Ok : goal.returns-in-Ok
returns-in-Ok c =
    answers_equation (program_of c.args.lp.now) (string_bytes c.args.request.equation.now)
    c.args.request.most
    c.answer_by_search.result c.in-Ok.polynomial c.in-Ok.ensures.polynomial
    c.answer_by_search.ensures

pub returns-in-Err : goal.returns-in-Err
returns-in-Err c =
    answers_unread (program_of c.args.lp.now) (string_bytes c.args.request.equation.now)
    c.args.request.most
    c.into_answer.result
    (refused_made c.in-Err.refusal c.into_answer.result
    (IsUnread (program_of c.args.lp.now)
    (equation_in (program_of c.args.lp.now).names (string_bytes c.args.request.equation.now)))
    c.in-Err.ensures.unread c.into_answer.ensures)
