use Rattle.std.proofs.Common.{inl, inr, refl, string_bytes}
use Rattle.loop_model.specs.View.{program_of}
use Rattle.io_edge.proofs.Going.{refused_made}
use Rattle.command_parts.specs.Equations.{equation_in}
use Rattle.command_parts.specs.EquationReading.{IsUnread}
use Rattle.closing_commands.proofs.DecideTold.{answers_equation, leaves_equation, answers_unread}
use Rattle.closing_commands.proofs.decide_command.answer_to_equation.Goals as goal

pub answer_by_maps-requires : goal.answer_by_maps-requires
answer_by_maps-requires c = c.in-Ok.ensures.polynomial.arity

pub returns-in-Ok-clause-answers : goal.returns-in-Ok-clause-answers
returns-in-Ok-clause-answers c =
    answers_equation c.args.evidence (program_of c.args.lp.now)
    (string_bytes c.args.equation.now) c.args.budget.units c.args.meter.now
    c.answer_by_maps.new.meter c.answer_by_maps.result c.in-Ok.polynomial
    c.in-Ok.ensures.polynomial c.answer_by_maps.ensures.answer

pub returns-in-Ok-clause-leaves : goal.returns-in-Ok-clause-leaves
returns-in-Ok-clause-leaves c =
    inr (leaves_equation c.args.evidence (program_of c.args.lp.now)
    (string_bytes c.args.equation.now) c.args.budget.units c.args.meter.now
    c.answer_by_maps.new.meter c.answer_by_maps.result c.in-Ok.polynomial
    c.in-Ok.ensures.polynomial c.answer_by_maps.ensures.asked)

pub returns-in-Err-clause-answers : goal.returns-in-Err-clause-answers
returns-in-Err-clause-answers c =
    answers_unread c.args.evidence (program_of c.args.lp.now) (string_bytes c.args.equation.now)
    c.args.budget.units c.args.meter.now c.args.meter.now c.into_answer.result refl
    (refused_made c.in-Err.refusal c.into_answer.result
    (IsUnread (program_of c.args.lp.now)
    (equation_in (program_of c.args.lp.now).names (string_bytes c.args.equation.now)))
    c.in-Err.ensures.unread c.into_answer.ensures)

pub returns-in-Err-clause-leaves : goal.returns-in-Err-clause-leaves
returns-in-Err-clause-leaves c = inl refl
