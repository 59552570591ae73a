use Rattle.std.proofs.Common.{refl}
use Rattle.loop_text.specs.LoopReader.{loop_of}
use Rattle.io_edge.specs.Change.{◌⟶◌}
use Rattle.loop_model.specs.View.{program_of}
use Rattle.io_edge.proofs.Readings.{refused_says, reading_ends}
use Rattle.command_parts.specs.FaultTexts.{loop_refusal}
use Rattle.analysis_commands.proofs.member_command.answer_to.Goals as goal

pub returns-in-Ok : goal.returns-in-Ok
returns-in-Ok g c =
    reading_ends loop_of loop_refusal _ _ _ _ (program_of c.in-Ok.lp)
    (c.args.meter.now ⟶ c.answer_to_equation.new.meter) _ c.in-Ok.ensures.read
    (c.answer_to_equation.ensures _ refl refl)

pub returns-in-Err : goal.returns-in-Err
returns-in-Err g c = refused_says loop_of loop_refusal _ _ _ _ c.args.meter.now c.in-Err.refusal
    c.into_answer.result c.in-Err.ensures.read c.into_answer.ensures
