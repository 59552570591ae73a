use Rattle.std.proofs.Common.{refl, inr}
use Rattle.loop_model.specs.View.{program_of}
use Rattle.loop_text.specs.LoopReader.{loop_of}
use Rattle.io_edge.specs.Change.{◌⟶◌}
use Rattle.io_edge.proofs.Going.{replied, at_end}
use Rattle.io_edge.proofs.Readings.{refused_says, reading_ends}
use Rattle.command_parts.specs.FaultTexts.{loop_refusal}
use Rattle.certificate_commands.proofs.full_command.answer_to.Goals as goal

pub returns-in-Ok : goal.returns-in-Ok
returns-in-Ok g c =
    let before = c.args.meter.now in
    let after = c.answer_to_loop.new.meter in
    reading_ends loop_of loop_refusal _ _ _ _ (program_of c.in-Ok.lp) (before ⟶ after) _
    c.in-Ok.ensures.read
    (at_end _ _ _ before after _ refl refl (inr c.answer_to_loop.ensures.worked)
    (replied c.answer_to_loop.result _ c.answer_to_loop.ensures.answer))

pub returns-in-Err : goal.returns-in-Err
returns-in-Err g c = refused_says loop_of loop_refusal _ _ _ _ c.args.meter.now c.in-Err.refusal
    c.into_answer.result c.in-Err.ensures.read c.into_answer.ensures
