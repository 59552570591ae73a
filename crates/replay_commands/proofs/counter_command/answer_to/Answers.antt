use Rattle.std.proofs.Common.{refl, inl}
use Rattle.loop_model.specs.View.{program_of}
use Rattle.loop_text.specs.LoopReader.{loop_of}
use Rattle.io_edge.specs.Change.{◌⟶◌}
use Rattle.io_edge.proofs.Going.{replied, at_end}
use Rattle.io_edge.proofs.Readings.{refused_says, reading_ends}
use Rattle.command_parts.specs.FaultTexts.{loop_refusal}
use Rattle.replay_commands.proofs.counter_command.answer_to.Goals as goal

pub returns-in-Ok : goal.returns-in-Ok
returns-in-Ok g c m =
    reading_ends loop_of loop_refusal _ _ _ _ (program_of c.in-Ok.lp) (m ⟶ m) _ c.in-Ok.ensures.read
    (at_end _ _ _ m m _ refl refl (inl refl)
    (replied c.answer_by_equation.result _ c.answer_by_equation.ensures))

pub returns-in-Err : goal.returns-in-Err
returns-in-Err g c m = refused_says loop_of loop_refusal _ _ _ _ m c.in-Err.refusal
    c.into_answer.result c.in-Err.ensures.read c.into_answer.ensures
