use Rattle.std.proofs.Common.{refl, inl}
use Rattle.loop_runs.specs.ChainSeen.{chain_in}
use Rattle.loop_text.specs.ChainReader.{chain_of}
use Rattle.io_edge.specs.Change.{◌⟶◌}
use Rattle.io_edge.proofs.Going.{replied, at_end}
use Rattle.io_edge.proofs.Readings.{refused_says, reading_ends}
use Rattle.command_parts.specs.FaultTexts.{loop_refusal}
use Rattle.replay_commands.proofs.chainrun_command.answer_to.Goals as goal

pub returns-in-Ok : goal.returns-in-Ok
returns-in-Ok g c m =
    reading_ends chain_of loop_refusal _ _ _ _ (chain_in c.in-Ok.chain) (m ⟶ m) _
    c.in-Ok.ensures.read
    (at_end _ _ _ m m _ refl refl (inl refl) (replied c.answer_of.result _ c.answer_of.ensures))

pub returns-in-Err : goal.returns-in-Err
returns-in-Err g c m = refused_says chain_of loop_refusal _ _ _ _ m c.in-Err.refusal
    c.into_answer.result c.in-Err.ensures.read c.into_answer.ensures
