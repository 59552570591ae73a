use Rattle.std.proofs.Common.{refl, inr}
use Rattle.loop_runs.specs.ChainSeen.{chain_in}
use Rattle.loop_text.specs.ChainReader.{chain_of}
use Rattle.io_edge.specs.Change.{◌⟶◌}
use Rattle.io_edge.proofs.Going.{replied, at_end}
use Rattle.io_edge.proofs.Readings.{refused_says, reading_ends}
use Rattle.command_parts.specs.FaultTexts.{loop_refusal}
use Rattle.analysis_commands.proofs.chain_command.answer_to.Goals as goal

pub returns-in-Ok : goal.returns-in-Ok
returns-in-Ok g c =
    let before = c.args.meter.now in
    let after = c.answer_to_chain.new.meter in
    reading_ends chain_of loop_refusal _ _ _ _ (chain_in c.in-Ok.chain) (before ⟶ after) _
    c.in-Ok.ensures.read
    (at_end _ _ _ before after _ refl refl (inr c.answer_to_chain.ensures.analysed)
    (replied c.answer_to_chain.result _ c.answer_to_chain.ensures.answer))

pub returns-in-Err : goal.returns-in-Err
returns-in-Err g c = refused_says chain_of loop_refusal _ _ _ _ c.args.meter.now c.in-Err.refusal
    c.into_answer.result c.in-Err.ensures.read c.into_answer.ensures
