use Rattle.std.proofs.Common.{refl, inr}
use Rattle.loop_text.specs.SeqReader.{sequences_of}
use Rattle.io_edge.specs.Change.{◌⟶◌}
use Rattle.io_edge.proofs.Going.{replied, at_end}
use Rattle.io_edge.proofs.Readings.{refused_says, reading_ends}
use Rattle.analysis_commands.specs.RelationsTexts.{sequences_refusal}
use Rattle.analysis_commands.proofs.relations_command.answer_to.Goals as goal

pub answer_to_sequences-requires : goal.answer_to_sequences-requires
answer_to_sequences-requires g c = record {
  sequences = c.in-Ok.ensures.sequences;
  is = c.in-Ok.ensures.is;
}

pub returns-in-Ok : goal.returns-in-Ok
returns-in-Ok g c =
    let before = c.args.meter.now in
    let after = c.answer_to_sequences.new.meter in
    let h = c.in-Ok.ensures in
    reading_ends sequences_of sequences_refusal _ _ _ _ h.sequences (before ⟶ after) _ h.read
    (at_end _ _ _ before after _ refl refl
    (inr (c.answer_to_sequences.ensures.related h.sequences h.is))
    (replied c.answer_to_sequences.result _
    (c.answer_to_sequences.ensures.answer h.sequences h.is)))

pub returns-in-Err : goal.returns-in-Err
returns-in-Err g c = refused_says sequences_of sequences_refusal _ _ _ _ c.args.meter.now
    c.in-Err.refusal c.into_answer.result c.in-Err.ensures c.into_answer.ensures
