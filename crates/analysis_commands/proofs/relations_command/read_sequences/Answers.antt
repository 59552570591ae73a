use Rattle.std.proofs.Common.{rules, inr}
use Rattle.std.proofs.lemmas.Option.{IfSome_then}
use Rattle.poly_text.specs.Faults.{fault_of}
use Rattle.io_edge.specs.Refusals.{seen_refusal}
use Rattle.loop_text.specs.SeqReader.{sequences_of}
use Rattle.io_edge.proofs.Readings.{fault_is}
use Rattle.analysis_commands.specs.RelationsTexts.{sequences_refusal}
use Rattle.analysis_commands.proofs.SequenceCourses.{sequences_are}
use Rattle.analysis_commands.proofs.relations_command.read_sequences.Goals as goal

pub returns-in-Ok-read_seqs : goal.returns-in-Ok-read_seqs
returns-in-Ok-read_seqs g c =
    sequences_are _ c.in-Ok.bytes.items c.in-Ok-read_seqs.seqs _ c.in-Ok.ensures.read (search rules)

pub returns : goal.returns
returns g c =
    inr (
      c.in-Ok.bytes.items,
      c.in-Ok.ensures.read,
      IfSome_then (seen_refusal c.sequences_refusal.result) c.sequences_refusal.ensures
          (λ a told. fault_is sequences_of sequences_refusal (fault_of c.in-Err-read_seqs.why)
          c.in-Ok.bytes.items a (search rules) told),
    )
