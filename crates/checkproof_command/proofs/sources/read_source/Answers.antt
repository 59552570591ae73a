use Rattle.std.proofs.Common.{inr, rules}
use Rattle.std.proofs.lemmas.Option.{IfSome_then}
use Rattle.program_text.specs.Faults.{fault_of}
use Rattle.io_edge.specs.Refusals.{seen_refusal}
use Rattle.io_edge.proofs.Readings.{fault_is}
use Rattle.checkproof_command.specs.Sources.{source_of, program_refusal}
use Rattle.checkproof_command.proofs.SourceLaws.{fault_beside}
use Rattle.checkproof_command.proofs.sources.read_source.Goals as goal

pub returns-in-Err-read_program-clause-read : goal.returns-in-Err-read_program-clause-read
returns-in-Err-read_program-clause-read g c =
    inr (
      c.in-Ok.text.items,
      c.in-Ok.ensures.read,
      IfSome_then (seen_refusal c.program_refusal.result) c.program_refusal.ensures
          (λ a told. fault_is source_of program_refusal (fault_of c.in-Err-read_program.why)
          c.in-Ok.text.items a
          (fault_beside (fault_of c.in-Err-read_program.why) c.in-Ok.text.items (search rules))
          told),
    )
