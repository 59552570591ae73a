use Rattle.std.proofs.Common.{rules, inr}
use Rattle.std.proofs.lemmas.Option.{IfSome_then}
use Rattle.poly_text.specs.Faults.{fault_of}
use Rattle.io_edge.specs.Refusals.{seen_refusal}
use Rattle.loop_text.specs.LoopReader.{loop_of}
use Rattle.io_edge.proofs.Readings.{fault_is}
use Rattle.command_parts.specs.FaultTexts.{loop_refusal}
use Rattle.command_parts.proofs.loop_reading.read_program.Goals as goal

pub returns-clause-read : goal.returns-clause-read
returns-clause-read g c =
    inr (
      c.in-Ok.bytes.items,
      c.in-Ok.ensures.read,
      IfSome_then (seen_refusal c.loop_refusal.result) c.loop_refusal.ensures
          (λ a told. fault_is loop_of loop_refusal (fault_of c.in-Err-read_loop.why)
          c.in-Ok.bytes.items a (search rules) told),
    )
