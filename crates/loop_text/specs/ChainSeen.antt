-- What readings of chains are seen as.
--   chain_or_fault result               the chain with its offsets, or the first fault; none where memory failed
--   seen_stages program result    these stages over the program, as a chain, or the first fault
use Rattle.std.specs.Prelude.{ℕ, Option, Some, Result, Ok, Err, option_map}
use Rattle.std.specs.Global.{Vec}
use Rattle.loops.specs.Program.{Expr, Program}
use Rattle.poly_text.specs.Reasons.{Fault}
use Rattle.poly_text.specs.Faults.{fault_of}
use Rattle.poly_text.specs.declared.error.TextError.{TextError}
use Rattle.loops.specs.Chain as spec
use Rattle.loop_runs.specs.Parts.{stages_read}
use Rattle.loop_runs.specs.ChainSeen.{chain_in}
use Rattle.loop_runs.specs.declared.chain.Chain.{Chain}
use Rattle.loop_runs.specs.declared.stage.StageParts.{StageParts}
use Rattle.loop_text.specs.ChainReader.{of_stages}

abbrev pub chain_or_fault : Result Chain TextError → Option (Result (spec.Chain (Expr ℕ)) Fault)
chain_or_fault (Ok c) = Some (Ok (chain_in c))
chain_or_fault (Err e) = option_map Err (fault_of e)

abbrev pub seen_stages : Program (Expr ℕ) → Result (Vec StageParts) TextError
    → Option (Result (spec.Chain (Expr ℕ)) Fault)
seen_stages program (Ok gs) = Some (Ok (of_stages program (stages_read gs.items)))
seen_stages program (Err e) = option_map Err (fault_of e)
