-- What a refusal of a text says.
--   fault_of e      the reason and the offset; none where memory failed
use Rattle.std.specs.Prelude.{Option, Some, None}
use Rattle.program_text.specs.declared.error.ProgramTextError.{ProgramTextError}
use Rattle.program_text.specs.declared.error.ProgramTextError.TheVariants.{Syntax, Limit, Wide, Twice, Unknown, Divisor, Memory}
use Rattle.poly_text.specs.Reasons.{Fault, syntax, limit, wide, twice, unknown, divisor}

abbrev pub fault_of : ProgramTextError → Option Fault
fault_of (Syntax at) = Some (record { reason = syntax; at = at })
fault_of (Limit at) = Some (record { reason = limit; at = at })
fault_of (Wide at) = Some (record { reason = wide; at = at })
fault_of (Twice at) = Some (record { reason = twice; at = at })
fault_of (Unknown at) = Some (record { reason = unknown; at = at })
fault_of (Divisor at) = Some (record { reason = divisor; at = at })
fault_of Memory = None
