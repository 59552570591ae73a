-- What a refusal of a text says.
--   fault_of e      the reason and the offset; none where memory failed
--   reason_of r     why a variable that may not stand in a sum is refused
use Rattle.std.specs.Prelude.{Option, Some, None}
use Rattle.poly_text.specs.declared.error.TextError.{TextError}
use Rattle.poly_text.specs.declared.error.TextError.TheVariants.{Syntax, Limit, Wide, Twice, Unknown, InitUses, Unset, Divisor, Memory}
use Rattle.poly_text.specs.declared.error.Refusal.TheVariants as refusal
use Rattle.poly_text.specs.declared.error.Refusal.{Refusal}
use Rattle.poly_text.specs.Reasons.{Reason, Fault, syntax, limit, wide, twice, unknown, init_uses, unset, divisor}

abbrev pub fault_of : TextError → Option Fault
fault_of (Syntax at) = Some (record { reason = syntax; at = at })
fault_of (Limit at) = Some (record { reason = limit; at = at })
fault_of (Wide at) = Some (record { reason = wide; at = at })
fault_of (Twice at) = Some (record { reason = twice; at = at })
fault_of (Unknown at) = Some (record { reason = unknown; at = at })
fault_of (InitUses at) = Some (record { reason = init_uses; at = at })
fault_of (Unset at) = Some (record { reason = unset; at = at })
fault_of (Divisor at) = Some (record { reason = divisor; at = at })
fault_of Memory = None

abbrev pub reason_of : Refusal → Reason
reason_of refusal.InitUses = init_uses
reason_of refusal.Unset = unset
