-- How a fault of a sum is told in a text of sequences.
--   told_at e                   the offset of a fault that isn't of syntax
--   next_in text at             what stands in the text at the offset, or next behind it
--   retold_fault r text f       the fault f, told by r at what stands in the text at its offset
--   Retells r text e result     result is the fault e, so told
use Rattle.std.specs.Prelude.{◌≡◌, ℕ, List, [], ◌∷◌, Option, Some, None, option_map}
use Rattle.poly_text.specs.Lexemes.{Lexeme, Placed, the_end, tokens_from}
use Rattle.poly_text.specs.Reasons.{Reason, Fault}
use Rattle.poly_text.specs.Faults.{fault_of}
use Rattle.poly_text.specs.declared.error.TextError.{TextError}
use Rattle.poly_text.specs.declared.error.TextError.TheVariants.{Syntax, Limit, Wide, Twice, Unknown, InitUses, Unset, Divisor, Memory}

abbrev pub told_at : TextError → Option ℕ
told_at (Limit at) = Some at
told_at (Wide at) = Some at
told_at (Twice at) = Some at
told_at (Unknown at) = Some at
told_at (InitUses at) = Some at
told_at (Unset at) = Some at
told_at (Divisor at) = Some at
told_at (Syntax at) = None
told_at Memory = None

abbrev pub first_of : List Placed → Lexeme
first_of [] = the_end
first_of (x ∷ xs) = x.lexeme

abbrev pub next_in : List ℕ → ℕ → Lexeme
next_in text at = first_of (tokens_from text at)

abbrev pub retold_fault : (Lexeme → Reason → Reason) → List ℕ → Fault → Fault
retold_fault r text f = record { reason = r (next_in text f.at) f.reason; at = f.at }

abbrev pub Retells : (Lexeme → Reason → Reason) → List ℕ → TextError → TextError → Type 0
Retells r text e result = fault_of result ≡ option_map (retold_fault r text) (fault_of e)
