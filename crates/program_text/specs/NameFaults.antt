-- What is wrong with a name where a variable stands.
--   name_fault names w     why the name w is at fault: it is too long, or isn't among the names
use Rattle.std.specs.Prelude.{ℕ, List, length, nat_le, Option, Some, None, if◌then◌else◌}
use Rattle.std.specs.Option.{option_map_or}
use Rattle.loops.specs.Limits.{most_bytes}
use Rattle.loop_model.specs.Names.{place_of}
use Rattle.poly_text.specs.Reasons.{Reason, limit, unknown}

abbrev pub look : List (List ℕ) → List ℕ → Option Reason
look names w = option_map_or (λ i. None) (place_of names w) (Some unknown)

abbrev pub name_fault : List (List ℕ) → List ℕ → Option Reason
name_fault names w = if nat_le (length w) most_bytes then look names w else Some limit
