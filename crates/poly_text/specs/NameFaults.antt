-- What is wrong with a name where a variable stands.
--   has is i                     i is among the positions is
--   look names refused why w         why the name w is at fault: it isn't among the names, or it is at a position that is refused, and then why it is
--   name_fault names refused why w   the same; or it is too long
use Rattle.std.specs.Prelude.{ℕ, Bool, List, length, nat_le, Option, Some, None, ◌==◌, if◌then◌else◌}
use Rattle.std.specs.Option.{option_map_or}
use Rattle.std.specs.List.{list_any}
use Rattle.loops.specs.Limits.{most_bytes}
use Rattle.loop_model.specs.Names.{place_of}
use Rattle.poly_text.specs.Reasons.{Reason, limit, unknown}

abbrev pub has : List ℕ → ℕ → Bool
has is i = list_any (λ j. j == i) is

abbrev pub look : List (List ℕ) → List ℕ → Reason → List ℕ → Option Reason
look names refused why w =
    option_map_or (λ i. if has refused i then Some why else None) (place_of names w)
    (Some unknown)

abbrev pub name_fault : List (List ℕ) → List ℕ → Reason → List ℕ → Option Reason
name_fault names refused why w =
    if nat_le (length w) most_bytes then look names refused why w else Some limit
