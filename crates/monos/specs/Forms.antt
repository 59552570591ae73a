-- The three forms of a monomial: a head and two halves of a word where it is short, two short ones where it is double, and else a list.
--   exponents_of f      the exponents
--   IsProper f          it has the form that its exponents have, and has not too many
use Rattle.std.specs.Prelude.{◌≤◌, ℕ, List, length}
use Rattle.monos.specs.Variables.{most_variables}
use Rattle.monos.specs.Lanes.{IsShort, IsDouble, IsInLanes, lanes, lane_room}
use Rattle.monos.specs.Parts.{arity_of, degree_of, whole_word}
use Rattle.monos.specs.declared.Form.{Form}
use Rattle.monos.specs.declared.Form.TheVariants.{Short, Double, Long}

abbrev pub exponents_of : Form → List ℕ
exponents_of (Short head low high) =
    lanes (lane_room (arity_of head)) (arity_of head) (whole_word low high)
exponents_of (Double double) = double.value
exponents_of (Long list) = list.value.items

abbrev pub IsProper : Form → Type 0
IsProper (Short head low high) = IsInLanes (arity_of head) (degree_of head) (whole_word low high)
IsProper (Double double) = IsDouble double.value
IsProper (Long list) =
    (length list.value.items ≤ most_variables) × (IsShort list.value.items → ⊥)
    × (IsDouble list.value.items → ⊥)
