-- States as texts.
--   entry_text e               a variable and its value
--   separator behind           what stands between two of them
--   state_text names s         all of a state
--   states_text names states   the states, one a line
use Rattle.std.specs.Prelude.{ℕ, Bool, true, false, List, [], ◌++◌, codes}
use Rattle.std.specs.List.{flat_map, join_by, zip}
use Rattle.algebra.specs.Fraction.{Fraction}
use Rattle.poly_text.specs.Text.{number_text}
use Rattle.io_edge.specs.Texts.{line}

abbrev pub entry_text : List ℕ × Fraction → List ℕ
entry_text e = e.0 ++ codes " = " ++ number_text e.1

abbrev pub separator : Bool → List ℕ
separator true = codes ", "
separator false = []

unfoldable pub state_text : List (List ℕ) → List Fraction → List ℕ
state_text names s = join_by entry_text (codes ", ") (zip names s)

abbrev pub states_text : List (List ℕ) → List (List Fraction) → List ℕ
states_text names states = flat_map (λ s. line (state_text names s)) states
