-- Which pairs of places wait, as a table: for each place, whether its pairs with the earlier places do.
--   entry t i j       what the table says of the places i and j, of which i is the earlier; of_either: of two places
--   IsTriangle t      each row has an entry for each earlier place
--   without t i j     the table in which the places i and j don't wait
--   Tells t w         the entries say which pairs are among w
--   Once w            no pair is among w twice
use Rattle.std.specs.Prelude.{◌≡◌, ◌<◌, ℕ, Bool, false, cond, ltb, List, [], ◌∷◌, length, get_or, set}
use Rattle.machines.specs.Pairs.{waits}

abbrev pub entry : List (List Bool) → ℕ → ℕ → Bool
entry t i j = get_or (get_or t j []) i false

abbrev pub of_either : List (List Bool) → ℕ → ℕ → Bool
of_either t i j = cond (ltb i j) (entry t i j) (entry t j i)

abbrev pub IsTriangle : List (List Bool) → Type 0
IsTriangle t = (j : ℕ) → j < length t → length (get_or t j []) ≡ j

abbrev pub without : List (List Bool) → ℕ → ℕ → List (List Bool)
without t i j = set t j (set (get_or t j []) i false)

abbrev pub Tells : List (List Bool) → List (ℕ × ℕ) → Type 0
Tells t w = (i j : ℕ) → i < j → j < length t → entry t i j ≡ waits w i j

unfoldable pub Once : List (ℕ × ℕ) → Type 0
Once [] = Unit {0}
Once (a ∷ w) = (waits w a.0 a.1 ≡ false) × Once w
