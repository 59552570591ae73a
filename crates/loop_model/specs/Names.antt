-- Names of variables, and the first of a list that can't be one.
--   place_of names w         where the name w stands first
--   AreNames names           each is a plain word of at most 32 bytes, each differs from those after it, and there are at most as many as a monomial has variables
--   is_name w                such a word
--   NameFault                the name at this place stands before, or it is no name
--   fault_behind before ws   the first fault of the names ws behind others
--   names_fault names        the first fault of a list
use Rattle.std.specs.Prelude.{◌≢◌, ℕ, ◌≤◌, nat_le, Bool, not, ◌&&◌, IsTrue, is_some, if◌then◌else◌, List, [], ◌∷◌, ◌++◌, length, All, AllPairs, Option, Some, None, position}
use Rattle.std.specs.Str.{bytes_eq}
use Rattle.loops.specs.Limits.{most_bytes}
use Rattle.monos.specs.Variables.{most_variables}
use Rattle.loop_model.specs.Words.{is_plain_word}

abbrev pub place_of : List (List ℕ) → List ℕ → Option ℕ
place_of names w = position (λ n. bytes_eq n w) names

pub record AreNames (names : List (List ℕ)) : Type 0 where
  pub plain : All (λ w. IsTrue (is_plain_word w)) names
  pub short : All (λ w. length w ≤ most_bytes) names
  pub differ : AllPairs (λ v w. v ≢ w) names
  pub few : length names ≤ most_variables

abbrev pub is_name : List ℕ → Bool
is_name w = is_plain_word w && nat_le (length w) most_bytes

pub data NameFault : Type 0 where
  twice : ℕ → NameFault
  bad : ℕ → NameFault

unfoldable pub fault_behind : List (List ℕ) → List (List ℕ) → Option NameFault
fault_behind before [] = None
fault_behind before (w ∷ ws) =
    if not (is_name w) then Some (bad (length before))
    else (if is_some (place_of before w) then Some (twice (length before))
    else fault_behind (before ++ w ∷ []) ws)

abbrev pub names_fault : List (List ℕ) → Option NameFault
names_fault names = fault_behind [] names
