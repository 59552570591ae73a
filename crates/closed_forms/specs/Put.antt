-- The polynomials of a class put in their places.
--   IsPutTo k g news old new     the first k of news stand in the places of the class g, the others as before
--   IsPut g news old new         all of them
use Rattle.std.specs.Prelude.{◌≡◌, ◌≢◌, ◌<◌, ℕ, List, length, get_or}
use Rattle.solvable_maps.specs.AfterIterations.{place}
use Rattle.expo.specs.declared.exponential.Expo.{Expo}

pub record IsPutTo (k : ℕ) (g : List ℕ) (news old new : List Expo) : Type 0 where
  pub count : length new ≡ length old
  pub each : (a : ℕ) (d : Expo) → a < k → get_or new (place g a) d ≡ get_or news a d
  pub others : (i : ℕ) (d : Expo) → ((a : ℕ) → a < k → i ≢ place g a)
      → get_or new i d ≡ get_or old i d

abbrev pub IsPut : List ℕ → List Expo → List Expo → List Expo → Type 0
IsPut g news old new = IsPutTo (length g) g news old new
