-- Where the search of an identity that fails stops for another cause.
--   Stops P W n i        at the number i below n, behind which P holds of all, and W is the cause
--   IfStops e place C    e names the place and an element of which C holds; want of memory is free
use Rattle.std.specs.Prelude.{◌≡◌, ℕ, ◌<◌}
use Rattle.cert_checker.specs.Places.{Place}
use Rattle.cert_checker.specs.Views.{place_view}
use Rattle.cert_checker.specs.declared.error.CheckError.{CheckError}
use Rattle.cert_checker.specs.declared.error.CheckError.TheVariants.{Map, Limit, Wide, Memory}

pub record Stops (P W : ℕ → Type 0) (n i : ℕ) : Type 0 where
  pub within : i < n
  pub before : (j : ℕ) → j < i → P j
  pub cause : W i

abbrev pub IfStops : CheckError → Place → (ℕ → Type 0) → Type 0
IfStops (Map e) place C = ⊥
IfStops (Limit at i) place C = ⊥
IfStops (Wide at i) place C = (place_view at ≡ place) × C i
IfStops Memory place C = Unit {0}
