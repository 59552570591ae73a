-- The first number at which a property fails.
--   IsFirstFailure P n i     i is the first number below n at which P fails
use Rattle.std.specs.Prelude.{ℕ, ◌<◌}

pub record IsFirstFailure (P : ℕ → Type 0) (n i : ℕ) : Type 0 where
  pub within : i < n
  pub fails : P i → ⊥
  pub before : (j : ℕ) → j < i → P j
