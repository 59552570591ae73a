-- Numbers that may not fit.
--   Fitting result n, FittingWhole result z     the number, or none where it is above 2^127 - 1 in absolute value
use Rattle.std.specs.Prelude.{◌≡◌, ℕ, ◌<◌, ◌≤◌, ℤ, Option, MatchOption}
use Rattle.algebra.specs.Limits.{number_limit}
use lib.IntN.{nat_abs}
use Rattle.frac128.specs.declared.Whole.{Whole}

abbrev pub Fitting : Option ℕ → ℕ → Type 0
Fitting result n = MatchOption result (number_limit ≤ n) (λ m. (m ≡ n) × (m < number_limit))

abbrev pub FittingWhole : Option Whole → ℤ → Type 0
FittingWhole result z = MatchOption result (number_limit ≤ nat_abs z) (λ w. w.value ≡ z)
