-- Terms that fit in the numbers of the code.
--   IsNarrow t       the numerator and the denominator of t are at most 2^127 - 1, and its exponents at most `most_power`
use Rattle.std.specs.Prelude.{ℕ, ◌<◌, ◌≤◌, ◌^◌, List, unsigned_abs}
use Rattle.std.specs.List.{All}
use Rattle.algebra.specs.Fraction.{Fraction}
use Rattle.poly_text.specs.Flat.{most_power}
use Rattle.poly_text.specs.Tokens.{number_limit}

pub record IsNarrow (t : List ℕ × Fraction) : Type 0 where
  pub numerator : unsigned_abs t.1.num < number_limit
  pub denominator : t.1.den < number_limit
  pub exponents : All (λ n. n ≤ most_power) t.0
