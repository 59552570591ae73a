-- Euclid's algorithm from a modulus q and a number a: two rests, high and low, that follow each other, with the factors that give them.
--   AreRests q a limit high low high_factor low_factor negative
--                      the factors' sizes and the sign of the low one, by which a gives the low rest modulo q: the high one has the other sign
--   IsBlend            a pair is a combination of both rests with their factors
use Rattle.std.specs.Prelude.{◌≡◌, ◌<◌, ◌≤◌, ◌+◌, ◌*◌, ℕ, ℤ, pos, ◌+ℤ◌, ◌*ℤ◌, unsigned_abs, Bool, not}
use Rattle.algebra.specs.Gcd.{gcd}
use Rattle.frac128.specs.Sums.{negate_if}
use Rattle.closures.specs.Modulo.{AreCongruent}

-- (n, d) = low_times (low, low_factor) - high_times (high, high_factor), with the factors' signs
pub record IsBlend (high low high_factor low_factor : ℕ) (negative : Bool) (n : ℤ) (d : ℕ)
    : Type 0 where
  pub high_times : ℕ
  pub low_times : ℕ
  pub num : n +ℤ negate_if negative (pos (high_times * high))
      ≡ negate_if negative (pos (low_times * low))
  pub den : d ≡ high_times * high_factor + low_times * low_factor

pub record AreRests (q a limit high low high_factor low_factor : ℕ) (negative : Bool)
    : Type 0 where
  pub descend : low < high
  pub ascend : high_factor ≤ low_factor
  pub some : 0 < low_factor
  pub total : high * low_factor + low * high_factor ≡ q
  pub common : gcd high low ≡ gcd q a
  pub high_is : AreCongruent (pos q) (negate_if (not negative) (pos high))
      (pos a *ℤ pos high_factor)
  pub low_is : AreCongruent (pos q) (negate_if negative (pos low)) (pos a *ℤ pos low_factor)
  pub blends : (n : ℤ) (d : ℕ) → unsigned_abs n ≤ limit
      → AreCongruent (pos q) n (pos a *ℤ pos d)
      → IsBlend high low high_factor low_factor negative n d
