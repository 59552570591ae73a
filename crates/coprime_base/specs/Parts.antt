-- Products of whole powers of a base, by their numerators and denominators.
--   IsQuotient x n d            x is n over d: x times d is n
--   Begun base n d rest e m k   what a division by the numbers of a base has found on the way: the exponents e, with m over k and the numbers of rest left of n over d
use Rattle.std.specs.Prelude.{◌≡◌, ℕ, ◌<◌, ℤ, pos, List, ◌++◌}
use Rattle.algebra.specs.Gcd.{gcd}
use Rattle.algebra.specs.Fraction.{Fraction, ℚ, whole}
use Rattle.exponentials.specs.Powers.{number}

abbrev pub IsQuotient : Fraction → ℕ → ℕ → Type 0
IsQuotient x n d = ℚ.mul x (whole (pos d)) ≡ whole (pos n)

pub record Begun (base : List ℕ) (n d : ℕ) (rest : List ℕ) (found : List ℤ) (m k : ℕ) : Type 0 where
  pub num_some : 0 < m
  pub den_some : 0 < k
  pub lowest : gcd m k ≡ 1
  pub makes : (e : List ℤ) → IsQuotient (number rest e) m k → IsQuotient (number base (found ++ e))
      n d
  pub made : (e : List ℤ) → IsQuotient (number base e) n d → (f : List ℤ)
      × IsQuotient (number rest f) m k
