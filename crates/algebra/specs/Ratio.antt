-- Pairs that fractions are made of: a whole number over a natural one, whether or not in lowest terms.
--   Ratio, ratio n d        n over d: num, den
--   is_lowest p             p's denominator is above zero and has no divisor in common with its numerator
--   reduce p                p in lowest terms
--   sum_of, product_of, opposite_of, inverse_of     on pairs, not reduced
--   ratios                  how to compute with pairs in lowest terms; ratio_size: their sizes
--   IsLowest p             the same, told by its parts
use Rattle.std.specs.Prelude.{ℕ, zero, suc, ◌*◌, ◌/◌, ℤ, pos, negsuc, ◌+ℤ◌, ◌*ℤ◌, neg_ℤ, Bool, ◌&&◌, ltb, eqb, unsigned_abs, ◌≡◌, ◌<◌}
use lib.IntN.{nat_abs}
use Rattle.algebra.specs.Arithmetic.{Arithmetic}
use Rattle.algebra.specs.Gcd.{gcd}
use Rattle.algebra.specs.Size.{Size, size}

pub record Ratio : Type 0 where
  pub num : ℤ
  pub den : ℕ

abbrev pub ratio : ℤ → ℕ → Ratio
ratio n d = record { num = n; den = d }

unfoldable pub is_lowest : Ratio → Bool
is_lowest p = ltb 0 p.den && eqb (gcd (nat_abs p.num) p.den) 1

-- n over g, where g divides n
abbrev pub exact : ℤ → ℕ → ℤ
exact (pos n) g = pos (n / g)
exact (negsuc n) g = neg_ℤ (pos (suc n / g))

unfoldable pub reduce : Ratio → Ratio
reduce p = let g : ℕ = gcd (nat_abs p.num) p.den in ratio (exact p.num g) (p.den / g)

abbrev pub sum_of : Ratio → Ratio → Ratio
sum_of p q = ratio (p.num *ℤ pos q.den +ℤ q.num *ℤ pos p.den) (p.den * q.den)

abbrev pub product_of : Ratio → Ratio → Ratio
product_of p q = ratio (p.num *ℤ q.num) (p.den * q.den)

abbrev pub opposite_of : Ratio → Ratio
opposite_of p = ratio (neg_ℤ p.num) p.den

abbrev pub reciprocal : ℤ → ℕ → Ratio
reciprocal (pos zero) d = ratio (pos 0) 1
reciprocal (pos (suc n)) d = ratio (pos d) (suc n)
reciprocal (negsuc n) d = ratio (neg_ℤ (pos d)) (suc n)

-- one over it, and zero at zero
abbrev pub inverse_of : Ratio → Ratio
inverse_of p = reciprocal p.num p.den

-- how to compute with pairs: sums and products in lowest terms. Of pairs in lowest terms they are
-- those of the fractions
abbrev pub ratios : Arithmetic Ratio
ratios = record {
  zero = ratio (pos 0) 1;
  one = ratio (pos 1) 1;
  add = λ p q. reduce (sum_of p q);
  mul = λ p q. reduce (product_of p q);
  neg = opposite_of;
}

-- numerator without sign, and denominator
abbrev pub ratio_size : Ratio → Size
ratio_size p = size (unsigned_abs p.num) p.den

pub record IsLowest (p : Ratio) : Type 0 where
  pub some : 0 < p.den
  pub lowest : gcd (nat_abs p.num) p.den ≡ 1
