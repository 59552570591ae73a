-- Fractions whose parts may not fit in 128 bits.
--   over n d           n over d, with the sign of both in the numerator
--   negate_if b z         z, or its opposite where b is true
--   DoesNotFit p     its numerator or its denominator is above 2^127 - 1
--   SumIsPast p q      one of the two parts of p + q over the least common denominator, their sum, or the denominator of p + q is above 2^127 - 1
use Rattle.std.specs.Prelude.{◌/◌, ◌≤◌, ℤ, pos, negsuc, suc, ◌+ℤ◌, ◌*ℤ◌, neg_ℤ, unsigned_abs, Bool, true, false}
use Rattle.algebra.specs.Gcd.{gcd}
use Rattle.algebra.specs.Fraction as fractions
use Rattle.algebra.specs.Fraction.{Fraction, sum, fraction_size}
use Rattle.algebra.specs.Size.{IsPast}
use Rattle.algebra.specs.Limits.{number_limit}

abbrev pub over : ℤ → ℤ → Fraction
over n (pos d) = fractions.over n d
over n (negsuc d) = fractions.over (neg_ℤ n) (suc d)

abbrev pub negate_if : Bool → ℤ → ℤ
negate_if false z = z
negate_if true z = neg_ℤ z

abbrev pub DoesNotFit : Fraction → Type 0
DoesNotFit p = IsPast (fraction_size p)

-- p's numerator over the least common denominator
abbrev pub part : Fraction → Fraction → ℤ
part p q = p.num *ℤ pos (q.den / gcd p.den q.den)

pub data SumIsPast (p q : Fraction) : Type 0 where
  left_past : number_limit ≤ unsigned_abs (part p q) → SumIsPast p q
  right_past : number_limit ≤ unsigned_abs (part q p) → SumIsPast p q
  parts_past : number_limit ≤ unsigned_abs (part p q +ℤ part q p) → SumIsPast p q
  den_past : number_limit ≤ (sum p q).den → SumIsPast p q
