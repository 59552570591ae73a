-- The whole numbers among the fractions.
--   ratio-whole           the pair of a whole number
--   lowest-whole          a whole number over one is in lowest terms
--   whole_injective       each is another
--   whole-some            one above zero is not zero
--   ratio_sum-whole, ratio_product-whole     of pairs
--   sum-whole, product-whole, opposite-whole     operations on them are those of whole numbers
--   whole-suc             of the next natural number
--   order-whole           and so is their order
--   of_nat-whole, of_int-whole     a whole number times one
use Rattle.std.proofs.Common.{◌≡◌, ◌≢◌, ◌<◌, ◌∙◌, ap, ap₂, refl, sym, arith, ℕ, zero, suc, ◌+◌, ℤ, pos, negsuc, ◌+ℤ◌, ◌*ℤ◌, neg_ℤ}
use Rattle.std.specs.Ordering.{int_cmp}
use native.Mathlib.Nat as N
use lib.IntN.{nat_abs}
use Rattle.algebra.specs.Integers.{natural_in, integer_in}
use Rattle.algebra.proofs.IntRing.{ℤ_ring}
use Rattle.algebra.specs.Ratio.{Ratio, ratio, reduce, sum_of, product_of, IsLowest}
use Rattle.algebra.specs.Fraction.{Fraction, fraction, whole, sum, product, opposite, fraction_order, fraction_arithmetic}
use Rattle.algebra.proofs.GcdLaws.{gcd-right}
use Rattle.algebra.proofs.RatioLaws.{reduce_value_is}
use Rattle.algebra.proofs.Fractions.{ratio-fraction}

pub lowest-whole : (z : ℤ) → IsLowest (ratio z 1)
lowest-whole z = record {
  some = omega arith;
  lowest = N.eq-one_of_dvd-one (gcd-right (nat_abs z) 1);
}

pub ratio-whole : (z : ℤ) → (whole z).ratio ≡ ratio z 1
ratio-whole z = ratio-fraction (ratio z 1) (lowest-whole z)

pub whole_injective : (x y : ℤ) → whole x ≡ whole y → x ≡ y
whole_injective x y e = ap (λ (p : Ratio). p.num) (sym (ratio-whole x)
    ∙ ap (λ (a : Fraction). a.ratio) e ∙ ratio-whole y)

pub whole-some : (d : ℕ) → 0 < d → whole (pos d) ≢ whole (pos 0)
whole-some d some e = absurd (let z : pos d ≡ pos 0 = whole_injective (pos d) (pos 0) e in
    let k : d ≡ 0 = cc in omega arith)

pub ratio_sum-whole : (x y : ℤ) → reduce (sum_of (ratio x 1) (ratio y 1)) ≡ ratio (x +ℤ y) 1
ratio_sum-whole x y = ap (λ (z : ℤ). reduce (ratio z 1))
    (ap₂ ◌+ℤ◌ (ℤ_ring.mul-one x) (ℤ_ring.mul-one y))
    ∙ reduce_value_is (ratio (x +ℤ y) 1) (lowest-whole (x +ℤ y))

pub ratio_product-whole : (x y : ℤ) → reduce (product_of (ratio x 1) (ratio y 1)) ≡ ratio (x *ℤ y) 1
ratio_product-whole x y = reduce_value_is (ratio (x *ℤ y) 1) (lowest-whole (x *ℤ y))

pub sum-whole : (x y : ℤ) → sum (whole x) (whole y) ≡ whole (x +ℤ y)
unfolding sum
sum-whole x y = ap fraction (ap₂ (λ p q. reduce (sum_of p q)) (ratio-whole x) (ratio-whole y)
    ∙ ratio_sum-whole x y)

pub product-whole : (x y : ℤ) → product (whole x) (whole y) ≡ whole (x *ℤ y)
unfolding product
product-whole x y = ap fraction (ap₂ (λ p q. reduce (product_of p q)) (ratio-whole x)
    (ratio-whole y) ∙ ratio_product-whole x y)

pub opposite-whole : (x : ℤ) → opposite (whole x) ≡ whole (neg_ℤ x)
unfolding opposite
opposite-whole x = ap (λ (p : Ratio). fraction (ratio (neg_ℤ p.num) p.den)) (ratio-whole x)

pub order-whole : (x y : ℤ) → fraction_order (whole x) (whole y) ≡ int_cmp x y
order-whole x y = ap₂ (λ (p q : Ratio). int_cmp (p.num *ℤ pos q.den) (q.num *ℤ pos p.den))
    (ratio-whole x) (ratio-whole y) ∙ ap₂ int_cmp (ℤ_ring.mul-one x) (ℤ_ring.mul-one y)

pub whole-suc : (n : ℕ) → whole (pos (suc n)) ≡ sum (whole (pos 1)) (whole (pos n))
whole-suc n = ap (λ k. whole (pos k)) (let e : suc n ≡ 1 + n = omega arith in e)
    ∙ sym (sum-whole (pos 1) (pos n))

-- the whole numbers in the field of the fractions
pub of_nat-whole : (n : ℕ) → natural_in fraction_arithmetic n ≡ whole (pos n)
of_nat-whole zero = refl
of_nat-whole (suc n) = ap (sum (whole (pos 1))) (of_nat-whole n) ∙ sym (whole-suc n)

pub of_int-whole : (z : ℤ) → integer_in fraction_arithmetic z ≡ whole z
of_int-whole (pos n) = of_nat-whole n
of_int-whole (negsuc n) = ap opposite (of_nat-whole (suc n)) ∙ opposite-whole (pos (suc n))
