-- What sums and products of whole numbers mean as fractions.
--   gcd-one                                   a whole number is in lowest terms
--   whole_sum_is, whole_product_is            sums and products from those of the numbers
--   whole_sum_past, whole_sum_fits            where a sum is past
--   whole_product_past, whole_product_fits    where a product is past
use Rattle.std.proofs.Common.{ℕ, ◌≡◌, ◌∙◌, sym, ap, ap₂, subst, refl, ◌/◌, ◌<◌, ◌≤◌, ◌^◌, ℤ, pos, ◌+ℤ◌, ◌*ℤ◌, unsigned_abs, inl, inr, arith}
use native.Mathlib.Nat as N
use Rattle.algebra.specs.Gcd.{gcd}
use Rattle.algebra.specs.Ratio.{Ratio, ratio, ratio_size}
use Rattle.algebra.specs.Fraction.{Fraction, fraction_size, whole, sum, product}
use Rattle.algebra.specs.Size.{IsPast}
use Rattle.algebra.proofs.GcdLaws.{gcd-right}
use Rattle.algebra.proofs.IntRing.{ℤ_ring}
use Rattle.algebra.proofs.Wholes.{ratio-whole, sum-whole, product-whole}
use Rattle.frac128.specs.Sums.{part, SumIsPast, left_past, right_past, parts_past, den_past}

pub gcd-one : (a : ℕ) → gcd a 1 ≡ 1
gcd-one a = N.eq-one_of_dvd-one (gcd-right a 1)

part_of_whole : (a b : ℤ) → part (whole a) (whole b) ≡ a
unfolding gcd
part_of_whole a b = ap₂ (λ (p q : Ratio). p.num *ℤ pos (q.den / gcd p.den q.den)) (ratio-whole a)
    (ratio-whole b) ∙ ℤ_ring.mul-one a

parts_of_wholes : (a b : ℤ) → part (whole a) (whole b) +ℤ part (whole b) (whole a) ≡ a +ℤ b
parts_of_wholes a b = ap₂ ◌+ℤ◌ (part_of_whole a b) (part_of_whole b a)

pub whole_sum_past : (p q : Fraction) (a b : ℤ) → p ≡ whole a → q ≡ whole b
    → 2 ^ 127 ≤ unsigned_abs (a +ℤ b) → SumIsPast p q
whole_sum_past p q a b ep eq h =
    subst (λ (p : Fraction). SumIsPast p q) (sym ep)
    (subst (λ (q : Fraction). SumIsPast (whole a) q) (sym eq)
    (parts_past (subst (λ z. 2 ^ 127 ≤ unsigned_abs z) (sym (parts_of_wholes a b)) h)))

fits_at : (a b : ℤ) → unsigned_abs a < 2 ^ 127 → unsigned_abs b < 2 ^ 127
    → unsigned_abs (a +ℤ b) < 2 ^ 127 → SumIsPast (whole a) (whole b) → ⊥
fits_at a b h k s (left_past e) = let f = ap unsigned_abs (part_of_whole a b) in omega arith
fits_at a b h k s (right_past e) = let f = ap unsigned_abs (part_of_whole b a) in omega arith
fits_at a b h k s (parts_past e) = let f = ap unsigned_abs (parts_of_wholes a b) in omega arith
fits_at a b h k s (den_past e) = let f : (sum (whole a) (whole b)).den ≡ 1 =
    ap (λ (r : Fraction). r.den) (sum-whole a b)
    ∙ ap (λ (r : Ratio). r.den) (ratio-whole (a +ℤ b)) in omega arith

pub whole_sum_fits : (p q : Fraction) (a b : ℤ) → p ≡ whole a → q ≡ whole b
    → unsigned_abs a < 2 ^ 127 → unsigned_abs b < 2 ^ 127 → unsigned_abs (a +ℤ b) < 2 ^ 127
    → SumIsPast p q → ⊥
whole_sum_fits p q a b ep eq h k s past =
    fits_at a b h k s (subst (λ (p : Fraction). SumIsPast p (whole b)) ep
    (subst (λ (q : Fraction). SumIsPast p q) eq past))

pub whole_sum_is : (p q : Fraction) (a b z : ℤ) → p ≡ whole a → q ≡ whole b → z ≡ a +ℤ b
    → whole z ≡ sum p q
whole_sum_is p q a b z ep eq e = ap whole e ∙ sym (sum-whole a b) ∙ sym (ap₂ sum ep eq)

pub whole_product_is : (p q : Fraction) (a b z : ℤ) → p ≡ whole a → q ≡ whole b → z ≡ a *ℤ b
    → whole z ≡ product p q
whole_product_is p q a b z ep eq e = ap whole e ∙ sym (product-whole a b) ∙ sym (ap₂ product ep eq)

-- the pair of a product of whole numbers
product_ratio : (p q : Fraction) (a b : ℤ) → p ≡ whole a → q ≡ whole b
    → ratio (a *ℤ b) 1 ≡ (product p q).ratio
product_ratio p q a b ep eq = sym (ratio-whole (a *ℤ b))
    ∙ ap (λ (r : Fraction). r.ratio) (whole_product_is p q a b (a *ℤ b) ep eq refl)

pub whole_product_past : (p q : Fraction) (a b : ℤ) → p ≡ whole a → q ≡ whole b
    → 2 ^ 127 ≤ unsigned_abs (a *ℤ b) → IsPast (fraction_size (product p q))
whole_product_past p q a b ep eq h = subst (λ (r : Ratio). IsPast (ratio_size r))
    (product_ratio p q a b ep eq) (inl (omega arith))

pub whole_product_fits : (p q : Fraction) (a b : ℤ) → p ≡ whole a → q ≡ whole b
    → unsigned_abs (a *ℤ b) < 2 ^ 127 → IsPast (fraction_size (product p q)) → ⊥
whole_product_fits p q a b ep eq h past =
    go (subst (λ (r : Ratio). IsPast (ratio_size r)) (sym (product_ratio p q a b ep eq)) past)
  where
    go : IsPast (ratio_size (ratio (a *ℤ b) 1)) → ⊥
    go (inl e) = omega arith
    go (inr e) = omega arith
