-- A product of whole powers of a base is the product of those above zero over that of those below.
--   up z, down z            the size of z where it is above zero, or below, and else zero
--   whole_product           a product of whole numbers is that of the numbers
--   quotient_product        n over d times m over k is n m over d k;  same_quotient: two fractions that are n over d are the same
--   power_is                a power of a whole number is the whole number of the power
--   raised_is, number_is    a power, and a product of powers, as quotients
--   ups_disjoint            no exponent is above and below zero
--   quotient_parts          where that product is n over d in lowest terms, n and d are those two products
use Rattle.std.proofs.Common.{◌≡◌, ◌≢◌, inl, inr, ℕ, zero, suc, ◌*◌, ◌^◌, ◌<◌, ℤ, pos, negsuc, List, [], ◌∷◌, map, refl, sym, ap, ap₂, ◌∙◌, arith}
use native.Mathlib.Nat as N
use Rattle.algebra.specs.Arithmetic.{power}
use Rattle.algebra.specs.Ring.{CommRing}
use Rattle.algebra.proofs.RingLaws as L
use Rattle.algebra.proofs.FieldLaws as FL
use Rattle.algebra.specs.Gcd.{gcd}
use Rattle.algebra.specs.Fraction.{Fraction, ℚ, whole, inverse}
use Rattle.algebra.proofs.Fractions.{ℚ_ring, ℚ_field}
use Rattle.algebra.proofs.Wholes.{whole_injective, product-whole}
use Rattle.algebra.proofs.RingSolver.{ring_rules, ring}
use Rattle.exponentials.specs.Base.{Coprime, Disjoint, product}
use Rattle.exponentials.specs.Powers.{integer_power, number}
use Rattle.exponentials.proofs.Factoring.{fraction_made}
use Rattle.coprime_base.specs.Parts.{IsQuotient}

abbrev R : CommRing Fraction
R = ℚ_ring

abbrev pub up : ℤ → ℕ
up (pos n) = n
up (negsuc n) = 0

abbrev pub down : ℤ → ℕ
down (pos n) = 0
down (negsuc n) = suc n

pub whole_product : (m n : ℕ) → ℚ.mul (whole (pos m)) (whole (pos n)) ≡ whole (pos (m * n))
whole_product m n = product-whole (pos m) (pos n)

pub power_is : (b n : ℕ) → power ℚ (whole (pos b)) n ≡ whole (pos (b ^ n))
unfolding power
power_is b zero = ap (λ k. whole (pos k)) (sym (N.pow-zero b))
power_is b (suc n) = ap (R.mul (whole (pos b))) (power_is b n) ∙ whole_product b (b ^ n)
    ∙ ap (λ k. whole (pos k)) (sym (N.pow-succ' b n))

not_zero : (b : ℕ) → 0 < b → whole (pos b) ≢ R.zero
not_zero b h e = let p : pos b ≡ pos 0 = whole_injective (pos b) (pos 0) e in let q : b ≡ 0 = cc in
    absurd (omega arith)

-- a power of the inverse, times the power
inverse_power : (b n : ℕ) → 0 < b → ℚ.mul (power ℚ (inverse (whole (pos b))) n)
    (power ℚ (whole (pos b)) n) ≡ R.one
unfolding power
inverse_power b zero h = R.mul-one R.one
inverse_power b (suc n) h =
    L.mul_swap R (inverse (whole (pos b))) (power ℚ (inverse (whole (pos b))) n) (whole (pos b))
    (power ℚ (whole (pos b)) n)
    ∙ ap₂ R.mul (R.mul_comm (inverse (whole (pos b))) (whole (pos b))
    ∙ ℚ_field.mul-inverse (whole (pos b)) (not_zero b h)) (inverse_power b n h)
    ∙ R.mul-one R.one

pub raised_is : (b : ℕ) (z : ℤ) → 0 < b → IsQuotient (integer_power b z) (b ^ up z) (b ^ down z)
raised_is b (pos n) h = ap₂ R.mul (power_is b n) (ap (λ k. whole (pos k)) (N.pow-zero b))
    ∙ R.mul-one (whole (pos (b ^ n)))
raised_is b (negsuc n) h = ap (R.mul (power ℚ (inverse (whole (pos b))) (suc n)))
    (sym (power_is b (suc n))) ∙ inverse_power b (suc n) h
    ∙ ap (λ k. whole (pos k)) (sym (N.pow-zero b))

pub quotient_product : (x y : Fraction) (n d m k : ℕ) → IsQuotient x n d → IsQuotient y m k
    → IsQuotient (ℚ.mul x y) (n * m) (d * k)
quotient_product x y n d m k p q =
    ap (R.mul (R.mul x y)) (sym (whole_product d k))
    ∙ L.mul_swap R x y (whole (pos d)) (whole (pos k)) ∙ ap₂ R.mul p q ∙ whole_product n m

one_quotient : IsQuotient (whole (pos 1)) 1 1
one_quotient = R.mul-one R.one

pub number_is : (bs : List ℕ) (e : List ℤ) → Coprime bs
    → IsQuotient (number bs e) (product bs (map up e)) (product bs (map down e))
number_is [] e c = one_quotient
number_is (b ∷ bs) [] c = one_quotient
number_is (b ∷ bs) (z ∷ e) c =
    quotient_product (integer_power b z) (number bs e) (b ^ up z) (b ^ down z)
    (product bs (map up e))
    (product bs (map down e))
    (raised_is b z (let h : 1 < b = c.0 in omega arith)) (number_is bs e c.2)

pub ups_disjoint : (e : List ℤ) → Disjoint (map up e) (map down e)
ups_disjoint [] = tt
ups_disjoint (pos n ∷ e) = (inr refl, ups_disjoint e)
ups_disjoint (negsuc n ∷ e) = (inl refl, ups_disjoint e)

-- the cross products of two quotients of one number
pub cross : (x : Fraction) (n d m k : ℕ) → IsQuotient x n d → IsQuotient x m k → n * k ≡ m * d
cross x n d m k p q =
    let iteration : R.mul (whole (pos n)) (whole (pos k)) ≡ R.mul (whole (pos m)) (whole (pos d)) =
    ap (λ y. R.mul y (whole (pos k))) (sym p) ∙ turned x (whole (pos d)) (whole (pos k))
    ∙ ap (λ y. R.mul y (whole (pos d))) q in
    let e : pos (n * k) ≡ pos (m * d) = whole_injective (pos (n * k)) (pos (m * d))
    (sym (whole_product n k) ∙ iteration ∙ whole_product m d) in
    cc
  where
    turned : (x d k : Fraction) → R.mul (R.mul x d) k ≡ R.mul (R.mul x k) d
    turned x d k = ring R (x ∷ d ∷ k ∷ []) (search ring_rules depth 30) refl

pub quotient_parts : (bs : List ℕ) (e : List ℤ) (n d : ℕ) → Coprime bs → gcd n d ≡ 1
    → IsQuotient (number bs e) n d → (n ≡ product bs (map up e)) × (d ≡ product bs (map down e))
quotient_parts bs e n d c g q =
    fraction_made bs (map up e) (map down e) n d c (ups_disjoint e) g
    (cross (number bs e) n d (product bs (map up e)) (product bs (map down e)) q
    (number_is bs e c))

pub same_quotient : (x y : Fraction) (n d : ℕ) → 0 < d → IsQuotient x n d → IsQuotient y n d → x ≡ y
same_quotient x y n d h p q = FL.cancel ℚ_field x y (whole (pos d)) (not_zero d h) (p ∙ sym q)
