-- The exponents of a number over a base, and the signs of fractions.
--   opposite_positive, own_positive      the size of a fraction that is not zero
--   back_again                           the opposite of the opposite
--   made_size                            the size of a number that is made of a base is made of it
--   some_exponents                       such a number is the product of powers of the base
--   small_exponents                      exponents of a number that fits are below 128
use Rattle.std.proofs.Common.{◌≡◌, ◌≢◌, ◌⊎◌, inl, inr, ◌<◌, ◌*◌, ◌^◌, ℕ, zero, suc, ℤ, pos, negsuc, neg_ℤ, ◌-ℤ◌, ◌<ℤ◌, ◌≤ℤ◌, Bool, true, false, List, [], ◌∷◌, length, All, unsigned_abs, refl, sym, ap, subst, ◌∙◌, arith}
use borrow.Author.Differences.{ints}
use native.Mathlib.Nat as N
use Rattle.algebra.specs.Ring.{CommRing}
use Rattle.algebra.proofs.RingLaws as L
use Rattle.algebra.specs.Fraction.{Fraction, ℚ, whole}
use Rattle.algebra.specs.Ratio.{Ratio}
use Rattle.algebra.proofs.Fractions.{ℚ_ring, some, ratio-opposite, top_zero}
use Rattle.vectors.proofs.FractionEigen.{times_bottom}
use Rattle.exponentials.specs.Base.{Coprime, SameLength, IsProductOf, product}
use Rattle.exponentials.specs.Powers.{number, integer_power, negate_if}
use Rattle.exponentials.proofs.Orders.{each-all}
use Rattle.frac128.specs.FracMeaning.{fraction_of}
use Rattle.frac128.specs.declared.fraction.Frac.{Frac}
use Rattle.frac128.proofs.FracResults.{frac_fits}
use Rattle.coprime_base.specs.Parts.{IsQuotient}
use Rattle.coprime_base.proofs.Quotients.{raised_is, quotient_product, same_quotient}
use Rattle.solvable_maps.specs.Expo.{differences}
use Rattle.expo.proofs.Ratios.{exponents_few}
use Rattle.closed_forms.specs.Solved.{IsMade}

abbrev R : CommRing Fraction
R = ℚ_ring

abbrev size : Fraction → ℕ
size x = unsigned_abs x.num

-- ---- signs
opposite_num : (x : Fraction) → (ℚ.neg x).num ≡ neg_ℤ x.num
opposite_num x = ap (λ (p : Ratio). p.num) (ratio-opposite x)

opposite_den : (x : Fraction) → (ℚ.neg x).den ≡ x.den
opposite_den x = ap (λ (p : Ratio). p.den) (ratio-opposite x)

pub opposite_positive : (x z : Fraction) → x.num <ℤ pos 0 → z ≡ ℚ.neg x → pos 0 <ℤ z.num
opposite_positive x z h e =
    let n : z.num ≡ neg_ℤ x.num = ap (λ (y : Fraction). y.num) e ∙ opposite_num x in
    omega (arith, ints, n, h)

pub own_positive : (x : Fraction) → x ≢ ℚ.zero → pos 0 ≤ℤ x.num → pos 0 <ℤ x.num
own_positive x n h = elim (signs x.num h) [ inl e ↦ absurd (n (top_zero x e)) | inr p ↦ p ]
  where
    signs : (z : ℤ) → pos 0 ≤ℤ z → (z ≡ pos 0) ⊎ (pos 0 <ℤ z)
    signs (pos zero) h = inl refl
    signs (pos (suc n)) h = inr (omega (arith, ints))
    signs (negsuc n) h = absurd (omega (arith, ints, h))

pub back_again : (x z : Fraction) → z ≡ ℚ.neg x → ℚ.neg z ≡ x
back_again x z e = ap ℚ.neg e ∙ L.neg-neg R x

-- ---- numbers that are made of a base
pub made_size : (bs : List ℕ) (negative : Bool) (s x : Fraction) → negate_if negative s ≡ x
    → IsMade bs x → IsMade bs s
made_size bs false s x e h = subst (IsMade bs) (sym e) h
made_size bs true s x e h =
    let n : x.num ≡ neg_ℤ s.num = ap (λ (y : Fraction). y.num) (sym e) ∙ opposite_num s in
    let d : x.den ≡ s.den = ap (λ (y : Fraction). y.den) (sym e) ∙ opposite_den s in
    let a : size x ≡ size s = omega (arith, ints, n) in
    record {
      numerator = subst (IsProductOf bs) a h.numerator;
      denominator = subst (IsProductOf bs) d h.denominator;
    }

quotient_more : (b m n : ℕ) (x : Fraction) → IsQuotient x (b ^ m) (b ^ n)
    → IsQuotient x (b ^ suc m) (b ^ suc n)
quotient_more b m n x h =
    let both : IsQuotient (ℚ.mul (whole (pos 1)) x) (b * b ^ m) (b * b ^ n) =
    quotient_product (whole (pos 1)) x b b (b ^ m) (b ^ n) (L.one-mul R (whole (pos b))) h in
    subst (λ y. IsQuotient y (b ^ suc m) (b ^ suc n)) (L.one-mul R x)
    (subst (λ k. IsQuotient (ℚ.mul (whole (pos 1)) x) k (b ^ suc n)) (sym (N.pow-succ' b m))
    (subst (λ k. IsQuotient (ℚ.mul (whole (pos 1)) x) (b * b ^ m) k) (sym (N.pow-succ' b n)) both))

raised_over : (b m n : ℕ) → 0 < b → IsQuotient (integer_power b (pos m -ℤ pos n)) (b ^ m) (b ^ n)
raised_over b m zero h = subst (λ z. IsQuotient (integer_power b z) (b ^ m) (b ^ 0)) (let e : pos m
    ≡ pos m -ℤ pos 0 = omega (arith, ints) in e) (raised_is b (pos m) h)
raised_over b zero (suc n) h = subst (λ z. IsQuotient (integer_power b z) (b ^ 0) (b ^ suc n))
    (let e : negsuc n ≡ pos 0 -ℤ pos (suc n) = omega (arith, ints) in e) (raised_is b (negsuc n) h)
raised_over b (suc m) (suc n) h =
    subst (λ z. IsQuotient (integer_power b z) (b ^ suc m) (b ^ suc n)) (let e : pos m -ℤ pos n
    ≡ pos (suc m) -ℤ pos (suc n) = omega (arith, ints) in e)
    (quotient_more b m n _ (raised_over b m n h))

number_over : (bs u v : List ℕ) → Coprime bs → SameLength bs u → SameLength bs v
    → IsQuotient (number bs (differences u v)) (product bs u) (product bs v)
number_over [] [] [] c f g = R.mul-one R.one
number_over [] (m ∷ u) v c f g = absurd f
number_over [] [] (n ∷ v) c f g = absurd g
number_over (b ∷ bs) [] v c f g = absurd f
number_over (b ∷ bs) (m ∷ u) [] c f g = absurd g
number_over (b ∷ bs) (m ∷ u) (n ∷ v) c f g =
    quotient_product _ (number bs (differences u v)) (b ^ m) (b ^ n) (product bs u) (product bs v)
    (raised_over b m n (let h : 1 < b = c.0 in omega arith)) (number_over bs u v c.2 f g)

own_quotient : (x : Fraction) → pos 0 <ℤ x.num → IsQuotient x (size x) x.den
own_quotient x h = R.mul_comm x (whole (pos x.den)) ∙ times_bottom x
    ∙ ap whole (let e : x.num ≡ pos (size x) = grind (arith, ints) in e)

pub some_exponents : (bs : List ℕ) → Coprime bs → (x : Fraction) → pos 0 <ℤ x.num
    → (h : IsMade bs x) → number bs (differences h.numerator.exponents h.denominator.exponents) ≡ x
some_exponents bs c x s h =
    let u = h.numerator.exponents in
    let v = h.denominator.exponents in
    let y = number bs (differences u v) in
    same_quotient y x (size x) x.den (some x)
    (subst (λ n. IsQuotient y n x.den) h.numerator.is (subst (λ d. IsQuotient y (product bs u) d)
    h.denominator.is (number_over bs u v c h.numerator.fits h.denominator.fits)))
    (own_quotient x s)

pub small_exponents : (bs : List ℕ) → Coprime bs → (e : List ℤ) (x : Frac) → length e ≡ length bs
    → number bs e ≡ fraction_of x → All (λ z. unsigned_abs z < 128) e
small_exponents bs c e x l is = each-all (λ z. unsigned_abs z < 128) e (exponents_few bs c e false l
    (frac_fits x (number bs e) (sym is)))
