-- Binomial coefficients of one row, from one place to the next, as fractions.
--   next_binomial        that of the next place is that of the place times a quotient
--   quotient_fits        such a quotient fits
use Rattle.std.proofs.Common.{◌≡◌, ◌≢◌, inl, inr, ℕ, zero, suc, ◌+◌, ◌-◌, ◌*◌, ◌^◌, ◌<◌, ◌≤◌, pos, [], ◌∷◌, refl, sym, ap, ap₂, subst, ◌∙◌, arith}
use native.Mathlib.Nat as N
use Rattle.algebra.proofs.FieldLaws as FL
use Rattle.algebra.proofs.RingSolver.{ring_rules, ring}
use Rattle.algebra.specs.Ring.{CommRing}
use Rattle.algebra.specs.Fraction.{Fraction, ℚ, fraction_size, whole, inverse}
use Rattle.algebra.specs.Ratio.{ratio_size}
use Rattle.algebra.specs.Size.{IsPast, size, quotient_size}
use Rattle.algebra.proofs.Fractions.{ℚ_ring, ℚ_field}
use Rattle.algebra.proofs.ProductSizes.{fraction_quotients_bounded, product_den-pos}
use Rattle.algebra.proofs.SizeLaws.{past_under}
use Rattle.algebra.proofs.Wholes.{whole_injective, ratio-whole}
use Rattle.exponentials.specs.Table.{choose}
use Rattle.coprime_base.proofs.Quotients.{whole_product}
use Rattle.expo.specs.Rows.{binomial}

-- (k + 1) C(n+1, k+1) = (n + 1) C(n, k)
absorb_step : (k n a b x y : ℕ) → x ≡ a + b → suc k * x ≡ suc n * a → suc (suc k) * y ≡ suc n * b
    → suc (suc k) * (x + y) ≡ suc (suc n) * x
absorb_step k n a b x y h e f =
    let p : suc (suc k) * (x + y) ≡ suc (suc k) * x + suc (suc k) * y =
    N.mul-add (suc (suc k)) x y in
    let q : suc (suc k) * x ≡ suc k * x + x = N.suc-mul (suc k) x in
    let s : suc n * x ≡ suc n * a + suc n * b = ap (λ z. suc n * z) h ∙ N.mul-add (suc n) a b in
    let t : suc (suc n) * x ≡ suc n * x + x = N.suc-mul (suc n) x in
    cc_sum (suc (suc k) * (x + y)) (suc (suc k) * x) (suc (suc k) * y) (suc k * x) x (suc n * x)
    (suc n * a) (suc n * b) (suc (suc n) * x) p q s t e f
  where
    cc_sum : (v w u k' x m a b r : ℕ) → v ≡ w + u → w ≡ k' + x → m ≡ a + b → r ≡ m + x → k' ≡ a
        → u ≡ b → v ≡ r
    cc_sum v w u k' x m a b r p q s t e f = omega arith

absorbed : (n k : ℕ) → suc k * choose (suc n) (suc k) ≡ suc n * choose n k
absorbed zero zero = refl
absorbed zero (suc k) = N.mul-zero (suc (suc k))
absorbed (suc n) zero =
    let e : 1 * choose (suc n) 1 ≡ suc n * 1 = absorbed n zero in
    let f : 1 * choose (suc n) 1 ≡ choose (suc n) 1 = N.one-mul (choose (suc n) 1) in
    let g : suc n * 1 ≡ suc n = N.mul-one (suc n) in
    let h : 1 * (1 + choose (suc n) 1) ≡ 1 + choose (suc n) 1 = N.one-mul (1 + choose (suc n) 1) in
    let i : suc (suc n) * 1 ≡ suc (suc n) = N.mul-one (suc (suc n)) in
    omega arith
absorbed (suc n) (suc k) = absorb_step k n (choose n k) (choose n (suc k)) (choose (suc n) (suc k))
    (choose (suc n) (suc (suc k))) refl (absorbed n k) (absorbed n (suc k))

-- (d + 1) C(k+d+1, k) = (k + d + 1) C(k+d, k)
next_row : (k d : ℕ) → suc d * choose (suc (k + d)) k ≡ suc (k + d) * choose (k + d) k
next_row zero d = ap (λ n. suc n * 1) (let e : d ≡ 0 + d = omega arith in e)
next_row (suc k) d =
    let m = k + d in
    let place : suc k + d ≡ suc m = omega arith in
    subst (λ n. suc d * choose (suc n) (suc k) ≡ suc n * choose n (suc k)) (sym place)
    (let h : suc d * choose (suc m) k ≡ suc m * choose m k = next_row k d in
    let a : suc k * choose (suc m) (suc k) ≡ suc m * choose m k = absorbed m k in
    let x = choose (suc m) (suc k) in
    let y = choose (suc m) k in
    let p : suc d * (y + x) ≡ suc d * y + suc d * x = N.mul-add (suc d) y x in
    let q : suc k * x + suc d * x ≡ (suc k + suc d) * x = sym (N.add-mul (suc k) (suc d) x) in
    let s : (suc k + suc d) * x ≡ suc (suc m) * x =
    ap (λ n. n * x) (let o : suc k + suc d ≡ suc (suc (k + d)) = omega arith in o) in
    p ∙ ap (λ v. v + suc d * x) (h ∙ sym a) ∙ q ∙ s)

-- ---- as fractions
abbrev R : CommRing Fraction
R = ℚ_ring

nonzero : (n : ℕ) → whole (pos (suc n)) ≢ ℚ.zero
nonzero n e = let p : pos (suc n) ≡ pos 0 = whole_injective (pos (suc n)) (pos 0) e in
    let q : suc n ≡ 0 = cc in absurd (omega arith)

next_of : (k d : ℕ)
    → ℚ.mul (binomial (k + d) k) (ℚ.mul (whole (pos (suc (k + d)))) (inverse (whole (pos (suc d)))))
    ≡ binomial (suc (k + d)) k
next_of k d =
    FL.cancel ℚ_field _ _ (whole (pos (suc d))) (nonzero d)
    (iteration (binomial (k + d) k) (whole (pos (suc (k + d)))) (inverse (whole (pos (suc d))))
    (whole (pos (suc d)))
    ∙ ap (ℚ.mul (ℚ.mul (whole (pos (suc (k + d)))) (binomial (k + d) k)))
    (ℚ_field.mul-inverse (whole (pos (suc d))) (nonzero d))
    ∙ R.mul-one _
    ∙ whole_product (suc (k + d)) (choose (k + d) k)
    ∙ ap (λ n. whole (pos n)) (sym (next_row k d))
    ∙ sym (whole_product (suc d) (choose (suc (k + d)) k))
    ∙ R.mul_comm _ _)
  where
    iteration : (c a i b : Fraction) → R.mul (R.mul c (R.mul a i)) b ≡ R.mul (R.mul a c) (R.mul b i)
    iteration c a i b = ring R (c ∷ a ∷ i ∷ b ∷ []) (search ring_rules depth 40) refl

pub next_binomial : (j i : ℕ) → i ≤ j
    → ℚ.mul (binomial j i) (ℚ.mul (whole (pos (suc j))) (inverse (whole (pos (suc j - i)))))
    ≡ binomial (suc j) i
next_binomial j i l =
    let e : i + (j - i) ≡ j = omega arith in
    let f : suc (j - i) ≡ suc j - i = omega arith in
    subst (λ n. ℚ.mul (binomial j i) (ℚ.mul (whole (pos (suc j))) (inverse (whole (pos n))))
    ≡ binomial (suc j) i) f
    (subst (λ n.
    ℚ.mul (binomial n i) (ℚ.mul (whole (pos (suc n))) (inverse (whole (pos (suc (j - i))))))
    ≡ binomial (suc n) i) e (next_of i (j - i)))

-- ---- quotients of small numbers fit
pub quotient_fits : (n d : ℕ) → 0 < n → 0 < d → n < 2 ^ 127 → d < 2 ^ 127
    → ¬ (IsPast (fraction_size (ℚ.mul (whole (pos n)) (inverse (whole (pos d))))))
quotient_fits (suc n) (suc d) s t h k past =
    let x = whole (pos (suc n)) in
    let y = whole (pos (suc d)) in
    go (subst IsPast sizes_are (past_under _ (quotient_size (fraction_size x) (fraction_size y))
    (product_den-pos (fraction_size x) (size (fraction_size y).den (fraction_size y).size)
    dens_x dens_y) (fraction_quotients_bounded x y (nonzero d)) past))
  where
    size_of : (m : ℕ) → fraction_size (whole (pos m)) ≡ size m 1
    size_of m = ap ratio_size (ratio-whole (pos m))

    dens_x : 0 < (fraction_size (whole (pos (suc n)))).den
    dens_x = subst (λ s. 0 < s.den) (sym (size_of (suc n))) (omega arith)

    dens_y : 0 < (fraction_size (whole (pos (suc d)))).size
    dens_y = subst (λ s. 0 < s.size) (sym (size_of (suc d))) (omega arith)

    sizes_are : quotient_size (fraction_size (whole (pos (suc n))))
        (fraction_size (whole (pos (suc d)))) ≡ size (suc n * 1) (1 * suc d)
    sizes_are = ap₂ quotient_size (size_of (suc n)) (size_of (suc d))

    go : IsPast (size (suc n * 1) (1 * suc d)) → ⊥
    go (inl g) = let e : suc n * 1 ≡ suc n = N.mul-one (suc n) in omega arith
    go (inr g) = let e : 1 * suc d ≡ suc d = N.one-mul (suc d) in omega arith
quotient_fits zero d s t h k past = absurd (omega arith)
quotient_fits (suc n) zero s t h k past = absurd (omega arith)

-- ---- as the code has them
pub some_natural : (n : ℕ) (x : Fraction) → 0 < n → x ≡ whole (pos n) → x ≢ ℚ.zero
some_natural zero x h e z = absurd (omega arith)
some_natural (suc n) x h e z = nonzero n (sym e ∙ z)

pub next_is : (given factor x y : Fraction) (place row : ℕ) → row < place
    → given ≡ binomial (place - 1) row → x ≡ whole (pos place) → y ≡ whole (pos (place - row))
    → factor ≡ ℚ.mul x (inverse y)
    → ℚ.mul given factor ≡ binomial place row
next_is given factor x y zero row h g e f k = absurd (omega arith)
next_is given factor x y (suc j) row h g e f k =
    ap₂ ℚ.mul (g ∙ ap (λ n. binomial n row) (let o : suc j - 1 ≡ j = omega arith in o)) (k
    ∙ ap₂ (λ a b. ℚ.mul a (inverse b)) e f)
    ∙ next_binomial j row (omega arith)

pub small_quotient : (x y : Fraction) (n d : ℕ) → 0 < n → 0 < d → n ≤ 65536 → d ≤ 65536
    → x ≡ whole (pos n) → y ≡ whole (pos d) → ¬ (IsPast (fraction_size (ℚ.mul x (inverse y))))
small_quotient x y n d h k l m e f past = quotient_fits n d h k (omega arith) (omega arith)
    (subst (λ z. IsPast (fraction_size z)) (ap₂ (λ a b. ℚ.mul a (inverse b)) e f) past)
