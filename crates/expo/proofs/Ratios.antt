-- Numbers of powers, by the products above and below the line.
--   product_some         products of powers of a base are above zero
--   sides_coprime        those on the two sides have no common divisor
--   over_number          their quotient is the number
--   number_past          where one of them does not fit, neither does the number;  number_nonzero: which is not zero
--   over_fits            a quotient in lowest terms of numbers that fit, fits;  lowest_fractions_have_no_error: so the code's is made
--   exponents_few        where the number fits, each exponent is below 128
--   made_number, made_past     the number of a power, as the code makes it;  above_past, below_past: where a product does not fit
use Rattle.std.proofs.Common.{◌≡◌, ◌≢◌, ◌⊎◌, inl, inr, ℕ, zero, suc, ◌*◌, ◌^◌, ◌<◌, ◌≤◌, ℤ, pos, negsuc, Bool, true, false, List, [], ◌∷◌, map, length, unsigned_abs, Err, refl, sym, ap, ap₂, subst, ◌∙◌, arith}
use Rattle.std.specs.Result.{IsErrOf}
use native.Mathlib.Nat as N
use Rattle.std.proofs.lemmas.Bool.{cases_lt}
use Rattle.algebra.specs.Each.{Each}
use Rattle.algebra.specs.Gcd.{gcd}
use Rattle.algebra.specs.Ratio.{Ratio, ratio, ratio_size, IsLowest}
use Rattle.algebra.specs.Fraction.{Fraction, ℚ, fraction, fraction_size, whole}
use Rattle.algebra.specs.Size.{Size, IsPast}
use Rattle.algebra.proofs.Fractions.{ℚ_ring, ratio-fraction}
use Rattle.algebra.proofs.RatioLaws.{mul-pos, reduce_value_is}
use Rattle.algebra.proofs.SizeLaws.{fractions_bounded}
use Rattle.vectors.proofs.FractionEigen.{times_bottom}
use Rattle.exponentials.specs.Base.{Coprime, product}
use Rattle.exponentials.specs.Powers.{number, negate_if}
use Rattle.exponentials.proofs.Factoring.{disjoint-coprime}
use Rattle.frac128.specs.declared.fraction.Frac.{Frac}
use Rattle.frac128.specs.declared.fraction.FracError.{FracError}
use Rattle.frac128.specs.declared.fraction.FracError.TheVariants.{ZeroDenominator, Wide}
use Rattle.frac128.specs.Sums.{over}
use Rattle.coprime_base.specs.Parts.{IsQuotient}
use Rattle.coprime_base.proofs.Dividing.{few_times}
use Rattle.coprime_base.proofs.Quotients.{up, down, number_is, ups_disjoint, same_quotient}
use Rattle.expo.specs.Powers.{side_of, side_product}

pub power_some : (b n : ℕ) → 0 < b → 0 < b ^ n
power_some b zero h = subst (λ x. 0 < x) (sym (N.pow-zero b)) (omega arith)
power_some b (suc n) h = subst (λ x. 0 < x) (sym (N.pow-succ' b n))
    (mul-pos b (b ^ n) h (power_some b n h))

pub product_some : (bs e : List ℕ) → Coprime bs → 0 < product bs e
product_some [] e c = omega arith
product_some (b ∷ bs) [] c = omega arith
product_some (b ∷ bs) (n ∷ e) c = mul-pos (b ^ n) (product bs e) (power_some b n (let h : 1 < b =
    c.0 in omega arith)) (product_some bs e c.2)

ups_are : (e : List ℤ) → map up e ≡ map (side_of false) e
ups_are [] = refl
ups_are (pos n ∷ e) = ap (λ l. n ∷ l) (ups_are e)
ups_are (negsuc n ∷ e) = ap (λ l. 0 ∷ l) (ups_are e)

downs_are : (e : List ℤ) → map down e ≡ map (side_of true) e
downs_are [] = refl
downs_are (pos n ∷ e) = ap (λ l. 0 ∷ l) (downs_are e)
downs_are (negsuc n ∷ e) = ap (λ l. suc n ∷ l) (downs_are e)

module _ (bs : List ℕ) (c : Coprime bs) (e : List ℤ) where
  abbrev above : ℕ
  above = side_product bs false e

  abbrev below : ℕ
  below = side_product bs true e

  pub sides_coprime : gcd above below ≡ 1
  sides_coprime =
      ap₂ (λ d f. gcd (product bs d) (product bs f)) (sym (ups_are e)) (sym (downs_are e))
      ∙ disjoint-coprime bs (map up e) (map down e) c (ups_disjoint e)

  below_some : 0 < below
  below_some = product_some bs (map (side_of true) e) c

  is_lowest : IsLowest (ratio (pos above) below)
  is_lowest = record { some = below_some; lowest = sides_coprime }

  over_ratio : (over (pos above) (pos below)).ratio ≡ ratio (pos above) below
  over_ratio = ap (λ (p : Ratio). (fraction p).ratio) (reduce_value_is (ratio (pos above) below)
      is_lowest) ∙ ratio-fraction (ratio (pos above) below) is_lowest

  over_quotient : IsQuotient (over (pos above) (pos below)) above below
  over_quotient =
      let x = over (pos above) (pos below) in
      ℚ_ring.mul_comm x (whole (pos below))
      ∙ ap (λ (p : Ratio). ℚ.mul (whole (pos p.den)) x) (sym over_ratio)
      ∙ times_bottom x
      ∙ ap (λ (p : Ratio). whole p.num) over_ratio

  number_quotient : IsQuotient (number bs e) above below
  number_quotient = subst (λ d. IsQuotient (number bs e) (product bs d) below) (ups_are e)
      (subst (λ d. IsQuotient (number bs e) (product bs (map up e)) (product bs d)) (downs_are e)
      (number_is bs e c))

  pub over_number : over (pos above) (pos below) ≡ number bs e
  over_number = same_quotient (over (pos above) (pos below)) (number bs e) above below below_some
      over_quotient number_quotient

  number_size : fraction_size (number bs e) ≡ ratio_size (ratio (pos above) below)
  number_size = ap fraction_size (sym over_number) ∙ ap ratio_size over_ratio

  signed_size : (negative : Bool) → fraction_size (negate_if negative (number bs e)) ≡ fraction_size
      (number bs e)
  signed_size true = fractions_bounded.neg_size (number bs e)
  signed_size false = refl

  pub number_past : (negative : Bool) → (2 ^ 127 ≤ above) ⊎ (2 ^ 127 ≤ below)
      → IsPast (fraction_size (negate_if negative (number bs e)))
  number_past negative h = subst IsPast (sym (signed_size negative ∙ number_size)) (go h)
    where
      go : (2 ^ 127 ≤ above) ⊎ (2 ^ 127 ≤ below) → IsPast (ratio_size (ratio (pos above) below))
      go (inl h) = inl (omega arith)
      go (inr h) = inr (omega arith)

  pub number_nonzero : (negative : Bool) → negate_if negative (number bs e) ≢ ℚ.zero
  number_nonzero negative z =
      let none : above ≡ 0 = ap (λ (s : Size). s.size) (sym (signed_size negative ∙ number_size)
      ∙ ap fraction_size z ∙ fractions_bounded.zero_size) in
      let some : 0 < above = product_some bs (map (side_of false) e) c in
      absurd (omega arith)

-- ---- the exponents of a number that fits
few_of : (b n p : ℕ) → 1 < b → 0 < p → b ^ n * p < 2 ^ 127 → (n < 128) × (p < 2 ^ 127)
few_of b n p h some fits =
    let power : 2 ^ n ≤ b ^ n = N.pow-le-pow_left (let o : 2 ≤ b = omega arith in o) n in
    let left : b ^ n * 1 ≤ b ^ n * p = N.mul-le-mul_left (b ^ n) (let o : 1 ≤ p = omega arith in
    o) in
    let one : b ^ n * 1 ≡ b ^ n = N.mul-one (b ^ n) in
    let right : 1 * p ≤ b ^ n * p = N.mul-le-mul_right p (let o : 0 < b ^ n =
    power_some b n (omega arith) in o) in
    let same : 1 * p ≡ p = N.one-mul p in
    (few_times n (b ^ n) power (omega (arith, left, one, fits)), omega (arith, right, same, fits))

side_few : (bs : List ℕ) → Coprime bs → (below : Bool) (e : List ℤ) → length e ≡ length bs
    → side_product bs below e < 2 ^ 127 → Each (λ z. side_of below z < 128) e
unfolding Each
side_few bs c below [] l h = tt
side_few [] c below (z ∷ e) l h = absurd (omega arith)
side_few (b ∷ bs) c below (z ∷ e) l h =
    let both : (side_of below z < 128) × (side_product bs below e < 2 ^ 127) =
    few_of b (side_of below z) (side_product bs below e) c.0
    (product_some bs (map (side_of below) e) c.2) h in
    (both.0, side_few bs c.2 below e (omega arith) both.1)

both_few : (e : List ℤ) → Each (λ z. side_of false z < 128) e → Each (λ z. side_of true z < 128) e
    → Each (λ z. unsigned_abs z < 128) e
unfolding Each
both_few [] h k = tt
both_few (pos n ∷ e) h k = (h.0, both_few e h.1 k.1)
both_few (negsuc n ∷ e) h k = (k.0, both_few e h.1 k.1)

pub exponents_few : (bs : List ℕ) → Coprime bs → (e : List ℤ) (negative : Bool)
    → length e ≡ length bs → ¬ (IsPast (fraction_size (negate_if negative (number bs e))))
    → Each (λ z. unsigned_abs z < 128) e
exponents_few bs c e negative l fits =
    both_few e (side_few bs c false e l (low (cases_lt (side_product bs false e) (2 ^ 127))))
    (side_few bs c true e l (high (cases_lt (side_product bs true e) (2 ^ 127))))
  where
    low : (side_product bs false e < 2 ^ 127) ⊎ (2 ^ 127 ≤ side_product bs false e)
        → side_product bs false e < 2 ^ 127
    low (inl h) = h
    low (inr h) = absurd (fits (number_past bs c e negative (inl h)))

    high : (side_product bs true e < 2 ^ 127) ⊎ (2 ^ 127 ≤ side_product bs true e)
        → side_product bs true e < 2 ^ 127
    high (inl h) = h
    high (inr h) = absurd (fits (number_past bs c e negative (inr h)))

-- a quotient in lowest terms
pub over_fits : (n d : ℕ) → 0 < d → gcd n d ≡ 1 → n < 2 ^ 127 → d < 2 ^ 127
    → ¬ (IsPast (fraction_size (over (pos n) (pos d))))
over_fits n d s g h k past =
    let l : IsLowest (ratio (pos n) d) = record { some = s; lowest = g } in
    let e : (over (pos n) (pos d)).ratio ≡ ratio (pos n) d = ap (λ (p : Ratio). (fraction p).ratio)
    (reduce_value_is (ratio (pos n) d) l) ∙ ratio-fraction (ratio (pos n) d) l in
    go (subst (λ (p : Ratio). IsPast (ratio_size p)) e past)
  where
    go : IsPast (ratio_size (ratio (pos n) d)) → ⊥
    go (inl x) = omega arith
    go (inr x) = omega arith

-- ---- as the code has them
pub lowest_fractions_have_no_error : (e : FracError) (num den : ℤ) (n d : ℕ) → num ≡ pos n
    → den ≡ pos d → 0 < d
    → gcd n d ≡ 1 → n < 2 ^ 127 → d < 2 ^ 127
    → (IsErrOf {T = Frac} (Err e) ZeroDenominator → den ≡ pos 0) → (IsErrOf {T = Frac} (Err e) Wide
    → (den ≢ pos 0) × IsPast (fraction_size (over num den))) → ⊥
lowest_fractions_have_no_error ZeroDenominator num den n d p q some g h k none wide =
    (let z : den ≡ pos 0 = none refl in
    let e : pos d ≡ pos 0 = sym q ∙ z in let k : d ≡ 0 = cc in omega (arith, k, some))
lowest_fractions_have_no_error Wide num den n d p q some g h k none wide =
    over_fits n d some g h k (subst (λ x. IsPast (fraction_size x)) (ap₂ over p q) (wide refl).1)

module _ (bs : List ℕ) (c : Coprime bs) (e : List ℤ) (n d : ℕ) (f : n ≡ side_product bs false e)
    (g : d ≡ side_product bs true e) where
  pub made_coprime : gcd n d ≡ 1
  made_coprime = ap₂ gcd f g ∙ sides_coprime bs c e

  pub made_some : 0 < d
  made_some = subst (λ x. 0 < x) (sym g) (product_some bs (map (side_of true) e) c)

  pub made_number : (negative : Bool) (x : Fraction) → x ≡ negate_if negative (over (pos n) (pos d))
      → x ≡ negate_if negative (number bs e)
  made_number negative x h = h ∙ ap (negate_if negative) (ap₂ (λ a b. over (pos a) (pos b)) f g
      ∙ over_number bs c e)

  pub made_past : (negative : Bool) → (2 ^ 127 ≤ n) ⊎ (2 ^ 127 ≤ d)
      → IsPast (fraction_size (negate_if negative (number bs e)))
  made_past negative (inl h) = number_past bs c e negative (inl (subst (λ x. 2 ^ 127 ≤ x) f h))
  made_past negative (inr h) = number_past bs c e negative (inr (subst (λ x. 2 ^ 127 ≤ x) g h))

pub above_past : (bs : List ℕ) (c : Coprime bs) (e f : List ℤ) (negative : Bool) → f ≡ e
    → 2 ^ 128 ≤ side_product bs false f → IsPast (fraction_size (negate_if negative (number bs e)))
above_past bs c e f negative is h =
    number_past bs c e negative (inl (let k : 2 ^ 128 ≤ side_product bs false e =
    subst (λ l. 2 ^ 128 ≤ side_product bs false l) is h in omega arith))

pub below_past : (bs : List ℕ) (c : Coprime bs) (e f : List ℤ) (negative : Bool) → f ≡ e
    → 2 ^ 128 ≤ side_product bs true f → IsPast (fraction_size (negate_if negative (number bs e)))
below_past bs c e f negative is h =
    number_past bs c e negative (inr (let k : 2 ^ 128 ≤ side_product bs true e =
    subst (λ l. 2 ^ 128 ≤ side_product bs true l) is h in omega arith))
