-- What the results of operations on fractions mean.
--   Means n m r         n over m is the fraction r, and is a Frac where it fits; means: from r being a fraction
--   past_num, past_den, not_past      where it does not fit, r is past, and else it is not
--   product_means, sum_means          a product and a sum from their parts
--   sum_left, sum_right, sum_top, sum_den, sum_fits         where a sum is past, and where it is not
--   turned_below, turned_above, reduced_means     one over a fraction; a fraction from its sign and sizes
--   abs-signed                        the size of n with a sign is n
--   sum_past, difference_past, product_past, quotient_past      what does not fit has a weight that is past
--   means_fraction, is_fraction, frac_fits, coprime_at, opposite_at, whole_at, at_whole    the fraction that a result is
--   quotient_means                    a quotient times the divisor
--   unit_number, unit_inverse         a whole number and its inverse
use Rattle.std.proofs.Common.{◌≡◌, ◌≢◌, ◌↔◌, ◌⊎◌, Option, Some, None, IfSome, IsNone, ◌∙◌, sym, ap, ap₂, subst, refl, ℕ, zero, suc, ◌*◌, ◌/◌, ◌<◌, ◌≤◌, ◌^◌, Bool, true, false, ℤ, pos, negsuc, ◌+ℤ◌, ◌*ℤ◌, neg_ℤ, unsigned_abs, inl, inr, arith}
use lib.Signed.{◌≤ℤ◌, ◌<ℤ◌}
use native.Mathlib.Nat as N
use Rattle.std.proofs.lemmas.Int.{ints, unsigned_abs-mul}
use Rattle.algebra.specs.Gcd.{gcd, lcm}
use Rattle.algebra.specs.Ratio.{Ratio, ratio, ratio_size, IsLowest}
use Rattle.algebra.specs.Ratio.{ratios, exact, reduce, inverse_of}
use Rattle.algebra.specs.Size.{size, sum_size, product_size, quotient_size, IsPast}
use Rattle.algebra.proofs.GcdLaws.{gcd_comm, gcd-zero}
use Rattle.algebra.proofs.LcmLaws.{lcm-pos, lcm_comm}
use Rattle.algebra.proofs.SizeLaws.{past_under, abs-add, abs-neg, fractions_bounded}
use Rattle.algebra.proofs.RatioLaws.{product-value, sum-value, inverse-value, reduce-value}
use Rattle.algebra.proofs.ProductSizes.{product_within, product_den-pos, fraction_quotients_bounded}
use Rattle.algebra.specs.Integers.{integer_in}
use Rattle.algebra.proofs.Wholes.{ratio-whole, whole_injective, of_int-whole}
use Rattle.algebra.proofs.RatioParts.{product_parts, sum_parts}
use Rattle.algebra.specs.Fraction as T
use Rattle.algebra.proofs.Fractions.{same_fraction, some, top_zero, fractions_ring, fractions_field, ratio-fraction, fraction-ratio, ratio-sum, ratio-product, ratio-opposite, ratio-inverse}
use Rattle.frac128.specs.Sums.{part, negate_if, SumIsPast, left_past, right_past, parts_past, den_past}
use Rattle.frac128.specs.FracMeaning.{frac_meaning, fraction_of, is_in_lowest_terms}
use Rattle.frac128.specs.declared.fraction.Frac.{Frac}

pub record Means (n m : ℤ) (r : Ratio) : Type 0 where
  pub is : ratio n (unsigned_abs m) ≡ r
  pub low : pos 1 ≤ℤ m
  pub lowest : gcd (unsigned_abs n) (unsigned_abs m) ≡ 1

at_least : (m : ℤ) → pos 0 ≤ℤ m → 0 < unsigned_abs m → pos 1 ≤ℤ m
at_least (pos m) h k = omega (arith, ints)
at_least (negsuc m) h k = absurd (omega (arith, ints))

pub means : (n m : ℤ) (r : Ratio) → ratio n (unsigned_abs m) ≡ r → pos 0 ≤ℤ m → IsLowest r
    → Means n m r
means n m r e low v =
    let some : 0 < unsigned_abs m = subst (λ (x : Ratio). 0 < x.den) (sym e) v.some in
    record {
      is = e;
      low = at_least m low some;
      lowest = subst (λ (x : Ratio). gcd (unsigned_abs x.num) x.den ≡ 1) (sym e) v.lowest;
    }

means_same : (n m n' m' : ℤ) (r : Ratio) → n' ≡ n → m' ≡ m → Means n m r → Means n' m' r
means_same n m n' m' r e f s = subst (λ z. Means z m' r) (sym e) (subst (λ z. Means n z r) (sym f)
    s)

pub past_num : (n m : ℤ) (r : Ratio) → Means n m r → 2 ^ 127 ≤ unsigned_abs n
    → IsPast (ratio_size r)
past_num n m r s h = subst (λ (x : Ratio). IsPast (ratio_size x)) s.is (inl (omega arith))

pub past_den : (n m : ℤ) (r : Ratio) → Means n m r → 2 ^ 127 ≤ unsigned_abs m
    → IsPast (ratio_size r)
past_den n m r s h = subst (λ (x : Ratio). IsPast (ratio_size x)) s.is (inr (omega arith))

pub not_past : (n m : ℤ) (r : Ratio) → Means n m r → unsigned_abs n < 2 ^ 127
    → unsigned_abs m < 2 ^ 127 → IsPast (ratio_size r) → ⊥
not_past n m r s h k past = go (subst (λ (x : Ratio). IsPast (ratio_size x)) (sym s.is) past)
  where
    go : IsPast (size (unsigned_abs n) (unsigned_abs m)) → ⊥
    go (inl p) = omega arith
    go (inr p) = omega arith

-- ---- products
product_means_at : (a b c d g h x y u w n m : ℤ) → pos 1 ≤ℤ b → pos 1 ≤ℤ d
    → IsLowest (ratio a (unsigned_abs b)) → IsLowest (ratio c (unsigned_abs d))
    → g ≡ pos (gcd (unsigned_abs a) (unsigned_abs d))
    → h ≡ pos (gcd (unsigned_abs c) (unsigned_abs b))
    → x ≡ exact a (unsigned_abs g) → y ≡ exact c (unsigned_abs h) → u ≡ exact b (unsigned_abs h)
    → w ≡ exact d (unsigned_abs g)
    → n ≡ x *ℤ y → m ≡ u *ℤ w
    → Means n m (ratios.mul (ratio a (unsigned_abs b)) (ratio c (unsigned_abs d)))
product_means_at a (pos b) c (pos d) g h x y u w n m b_low d_low v t eg eh ex ey eu ew en em =
    let p = ratio a b in
    let q = ratio c d in
    let k = gcd (unsigned_abs a) d in
    let j = gcd (unsigned_abs c) b in
    let top : n ≡ exact a k *ℤ exact c j = en
    ∙ ap₂ ◌*ℤ◌ (ex ∙ ap (λ z. exact a (unsigned_abs z)) eg) (ey
    ∙ ap (λ z. exact c (unsigned_abs z)) eh) in
    let bottom : m ≡ pos (b / j * (d / k)) = em
    ∙ ap₂ ◌*ℤ◌ (eu ∙ ap (λ z. exact (pos b) (unsigned_abs z)) eh) (ew
    ∙ ap (λ z. exact (pos d) (unsigned_abs z)) eg) in
    means n m (ratios.mul p q)
    (ap₂ ratio top (ap unsigned_abs bottom) ∙ sym (product_parts p q v t k j refl refl))
    (subst (λ z. pos 0 ≤ℤ z) (sym bottom) (omega (arith, ints)))
    (product-value p q v t)
product_means_at a (negsuc b) c d g h x y u w n m b_low d_low v t eg eh ex ey eu ew en em =
    absurd (omega (arith, ints))
product_means_at a (pos b) c (negsuc d) g h x y u w n m b_low d_low v t eg eh ex ey eu ew en em =
    absurd (omega (arith, ints))

pub product_means : (p q : Frac) (g h x y u w n m : ℤ)
    → g ≡ pos (gcd (unsigned_abs p.num.value) (unsigned_abs q.den.value))
    → h ≡ pos (gcd (unsigned_abs q.num.value) (unsigned_abs p.den.value))
    → x ≡ exact p.num.value (unsigned_abs g) → y ≡ exact q.num.value (unsigned_abs h)
    → u ≡ exact p.den.value (unsigned_abs h) → w ≡ exact q.den.value (unsigned_abs g)
    → n ≡ x *ℤ y → m ≡ u *ℤ w → Means n m (T.product (fraction_of p) (fraction_of q)).ratio
unfolding fraction_of
product_means p q g h x y u w n m eg eh ex ey eu ew en em =
    subst (Means n m) (sym (ratio-product (fraction_of p) (fraction_of q)))
    (product_means_at p.num.value p.den.value q.num.value q.den.value g h x y u w n m p.den_low
    q.den_low (is_in_lowest_terms p) (is_in_lowest_terms q) eg eh ex ey eu ew en em)

-- ---- sums
-- l and r are the two parts of p + q, which is n over m
pub record IsSum (p q : T.Fraction) (l r n m : ℤ) : Type 0 where
  pub left_is : l ≡ part p q
  pub right_is : r ≡ part q p
  pub means_sum : Means n m (T.sum p q).ratio

abbrev pair_part : Ratio → Ratio → ℤ
pair_part p q = p.num *ℤ pos (q.den / gcd p.den q.den)

-- the same of pairs
record IsPairSum (p q : Ratio) (l r n m : ℤ) : Type 0 where
  left_is : l ≡ pair_part p q
  right_is : r ≡ pair_part q p
  means_sum : Means n m (ratios.add p q)

sum_means_at : (a b c d g e f l r t k n u w m : ℤ) → pos 1 ≤ℤ b → pos 1 ≤ℤ d
    → IsLowest (ratio a (unsigned_abs b)) → IsLowest (ratio c (unsigned_abs d))
    → g ≡ pos (gcd (unsigned_abs b) (unsigned_abs d)) → e ≡ exact d (unsigned_abs g) → l ≡ a *ℤ e
    → f ≡ exact b (unsigned_abs g) → r ≡ c *ℤ f
    → t ≡ l +ℤ r → k ≡ pos (gcd (unsigned_abs t) (unsigned_abs g)) → u ≡ exact b (unsigned_abs g)
    → w ≡ exact d (unsigned_abs k) → m ≡ u *ℤ w → n ≡ exact t (unsigned_abs k)
    → IsPairSum (ratio a (unsigned_abs b)) (ratio c (unsigned_abs d)) l r n m
sum_means_at a (pos b) c (pos d) g e f l r t k n u w m b_low d_low v s eg ee el ef er et ek eu ew em
    en =
    let p = ratio a b in
    let q = ratio c d in
    let h = gcd b d in
    let first : l ≡ a *ℤ pos (d / h) = el
    ∙ ap (λ z. a *ℤ z) (ee ∙ ap (λ z. exact (pos d) (unsigned_abs z)) eg) in
    let second : r ≡ c *ℤ pos (b / h) = er
    ∙ ap (λ z. c *ℤ z) (ef ∙ ap (λ z. exact (pos b) (unsigned_abs z)) eg) in
    let j = gcd (unsigned_abs t) h in
    let k_is : unsigned_abs k ≡ j = ap unsigned_abs ek
    ∙ ap (λ z. gcd (unsigned_abs t) (unsigned_abs z)) eg in
    let top : n ≡ exact t j = en ∙ ap (exact t) k_is in
    let bottom : m ≡ pos (b / h * (d / j)) = em
    ∙ ap₂ ◌*ℤ◌ (eu ∙ ap (λ z. exact (pos b) (unsigned_abs z)) eg) (ew
    ∙ ap (exact (pos d)) k_is) in
    record {
      left_is = first;
      right_is = second ∙ ap (λ z. c *ℤ pos (b / z)) (gcd_comm b d);
      means_sum = means n m (ratios.add p q)
          (ap₂ ratio top (ap unsigned_abs bottom)
          ∙ sym (sum_parts p q v s h j t refl (et ∙ ap₂ ◌+ℤ◌ first second) refl))
          (subst (λ z. pos 0 ≤ℤ z) (sym bottom) (omega (arith, ints)))
          (sum-value p q v s);
    }
sum_means_at a (negsuc b) c d g e f l r t k n u w m b_low d_low v s eg ee el ef er et ek eu ew em
    en = absurd (omega (arith, ints))
sum_means_at a (pos b) c (negsuc d) g e f l r t k n u w m b_low d_low v s eg ee el ef er et ek eu ew
    em en = absurd (omega (arith, ints))

pub sum_means : (p q : Frac) (g e f l r t k n u w m : ℤ)
    → g ≡ pos (gcd (unsigned_abs p.den.value) (unsigned_abs q.den.value))
    → e ≡ exact q.den.value (unsigned_abs g) → l ≡ p.num.value *ℤ e
    → f ≡ exact p.den.value (unsigned_abs g) → r ≡ q.num.value *ℤ f
    → t ≡ l +ℤ r → k ≡ pos (gcd (unsigned_abs t) (unsigned_abs g))
    → u ≡ exact p.den.value (unsigned_abs g) → w ≡ exact q.den.value (unsigned_abs k)
    → m ≡ u *ℤ w → n ≡ exact t (unsigned_abs k)
    → IsSum (fraction_of p) (fraction_of q) l r n m
unfolding fraction_of
sum_means p q g e f l r t k n u w m eg ee el ef er et ek eu ew em en =
    let s = sum_means_at p.num.value p.den.value q.num.value q.den.value g e f l r t k n u w m
    p.den_low q.den_low (is_in_lowest_terms p) (is_in_lowest_terms q) eg ee el ef er et ek eu ew
    em en in
    record {
      left_is = s.left_is;
      right_is = s.right_is;
      means_sum = subst (Means n m) (sym (ratio-sum (fraction_of p) (fraction_of q))) s.means_sum;
    }

pub sum_left : (p q : T.Fraction) (l r n m : ℤ) → IsSum p q l r n m → 2 ^ 127 ≤ unsigned_abs l
    → SumIsPast p q
sum_left p q l r n m s h = left_past (subst (λ z. 2 ^ 127 ≤ unsigned_abs z) s.left_is h)

pub sum_right : (p q : T.Fraction) (l r n m : ℤ) → IsSum p q l r n m → 2 ^ 127 ≤ unsigned_abs r
    → SumIsPast p q
sum_right p q l r n m s h = right_past (subst (λ z. 2 ^ 127 ≤ unsigned_abs z) s.right_is h)

pub sum_top : (p q : T.Fraction) (l r n m : ℤ) → IsSum p q l r n m → 2 ^ 127 ≤ unsigned_abs (l +ℤ r)
    → SumIsPast p q
sum_top p q l r n m s h =
    parts_past (subst (λ z. 2 ^ 127 ≤ unsigned_abs z) (ap₂ ◌+ℤ◌ s.left_is s.right_is) h)

pub sum_den : (p q : T.Fraction) (l r n m : ℤ) → IsSum p q l r n m → 2 ^ 127 ≤ unsigned_abs m
    → SumIsPast p q
sum_den p q l r n m s h = den_past (subst (λ (x : Ratio). 2 ^ 127 ≤ x.den) s.means_sum.is h)

pub sum_fits : (p q : T.Fraction) (l r n m : ℤ) → IsSum p q l r n m → unsigned_abs l < 2 ^ 127
    → unsigned_abs r < 2 ^ 127 → unsigned_abs (l +ℤ r) < 2 ^ 127 → unsigned_abs m < 2 ^ 127
    → SumIsPast p q → ⊥
sum_fits p q l r n m s hl hr ht hm (left_past h) = let f = subst (λ z. unsigned_abs z < 2 ^ 127)
    s.left_is hl in omega arith
sum_fits p q l r n m s hl hr ht hm (right_past h) = let f = subst (λ z. unsigned_abs z < 2 ^ 127)
    s.right_is hr in omega arith
sum_fits p q l r n m s hl hr ht hm (parts_past h) = let f = subst (λ z. unsigned_abs z < 2 ^ 127)
    (ap₂ ◌+ℤ◌ s.left_is s.right_is) ht in omega arith
sum_fits p q l r n m s hl hr ht hm (den_past h) = let f = subst (λ (x : Ratio). x.den < 2 ^ 127)
    s.means_sum.is hm in omega arith

-- ---- zero, one over a fraction, and fractions from parts that are not reduced
-- zero is 0 over 1
zero_den : (d : ℤ) → pos 1 ≤ℤ d → gcd 0 (unsigned_abs d) ≡ 1 → unsigned_abs d ≡ 1
zero_den d h e = sym (gcd-zero (unsigned_abs d)) ∙ gcd_comm (unsigned_abs d) 0 ∙ e

pub zero_means : (x : Frac) → x.num.value ≡ pos 0 → frac_meaning x ≡ ratios.zero
zero_means x e =
    ap₂ ratio e (zero_den x.den.value x.den_low
    (ap (λ z. gcd (unsigned_abs z) (unsigned_abs x.den.value)) (sym e) ∙ x.lowest))

turned_below_at : (n d : ℤ) → n <ℤ pos 0 → pos 1 ≤ℤ d → IsLowest (ratio n (unsigned_abs d))
    → Means (neg_ℤ d) (neg_ℤ n) (inverse_of (ratio n (unsigned_abs d)))
turned_below_at (negsuc n) (pos d) h k v = means (neg_ℤ (pos d)) (pos (suc n))
    (inverse_of (ratio (negsuc n) d)) refl (omega (arith, ints)) (inverse-value (ratio (negsuc n) d)
    v)
turned_below_at (negsuc n) (negsuc d) h k v = absurd (omega (arith, ints))
turned_below_at (pos n) d h k v = absurd (omega (arith, ints))

pub turned_below : (x : Frac) (n m : ℤ) → n ≡ neg_ℤ x.den.value → m ≡ neg_ℤ x.num.value
    → x.num.value <ℤ pos 0 → Means n m (T.inverse (fraction_of x)).ratio
unfolding fraction_of
turned_below x n m e f h = subst (Means n m) (sym (ratio-inverse (fraction_of x)))
    (means_same _ _ n m _ e f (turned_below_at x.num.value x.den.value h x.den_low
    (is_in_lowest_terms x)))

turned_above_at : (n d : ℤ) → pos 0 ≤ℤ n → n ≢ pos 0 → pos 1 ≤ℤ d
    → IsLowest (ratio n (unsigned_abs d)) → Means d n (inverse_of (ratio n (unsigned_abs d)))
turned_above_at (pos zero) d h e k v = absurd (e refl)
turned_above_at (pos (suc n)) (pos d) h e k v =
    means (pos d) (pos (suc n)) (inverse_of (ratio (pos (suc n)) d)) refl (omega (arith, ints))
    (inverse-value (ratio (pos (suc n)) d) v)
turned_above_at (pos (suc n)) (negsuc d) h e k v = absurd (omega (arith, ints))
turned_above_at (negsuc n) d h e k v = absurd (omega (arith, ints))

pub turned_above : (x : Frac) → pos 0 ≤ℤ x.num.value → fraction_of x ≢ T.fractions.zero
    → Means x.den.value x.num.value (T.inverse (fraction_of x)).ratio
unfolding fraction_of
turned_above x h e = subst (Means x.den.value x.num.value) (sym (ratio-inverse (fraction_of x)))
    (turned_above_at x.num.value x.den.value h
    (λ z. e (same_fraction _ _ (zero_means x z ∙ sym (ratio-whole (pos 0))))) x.den_low
    (is_in_lowest_terms x))

reduce_signed : (negative : Bool) (size den : ℕ)
    → reduce (ratio (negate_if negative (pos size)) den)
    ≡ ratio (negate_if negative (pos (size / gcd size den))) (den / gcd size den)
unfolding reduce
reduce_signed false size den = refl
reduce_signed true zero den = ap (λ (z : ℤ). ratio z (den / gcd 0 den))
    (ap pos (N.zero-div (gcd 0 den)) ∙ sym (ap (λ (n : ℕ). neg_ℤ (pos n)) (N.zero-div (gcd 0 den))))
reduce_signed true (suc size) den = refl

pub reduced_means : (negative : Bool) (size den g : ℕ) (n m : ℤ) → 0 < den → g ≡ gcd size den
    → n ≡ negate_if negative (pos (size / g)) → m ≡ pos (den / g)
    → Means n m (T.over (negate_if negative (pos size)) den).ratio
reduced_means negative size den g n m some eg en em =
    subst (Means n m) (sym (ratio-fraction (reduce (ratio (negate_if negative (pos size)) den))
    (reduce-value (ratio (negate_if negative (pos size)) den) some)))
    (means n m (reduce (ratio (negate_if negative (pos size)) den))
    (ap₂ ratio (en ∙ ap (λ x. negate_if negative (pos (size / x))) eg) (ap unsigned_abs em
    ∙ ap (λ x. den / x) eg) ∙ sym (reduce_signed negative size den))
    (subst (λ z. pos 0 ≤ℤ z) (sym em) (omega (arith, ints)))
    (reduce-value (ratio (negate_if negative (pos size)) den) some))

pub abs-signed : (negative : Bool) (n : ℕ) → unsigned_abs (negate_if negative (pos n)) ≡ n
abs-signed false n = refl
abs-signed true n = abs-neg (pos n)

-- ---- weights
pub product_past : (p q : T.Fraction) → IsPast (T.fraction_size (T.product p q))
    → IsPast (product_size (T.fraction_size p) (T.fraction_size q))
product_past p q = past_under _ _ (product_den-pos (T.fraction_size p) (T.fraction_size q) (some p)
    (some q)) (product_within T.fraction_arithmetic T.fraction_size fractions_bounded p q)

some_size : (q : T.Fraction) → q ≢ T.fractions.zero → 0 < unsigned_abs q.num
some_size q ne = go q.num refl
  where
    go : (z : ℤ) → q.num ≡ z → 0 < unsigned_abs z
    go (pos zero) e = absurd (ne (top_zero q e))
    go (pos (suc n)) e = omega arith
    go (negsuc n) e = omega arith

pub quotient_past : (p q : T.Fraction) → q ≢ T.fractions.zero
    → IsPast (T.fraction_size (T.quotient p q))
    → IsPast (quotient_size (T.fraction_size p) (T.fraction_size q))
quotient_past p q ne =
    past_under _ _ (product_den-pos (T.fraction_size p) (size q.den (unsigned_abs q.num)) (some p)
    (some_size q ne)) (fraction_quotients_bounded p q ne)

-- over the least common denominator a part is what the weight has
part_size : (p q : T.Fraction) → unsigned_abs (part p q) ≡ unsigned_abs p.num
    * (lcm p.den q.den / p.den)
unfolding lcm
part_size p q = unsigned_abs-mul p.num (pos (q.den / gcd p.den q.den))
    ∙ ap (λ x. unsigned_abs p.num * x)
    (sym (N.mul-div_cancel_left (q.den / gcd p.den q.den) (some p)))

pub sum_past : (p q : T.Fraction) → SumIsPast p q
    → IsPast (sum_size (T.fraction_size p) (T.fraction_size q))
sum_past p q = go
  where
    first : unsigned_abs (part p q) ≡ unsigned_abs p.num * (lcm p.den q.den / p.den)
    first = part_size p q

    second : unsigned_abs (part q p) ≡ unsigned_abs q.num * (lcm p.den q.den / q.den)
    second = part_size q p ∙ ap (λ l. unsigned_abs q.num * (l / q.den))
        (lcm_comm q.den p.den (some q) (some p))

    go : SumIsPast p q → IsPast (sum_size (T.fraction_size p) (T.fraction_size q))
    go (left_past e) = inl (omega (arith, first))
    go (right_past e) = inl (omega (arith, second))
    go (parts_past e) = inl (omega (arith, first, second, abs-add (part p q) (part q p)))
    go (den_past e) =
        let most : (T.sum p q).den ≤ lcm p.den q.den =
        N.le_of_dvd (lcm-pos p.den q.den (some p) (some q)) (fractions_bounded.add_size p
        q).divides in
        inr (omega arith)

pub difference_past : (p q : T.Fraction) → SumIsPast p (T.opposite q)
    → IsPast (sum_size (T.fraction_size p) (T.fraction_size q))
difference_past p q s = subst (λ w. IsPast (sum_size (T.fraction_size p) w))
    (fractions_bounded.neg_size q) (sum_past p (T.opposite q) s)

-- ---- the fractions that results are
pub means_fraction : (n m : ℤ) (p : T.Fraction) → Means n m p.ratio
    → T.fraction (ratio n (unsigned_abs m)) ≡ p
means_fraction n m p s = ap T.fraction s.is ∙ fraction-ratio p

pub is_fraction : (z : Frac) (p : T.Fraction) → Means z.num.value z.den.value p.ratio
    → fraction_of z ≡ p
unfolding fraction_of
is_fraction z p s = same_fraction _ p s.is

-- what a `Frac` is fits
pub frac_fits : (z : Frac) (p : T.Fraction) → fraction_of z ≡ p → IsPast (T.fraction_size p) → ⊥
unfolding fraction_of
frac_fits z p e past = not_past z.num.value z.den.value (frac_meaning z)
    (record { is = refl; low = z.den_low; lowest = z.lowest }) z.num.in_range z.den.in_range
    (subst (λ (x : T.Fraction). IsPast (T.fraction_size x)) (sym e) past)

pub coprime_at : (z : Frac) (p : Ratio) → frac_meaning z ≡ p → fraction_of z ≡ T.fraction p
unfolding fraction_of
coprime_at z p e = sym (fraction-ratio (fraction_of z)) ∙ ap T.fraction e

pub opposite_at : (x z : Frac) → frac_meaning z ≡ ratios.neg (frac_meaning x)
    → fraction_of z ≡ T.opposite (fraction_of x)
unfolding fraction_of
opposite_at x z e = same_fraction _ _ (e ∙ sym (ratio-opposite (fraction_of x)))

pub whole_at : (n : ℤ) (z : Frac) → frac_meaning z ≡ ratio n 1 → fraction_of z ≡ T.whole n
whole_at n z e = coprime_at z (ratio n 1) e

pub at_whole : (n : ℤ) (z : Frac) → fraction_of z ≡ T.whole n → frac_meaning z ≡ ratio n 1
unfolding fraction_of
at_whole n z e = ap (λ (a : T.Fraction). a.ratio) e ∙ ratio-whole n

-- a quotient times the divisor
pub quotient_means : (x y z : Frac) → fraction_of y ≢ T.fractions.zero
    → fraction_of z ≡ T.product (fraction_of x) (T.inverse (fraction_of y))
    → T.product (fraction_of z) (fraction_of y) ≡ fraction_of x
quotient_means x y z ne e =
    ap (λ (p : T.Fraction). T.product p (fraction_of y)) e
    ∙ fractions_ring.mul_assoc (fraction_of x) (T.inverse (fraction_of y)) (fraction_of y)
    ∙ ap (T.product (fraction_of x)) (fractions_ring.mul_comm (T.inverse (fraction_of y))
    (fraction_of y) ∙ fractions_field.mul-inverse (fraction_of y) ne)
    ∙ fractions_ring.mul-one (fraction_of x)

-- a whole number and its inverse
pub unit_number : (r : Option (Frac × Frac)) (z : ℤ) → IfSome r (λ u. fraction_of u.0 ≡ T.whole z)
    → IfSome r (λ u. fraction_of u.0 ≡ integer_in T.fraction_arithmetic z)
unit_number None z h = tt
unit_number (Some u) z h = h ∙ sym (of_int-whole z)

pub unit_inverse : (r : Option (Frac × Frac)) (z : ℤ) (P : Type 0)
    → IfSome r (λ u. fraction_of u.0 ≡ T.whole z)
    → IfSome r (λ u. fraction_of u.1 ≡ T.inverse (T.whole z)) → (IsNone r ↔ ((z ≡ pos 0) ⊎ P))
    → IfSome r (λ u. T.product (fraction_of u.0) (fraction_of u.1) ≡ T.whole (pos 1))
unit_inverse None z P h k n = tt
unit_inverse (Some u) z P h k n = ap₂ T.product h k ∙ fractions_field.mul-inverse (T.whole z)
    (λ q. let e : true ≡ false = n.1 (inl (whole_injective z (pos 0) q)) in cc)
