-- The laws of weights.
--   quotient_on                    quotients one after the other
--   under_refl, under_trans        an order of weights with denominators above zero
--   under-sum                      sums keep it; sum-left, sum-right: a weight is under its sums
--   sum_size_comm, sum_size_assoc, zero-sum_size
--   under_least                    (0, 1) is under each weight
--   past_under                     what is above a weight that is past is past
--   abs-neg, abs-add               sizes of opposites and sums; abs-pos, same_abs of numbers that are at least 1
--   zero_or_some                   a natural number is zero or above zero
--   inverse_size                   the weight of an inverse
--   difference_within              a difference is within the weight of the sum
--   fractions_bounded              the weights of operations bound their results
use Rattle.std.proofs.Common.{◌≡◌, ◌≢◌, ℕ, zero, suc, ◌+◌, ◌*◌, ◌/◌, ◌<◌, ◌≤◌, ◌⊎◌, inl, inr, ℤ, pos, negsuc, ◌+ℤ◌, ◌*ℤ◌, neg_ℤ, unsigned_abs, [], ◌∷◌, refl, sym, ap, ap₂, subst, ◌∙◌, arith}
use Prim.Native.Nat.{◌∣◌}
use native.Mathlib.Nat as N
use Rattle.std.proofs.lemmas.Int.{ints, unsigned_abs-mul}
use lib.IntN.{nat_abs}
use lib.Signed.{◌≤ℤ◌}
use Rattle.algebra.specs.Arithmetic.{Arithmetic}
use Rattle.algebra.specs.Ring.{CommRing}
use Rattle.algebra.specs.Gcd.{gcd, lcm}
use Rattle.algebra.specs.Scalars.{IsBounded}
use Rattle.algebra.specs.Ratio.{Ratio, ratio, exact, reduce, sum_of, product_of, inverse_of, ratio_size}
use Rattle.algebra.specs.Fraction.{Fraction, fraction_arithmetic, fraction_size}
use Rattle.algebra.specs.Size.{Size, size, sum_size, times_size, factor_of, IsPast, IsUnder}
use Rattle.algebra.proofs.GcdLaws.{gcd-left, gcd-right}
use Rattle.algebra.proofs.LcmLaws.{lcm-left, lcm-right, lcm_least, lcm-pos, lcm_comm, lcm_assoc, one-lcm}
use Rattle.algebra.proofs.Basics.{abs_zero}
use Rattle.algebra.proofs.IntRing.{ℤ_ring}
use Rattle.algebra.proofs.RingSolver.{ring, ring_rules, from_two}
use Rattle.algebra.proofs.RatioLaws as F
use Rattle.algebra.proofs.Fractions.{some, top_zero, ratio-sum, ratio-product, ratio-opposite, ratio-zero, ratio-one}

pub quotient_on : (d l m : ℕ) → 0 < d → d ∣ l → l ∣ m → (l / d) * (m / l) ≡ m / d
quotient_on d l m h p q =
    let one : d * (l / d) ≡ l = N.mul-div_cancel' d p in
    let two : l * (m / l) ≡ m = N.mul-div_cancel' l q in
    let three : d * (m / d) ≡ m = N.mul-div_cancel' d (N.dvd_trans d p q) in
    N.eq_of_mul-eq-mul_left d h _ _ (sym (N.mul_assoc d (l / d) (m / l)) ∙ ap (λ x. x * (m / l)) one
    ∙ two ∙ sym three)

-- over a common multiple
scaled : (a b : Size) (m : ℕ) → 0 < a.den → IsUnder a b → b.den ∣ m → a.size * (m / a.den) ≤ b.size
    * (m / b.den)
scaled a b m h u q =
    let e : (b.den / a.den) * (m / b.den) ≡ m / a.den = quotient_on a.den b.den m h u.divides q in
    let l : a.size * (b.den / a.den) * (m / b.den) ≤ b.size * (m / b.den) =
    N.mul-le-mul_right (m / b.den) u.at_most in
    subst (λ x. x ≤ b.size * (m / b.den)) (N.mul_assoc a.size (b.den / a.den) (m / b.den)
    ∙ ap (λ x. a.size * x) e) l

pub under_refl : (a : Size) → 0 < a.den → IsUnder a a
under_refl a h = record {
  divides = N.dvd_refl a.den;
  at_most = rw (N.div_self h, N.mul-one) (N.le_refl a.size);
}

pub under_trans : (a b c : Size) → 0 < a.den → 0 < c.den → IsUnder a b → IsUnder b c → IsUnder a c
under_trans a b c h k u v = record {
  divides = N.dvd_trans a.den u.divides v.divides;
  at_most = N.le_trans (scaled a b c.den h u v.divides) v.at_most;
}

-- a sum over a multiple of its denominator
pub spread : (a b : Size) (m : ℕ) → 0 < a.den → 0 < b.den → lcm a.den b.den ∣ m
    → (sum_size a b).size * (m / (sum_size a b).den) ≡ a.size * (m / a.den) + b.size * (m / b.den)
spread a b m h k q =
    let l = lcm a.den b.den in
    let x : (l / a.den) * (m / l) ≡ m / a.den = quotient_on a.den l m h (lcm-left a.den b.den) q in
    let y : (l / b.den) * (m / l) ≡ m / b.den = quotient_on b.den l m k (lcm-right a.den b.den k)
    q in
    N.add-mul (a.size * (l / a.den)) (b.size * (l / b.den)) (m / l)
    ∙ ap₂ ◌+◌ (N.mul_assoc a.size (l / a.den) (m / l) ∙ ap (λ z. a.size * z) x)
    (N.mul_assoc b.size (l / b.den) (m / l) ∙ ap (λ z. b.size * z) y)

pub sum_size_comm : (a b : Size) → 0 < a.den → 0 < b.den → sum_size a b ≡ sum_size b a
sum_size_comm a b h k =
    let e = lcm_comm a.den b.den h k in
    ap₂ size (N.add_comm (a.size * (lcm a.den b.den / a.den)) (b.size * (lcm a.den b.den / b.den))
    ∙ ap (λ l. b.size * (l / b.den) + a.size * (l / a.den)) e) e

pub sum_size_assoc : (a b c : Size) → 0 < a.den → 0 < b.den → 0 < c.den → sum_size (sum_size a b) c
    ≡ sum_size a (sum_size b c)
sum_size_assoc a b c h k j =
    let l = lcm (lcm a.den b.den) c.den in
    let r = lcm a.den (lcm b.den c.den) in
    let e : l ≡ r = lcm_assoc a.den b.den c.den h k j in
    let left = spread a b l h k (lcm-left (lcm a.den b.den) c.den) in
    let right = spread b c r k j (lcm-right a.den (lcm b.den c.den) (lcm-pos b.den c.den k j)) in
    ap₂ size
    (ap (λ x. x + c.size * (l / c.den)) left
    ∙ ap (λ m. a.size * (m / a.den) + b.size * (m / b.den) + c.size * (m / c.den)) e
    ∙ N.add_assoc (a.size * (r / a.den)) (b.size * (r / b.den)) (c.size * (r / c.den))
    ∙ ap (λ x. a.size * (r / a.den) + x) (sym right)) e

pub zero-sum_size : (a : Size) → 0 < a.den → sum_size (size 0 1) a ≡ a
zero-sum_size a h =
    let e : lcm 1 a.den ≡ a.den = one-lcm a.den h in
    ap₂ size (ap (λ l. 0 * (l / 1) + a.size * (l / a.den)) e
    ∙ ap₂ ◌+◌ (N.zero-mul (a.den / 1)) (ap (λ x. a.size * x) (N.div_self h)
    ∙ N.mul-one a.size) ∙ N.zero-add a.size) e

pub under-sum : (a b c d : Size) → 0 < a.den → 0 < b.den → 0 < c.den → 0 < d.den → IsUnder a c
    → IsUnder b d → IsUnder (sum_size a b) (sum_size c d)
under-sum a b c d ha hb hc hd u v =
    let m = lcm c.den d.den in
    let left : c.den ∣ m = lcm-left c.den d.den in
    let right : d.den ∣ m = lcm-right c.den d.den hd in
    let divides : lcm a.den b.den ∣ m =
    lcm_least a.den b.den m hb (N.dvd_trans a.den u.divides left)
    (N.dvd_trans b.den v.divides right) in
    record {
      divides = divides;
      at_most = subst (λ x. x ≤ (sum_size c d).size) (sym (spread a b m ha hb divides))
          (N.add-le-add (scaled a c m ha u left) (scaled b d m hb v right));
    }

pub sum-left : (a b : Size) → 0 < a.den → 0 < b.den → IsUnder a (sum_size a b)
sum-left a b h k = record { divides = lcm-left a.den b.den; at_most = omega arith }

pub sum-right : (a b : Size) → 0 < a.den → 0 < b.den → IsUnder b (sum_size a b)
sum-right a b h k = record { divides = lcm-right a.den b.den k; at_most = omega arith }

pub under_least : (s : Size) → 0 < s.den → IsUnder (size 0 1) s
under_least s h = let least : 0 ≤ s.size = omega arith in record {
  divides = N.one-dvd s.den;
  at_most = subst (λ n. n ≤ s.size) (sym (N.zero-mul (s.den / 1))) least;
}

pub quotient-pos : (d n : ℕ) → d ∣ n → 0 < n → 0 < n / d
quotient-pos d n p h = N.pos_of_ne-zero (λ e. let z : n ≡ 0 = sym (N.mul-div_cancel' d p)
    ∙ ap (λ x. d * x) e ∙ N.mul-zero d in omega arith)

pub past_under : (a b : Size) → 0 < b.den → IsUnder a b → IsPast a → IsPast b
past_under a b h u (inl p) =
    let grows : a.size ≤ a.size * (b.den / a.den) =
    N.le-mul_of_pos_right a.size (quotient-pos a.den b.den u.divides h) in
    inl (omega (arith, u.at_most))
past_under a b h u (inr p) = let below : a.den ≤ b.den = N.le_of_dvd h u.divides in
    inr (omega arith)

-- ---- fractions
pub abs-neg : (z : ℤ) → unsigned_abs (neg_ℤ z) ≡ unsigned_abs z
abs-neg (pos zero) = refl
abs-neg (pos (suc n)) = refl
abs-neg (negsuc n) = refl

pub abs-add : (a b : ℤ) → unsigned_abs (a +ℤ b) ≤ unsigned_abs a + unsigned_abs b
abs-add (pos m) (pos n) = grind (arith, ints)
abs-add (pos m) (negsuc n) = grind (arith, ints)
abs-add (negsuc m) (pos n) = grind (arith, ints)
abs-add (negsuc m) (negsuc n) = grind (arith, ints)

pub abs-pos : (z : ℤ) → pos 1 ≤ℤ z → 0 < unsigned_abs z
abs-pos (pos n) h = omega (arith, ints)
abs-pos (negsuc n) h = absurd (omega (arith, ints))

pub same_abs : (a b : ℤ) → pos 1 ≤ℤ a → pos 1 ≤ℤ b → unsigned_abs a ≡ unsigned_abs b → a ≡ b
same_abs (pos a) (pos b) h k e = ap pos e
same_abs (pos a) (negsuc b) h k e = absurd (omega (arith, ints))
same_abs (negsuc a) b h k e = absurd (omega (arith, ints))

exact_size : (n : ℤ) (g : ℕ) → unsigned_abs (exact n g) ≡ unsigned_abs n / g
exact_size (pos n) g = refl
exact_size (negsuc n) g = abs-neg (pos (suc n / g))

-- lowest terms make the weight no greater
under-reduce : (p : Ratio) → 0 < p.den → IsUnder (ratio_size (reduce p)) (ratio_size p)
unfolding reduce
under-reduce p h =
    let g = gcd (nat_abs p.num) p.den in
    let e : p.den / g * g ≡ p.den = N.div-mul_cancel g (gcd-right (nat_abs p.num) p.den) in
    let d : p.den / g ∣ p.den = subst (λ x. p.den / g ∣ x) e (N.dvd-mul_right (p.den / g) g) in
    let q : p.den / (p.den / g) ≡ g = N.eq_of_mul-eq-mul_left (p.den / g)
    (quotient-pos g p.den (gcd-right (nat_abs p.num) p.den) h) _ _
    (N.mul-div_cancel' (p.den / g) d ∙ sym e) in
    record {
      divides = d;
      at_most = subst (λ x. x ≤ unsigned_abs p.num) (sym (ap₂ ◌*◌ (exact_size p.num g) q
          ∙ N.div-mul_cancel g (gcd-left (nat_abs p.num) p.den)))
          (N.le_refl (unsigned_abs p.num));
    }

common_sum : {A : Type 0} (R : CommRing A) (n d m e p q l : A) → R.mul d p ≡ l → R.mul e q ≡ l
    → R.mul (R.add (R.mul n p) (R.mul m q)) (R.mul d e) ≡ R.mul (R.add (R.mul n e) (R.mul m d)) l
common_sum R n d m e p q l h k = from_two R (R.mul n e) h (R.mul m d) k
    (ring R (n ∷ d ∷ m ∷ e ∷ p ∷ q ∷ l ∷ []) (search ring_rules depth 40) refl)

-- a sum over the least common denominator
within_fraction_sum : (a b : Ratio) → 0 < a.den → 0 < b.den
    → IsUnder (ratio_size (F.sum a b)) (sum_size (ratio_size a) (ratio_size b))
within_fraction_sum a b h k =
    let l = lcm a.den b.den in
    let p = l / a.den in
    let q = l / b.den in
    let x : Ratio = ratio (a.num *ℤ pos p +ℤ b.num *ℤ pos q) l in
    let l_some : 0 < l = lcm-pos a.den b.den h k in
    let alike : F.Alike x (sum_of a b) =
    common_sum ℤ_ring a.num (pos a.den) b.num (pos b.den) (pos p) (pos q) (pos l)
    (ap pos (N.mul-div_cancel' a.den (lcm-left a.den b.den)))
    (ap pos (N.mul-div_cancel' b.den (lcm-right a.den b.den k))) in
    let same : reduce x ≡ F.sum a b = F.same_reduced x (sum_of a b) l_some
    (F.mul-pos a.den b.den h k) alike in
    let top : unsigned_abs x.num ≤ unsigned_abs a.num * p + unsigned_abs b.num * q =
    omega (
      arith,
      abs-add (a.num *ℤ pos p) (b.num *ℤ pos q),
      unsigned_abs-mul a.num (pos p),
      unsigned_abs-mul b.num (pos q),
    ) in
    let under : IsUnder (ratio_size (F.sum a b)) (ratio_size x) =
    subst (λ y. IsUnder (ratio_size y) (ratio_size x)) same (under-reduce x l_some) in
    record { divides = under.divides; at_most = N.le_trans under.at_most top }

pub factor_some : (n d : ℕ) → 0 < n → factor_of n d ≡ size n d
factor_some zero d h = absurd (omega arith)
factor_some (suc n) d h = refl

pub zero_or_some : (n : ℕ) → (n ≡ 0) ⊎ (0 < n)
zero_or_some zero = inl refl
zero_or_some (suc n) = inr (omega arith)

within_fraction_product : (a b : Ratio) → 0 < a.den → 0 < b.den
    → IsUnder (ratio_size (F.product a b)) (times_size (ratio_size a) (ratio_size b))
within_fraction_product a b h k =
    subst (λ n. IsUnder (ratio_size (F.product a b)) (size n (a.den * b.den)))
    (unsigned_abs-mul a.num b.num) (under-reduce (product_of a b) (F.mul-pos a.den b.den h k))

-- only zero has no size
pub no_size : (a : Fraction) → unsigned_abs a.num ≡ 0 → a.den ≡ 1
no_size a e = ap (λ (x : Fraction). x.den) (top_zero a (abs_zero a.num e))
    ∙ ap (λ (p : Ratio). p.den) ratio-zero

pub fractions_bounded : IsBounded fraction_arithmetic fraction_size
fractions_bounded = record {
  den_pos = some;
  zero_size = ap ratio_size ratio-zero;
  one_size = subst (λ (p : Ratio). IsUnder (ratio_size p) (size 1 1)) (sym ratio-one)
      (under_refl (size 1 1) (omega arith));
  no_size = no_size;
  neg_size = λ a. ap ratio_size (ratio-opposite a) ∙ ap (λ n. size n a.den) (abs-neg a.num);
  add_size =
      λ a b. subst (λ p. IsUnder (ratio_size p) (sum_size (fraction_size a) (fraction_size b)))
      (sym (ratio-sum a b)) (within_fraction_sum a.ratio b.ratio (some a) (some b));
  mul_size =
      λ a b. subst (λ p. IsUnder (ratio_size p) (times_size (fraction_size a) (fraction_size b)))
      (sym (ratio-product a b)) (within_fraction_product a.ratio b.ratio (some a) (some b));
}

pub inverse_size : (n : ℤ) (d : ℕ) → n ≢ pos 0 → ratio_size (inverse_of (ratio n d))
    ≡ size d (unsigned_abs n)
inverse_size (pos zero) d ne = absurd (ne refl)
inverse_size (pos (suc n)) d ne = refl
inverse_size (negsuc n) d ne = ap (λ m. size m (suc n)) (abs-neg (pos d))

pub difference_within : {A : Type 0} (N : Arithmetic A) (size_of : A → Size) → IsBounded N size_of
    → (a b : A) → IsUnder (size_of (N.add a (N.neg b))) (sum_size (size_of a) (size_of b))
difference_within N size_of bounded a b =
    subst (λ w. IsUnder (size_of (N.add a (N.neg b))) (sum_size (size_of a) w)) (bounded.neg_size b)
    (bounded.add_size a (N.neg b))
