-- The laws of products of weights, in which a factor 0 counts as 1.
--   AtMost a b           both numbers of a are at most those of b: what is past stays past (past_at_most, past_product, past_left, past_right)
--   under_at_most        a weight that is under another is at most it
--   product_at_most      products keep this; product_at_most_left: where the second factor is the same
--   left_at_most, right_at_most     a weight is at most its products
--   product_den-pos, power_den-pos     denominators of products and powers are above zero; product_some: so is the size of a product
--   IsClean s            a denominator above zero, which is one where there is no size
--   clean-sum, clean-product, clean-power     sums, products and powers are clean; clean_of: so are the weights of numbers
--   under_times          products of both numbers keep what is under
--   under_times-sum, under_sum-times     such products distribute over sums: a sum of products is under the product with the sum
--   times_under_product  a product of clean weights bounds it
--   product_assoc, product_comm, one-product, power-add
--   product_within       a product is within the product of the weights; fraction_quotients_bounded: the weights of quotients bound them
use Rattle.std.proofs.Common.{◌≡◌, ◌≢◌, ℕ, pos, zero, suc, ◌+◌, ◌*◌, ◌/◌, ◌<◌, ◌≤◌, ◌⊎◌, inl, inr, refl, sym, ap, ap₂, subst, ◌∙◌, arith}
use Prim.Native.Nat.{◌∣◌}
use native.Mathlib.Nat as N
use Rattle.algebra.specs.Gcd.{lcm}
use Rattle.algebra.specs.Size.{Size, size, sizes, sum_size, times_size, factor_of, factor_size, product_size, IsPast, IsUnder}
use Rattle.algebra.specs.Arithmetic.{Arithmetic, power}
use Rattle.algebra.specs.Ratio.{ratio_size}
use Rattle.algebra.specs.Scalars.{IsBounded, BoundsQuotients}
use Rattle.algebra.specs.Fraction.{product, inverse, fraction_arithmetic, fraction_size}
use Rattle.algebra.proofs.LcmLaws.{lcm-left, lcm-right, lcm_least, lcm-pos, one-lcm}
use Rattle.algebra.proofs.RatioLaws.{mul-pos}
use Rattle.algebra.proofs.Fractions.{top_zero, ratio-inverse}
use Rattle.algebra.proofs.SizeLaws.{quotient-pos, spread, under_refl, under_trans, factor_some, zero_or_some, fractions_bounded, inverse_size}

pub record AtMost (a b : Size) : Type 0 where
  pub sizes : a.size ≤ b.size
  pub dens : a.den ≤ b.den

pub at_most_trans : (a b c : Size) → AtMost a b → AtMost b c → AtMost a c
at_most_trans a b c h k = record {
  sizes = N.le_trans h.sizes k.sizes;
  dens = N.le_trans h.dens k.dens;
}

pub under_at_most : (a b : Size) → 0 < b.den → IsUnder a b → AtMost a b
under_at_most a b h u = record {
  sizes = N.le_trans (N.le-mul_of_pos_right a.size (quotient-pos a.den b.den u.divides h))
      u.at_most;
  dens = N.le_of_dvd h u.divides;
}

pub past_at_most : (a b : Size) → AtMost a b → IsPast a → IsPast b
past_at_most a b l (inl p) = let below = l.sizes in inl (omega arith)
past_at_most a b l (inr p) = let below = l.dens in inr (omega arith)

-- ---- factors
factor_none : (n d : ℕ) → n ≡ 0 → factor_of n d ≡ size 1 1
factor_none zero d h = refl
factor_none (suc n) d h = absurd (omega arith)

pub factor_size-pos : (n d : ℕ) → 0 < (factor_of n d).size
factor_size-pos zero d = omega arith
factor_size-pos (suc n) d = omega arith

pub factor_den-pos : (n d : ℕ) → 0 < d → 0 < (factor_of n d).den
factor_den-pos zero d h = omega arith
factor_den-pos (suc n) d h = h

pub product_den-pos : (a b : Size) → 0 < a.den → 0 < b.den → 0 < (product_size a b).den
product_den-pos a b h k = mul-pos _ _ (factor_den-pos a.size a.den h)
    (factor_den-pos b.size b.den k)

pub product_some : (a b : Size) → 0 < (product_size a b).size
product_some a b = mul-pos _ _ (factor_size-pos a.size a.den) (factor_size-pos b.size b.den)

factor_at_most : (a b : Size) → 0 < b.den → AtMost a b → AtMost (factor_size a) (factor_size b)
factor_at_most a b h l = go (zero_or_some a.size)
  where
    go : (a.size ≡ 0) ⊎ (0 < a.size) → AtMost (factor_size a) (factor_size b)
    go (inl none) = subst (λ s. AtMost s (factor_size b)) (sym (factor_none a.size a.den none))
        (record { sizes = factor_size-pos b.size b.den; dens = factor_den-pos b.size b.den h })
    go (inr some) = subst (λ s. AtMost s (factor_size b)) (sym (factor_some a.size a.den some))
        (subst (λ s. AtMost a s) (sym (factor_some b.size b.den (N.le_trans some l.sizes))) l)

pub product_at_most : (a b c d : Size) → 0 < c.den → 0 < d.den → AtMost a c → AtMost b d
    → AtMost (product_size a b) (product_size c d)
product_at_most a b c d h k l m =
    let x = factor_at_most a c h l in
    let y = factor_at_most b d k m in
    record { sizes = N.mul-le-mul x.sizes y.sizes; dens = N.mul-le-mul x.dens y.dens }

pub product_at_most_left : (a c b : Size) → 0 < c.den → AtMost a c
    → AtMost (product_size a b) (product_size c b)
product_at_most_left a c b h l =
    let x = factor_at_most a c h l in
    record { sizes = N.mul-le-mul x.sizes (N.le_refl _); dens = N.mul-le-mul x.dens (N.le_refl _) }

pub record IsClean (s : Size) : Type 0 where
  pub some : 0 < s.den
  pub no_size : s.size ≡ 0 → s.den ≡ 1

pub clean-product : (a b : Size) → 0 < a.den → 0 < b.den → IsClean (product_size a b)
clean-product a b h k = record {
  some = product_den-pos a b h k;
  no_size = λ e. absurd (let p = product_some a b in omega arith);
}

pub clean-sum : (a b : Size) → IsClean a → IsClean b → IsClean (sum_size a b)
clean-sum a b x y = record { some = lcm-pos a.den b.den x.some y.some; no_size = λ e. go e }
  where
    no_factor : (m n : ℕ) → 0 < n → m * n ≡ 0 → m ≡ 0
    no_factor zero n h e = refl
    no_factor (suc m) n h e = absurd (let p : 0 < suc m * n = mul-pos (suc m) n (omega arith) h in
        omega arith)

    go : a.size * (lcm a.den b.den / a.den) + b.size * (lcm a.den b.den / b.den) ≡ 0
        → lcm a.den b.den ≡ 1
    go e =
        let p : 0 < lcm a.den b.den = lcm-pos a.den b.den x.some y.some in
        let left : a.size ≡ 0 = no_factor a.size (lcm a.den b.den / a.den)
        (quotient-pos a.den (lcm a.den b.den) (lcm-left a.den b.den) p) (omega arith) in
        let right : b.size ≡ 0 = no_factor b.size (lcm a.den b.den / b.den)
        (quotient-pos b.den (lcm a.den b.den) (lcm-right a.den b.den y.some) p) (omega arith) in
        ap₂ lcm (x.no_size left) (y.no_size right) ∙ one-lcm 1 (omega arith)

pub left_at_most : (a b : Size) → IsClean a → 0 < b.den → AtMost a (product_size a b)
left_at_most a b x k = at_most_trans a (factor_size a) (product_size a b) (go (zero_or_some a.size))
    (record {
      sizes = N.le-mul_of_pos_right _ (factor_size-pos b.size b.den);
      dens = N.le-mul_of_pos_right _ (factor_den-pos b.size b.den k);
    })
  where
    go : (a.size ≡ 0) ⊎ (0 < a.size) → AtMost a (factor_size a)
    go (inl none) = let one = x.no_size none in
        subst (λ s. AtMost a s) (sym (factor_none a.size a.den none)) (record {
          sizes = omega arith;
          dens = omega arith;
        })
    go (inr some) = subst (λ s. AtMost a s) (sym (factor_some a.size a.den some))
        (record { sizes = N.le_refl _; dens = N.le_refl _ })

pub product_comm : (a b : Size) → product_size a b ≡ product_size b a
product_comm a b = ap₂ size (N.mul_comm _ _) (N.mul_comm _ _)

pub right_at_most : (a b : Size) → 0 < a.den → IsClean b → AtMost b (product_size a b)
right_at_most a b h y = subst (λ s. AtMost b s) (product_comm b a) (left_at_most b a y h)

-- ---- the product of both numbers
-- a quotient of products
quotient-mul : (a b c d : ℕ) → 0 < a → 0 < b → a ∣ c → b ∣ d → (c * d) / (a * b) ≡ (c / a) * (d / b)
quotient-mul a b c d h k p q = N.eq_of_mul-eq-mul_left (a * b) (mul-pos a b h k) _ _
    (N.mul-div_cancel' (a * b) (N.mul-dvd-mul a b p q) ∙ sym (N.mul-mul-mul_comm a b (c / a) (d / b)
    ∙ ap₂ ◌*◌ (N.mul-div_cancel' a p) (N.mul-div_cancel' b q)))

pub under_times : (a b c d : Size) → 0 < a.den → 0 < b.den → IsUnder a c → IsUnder b d
    → IsUnder (times_size a b) (times_size c d)
under_times a b c d h k u v = record {
  divides = N.mul-dvd-mul a.den b.den u.divides v.divides;
  at_most = subst (λ x. (a.size * b.size) * x ≤ c.size * d.size)
      (sym (quotient-mul a.den b.den c.den d.den h k u.divides v.divides))
      (subst (λ x. x ≤ c.size * d.size) (N.mul-mul-mul_comm a.size (c.den / a.den) b.size
      (d.den / b.den)) (N.mul-le-mul u.at_most v.at_most));
}

-- products go over sums
pub under_times-sum : (c a b : Size) → 0 < c.den → 0 < a.den → 0 < b.den
    → IsUnder (sum_size (times_size c a) (times_size c b)) (times_size c (sum_size a b))
under_times-sum c a b hc ha hb =
    let l = lcm a.den b.den in
    let m = c.den * l in
    let x = c.den * a.den in
    let y = c.den * b.den in
    let hx : 0 < x = mul-pos c.den a.den hc ha in
    let hy : 0 < y = mul-pos c.den b.den hc hb in
    let left : x ∣ m = N.mul-dvd-mul c.den a.den (N.dvd_refl c.den) (lcm-left a.den b.den) in
    let right : y ∣ m = N.mul-dvd-mul c.den b.den (N.dvd_refl c.den) (lcm-right a.den b.den hb) in
    let divides : lcm x y ∣ m = lcm_least x y m hy left right in
    let one : m / x ≡ l / a.den = quotient-mul c.den a.den c.den l hc ha (N.dvd_refl c.den)
    (lcm-left a.den b.den) ∙ ap (λ k. k * (l / a.den)) (N.div_self hc)
    ∙ N.one-mul (l / a.den) in
    let two : m / y ≡ l / b.den = quotient-mul c.den b.den c.den l hc hb (N.dvd_refl c.den)
    (lcm-right a.den b.den hb) ∙ ap (λ k. k * (l / b.den)) (N.div_self hc)
    ∙ N.one-mul (l / b.den) in
    let same : (sum_size (times_size c a) (times_size c b)).size * (m / lcm x y) ≡ c.size
    * (sum_size a b).size =
    spread (times_size c a) (times_size c b) m hx hy divides
    ∙ ap₂ ◌+◌ (ap (λ k. (c.size * a.size) * k) one ∙ N.mul_assoc c.size a.size (l / a.den))
    (ap (λ k. (c.size * b.size) * k) two ∙ N.mul_assoc c.size b.size (l / b.den))
    ∙ sym (N.mul-add c.size (a.size * (l / a.den)) (b.size * (l / b.den))) in
    record {
      divides = divides;
      at_most = subst (λ k. k ≤ c.size * (sum_size a b).size) (sym same)
          (N.le_refl _);
    }

pub under_sum-times : (a b c : Size) → 0 < a.den → 0 < b.den → 0 < c.den
    → IsUnder (sum_size (times_size a c) (times_size b c)) (times_size (sum_size a b) c)
under_sum-times a b c ha hb hc =
    let iteration : (x : Size) → times_size c x ≡ times_size x c =
    λ x. ap₂ size (N.mul_comm c.size x.size) (N.mul_comm c.den x.den) in
    subst (λ s. IsUnder s (times_size (sum_size a b) c)) (ap₂ sum_size (iteration a) (iteration b))
    (subst (λ s. IsUnder (sum_size (times_size c a) (times_size c b)) s) (iteration (sum_size a b))
    (under_times-sum c a b hc ha hb))

none_under : (d : ℕ) (s : Size) → d ∣ s.den → IsUnder (size 0 d) s
none_under d s h = record {
  divides = h;
  at_most = subst (λ x. x ≤ s.size) (sym (N.zero-mul (s.den / d))) (omega arith);
}

pub times_under_product : (a b : Size) → IsClean a → IsClean b
    → IsUnder (times_size a b) (product_size a b)
times_under_product a b x y = go (zero_or_some a.size) (zero_or_some b.size)
  where
    go : (a.size ≡ 0) ⊎ (0 < a.size) → (b.size ≡ 0) ⊎ (0 < b.size)
        → IsUnder (times_size a b) (product_size a b)
    go (inl none) w =
        subst (λ n. IsUnder (size n (a.den * b.den)) (product_size a b))
        (sym (ap (λ n. n * b.size) none ∙ N.zero-mul b.size))
        (none_under (a.den * b.den) (product_size a b) (go_den w))
      where
        go_den : (b.size ≡ 0) ⊎ (0 < b.size) → a.den * b.den ∣ (product_size a b).den
        go_den (inl e) = subst (λ n. n ∣ (product_size a b).den)
            (sym (ap₂ ◌*◌ (x.no_size none) (y.no_size e))) (N.one-dvd _)
        go_den (inr some) =
            subst (λ n. n ∣ (factor_size a).den * (factor_size b).den)
            (sym (ap (λ n. n * b.den) (x.no_size none) ∙ N.one-mul b.den))
            (subst (λ s. b.den ∣ (factor_size a).den * s.den) (sym (factor_some b.size b.den some))
            (N.dvd-mul_left b.den (factor_size a).den))
    go (inr some) (inl none) =
        subst (λ n. IsUnder (size n (a.den * b.den)) (product_size a b))
        (sym (ap (λ n. a.size * n) none ∙ N.mul-zero a.size))
        (none_under (a.den * b.den) (product_size a b)
        (subst (λ n. n ∣ (factor_size a).den * (factor_size b).den)
        (sym (ap (λ n. a.den * n) (y.no_size none) ∙ N.mul-one a.den))
        (subst (λ s. a.den ∣ s.den * (factor_size b).den) (sym (factor_some a.size a.den some))
        (N.dvd-mul_right a.den (factor_size b).den))))
    go (inr some) (inr more) = subst (IsUnder (times_size a b))
        (sym (ap₂ (λ s t. size (s.size * t.size) (s.den * t.den)) (factor_some a.size a.den some)
        (factor_some b.size b.den more)))
        (under_refl (times_size a b) (mul-pos a.den b.den x.some y.some))

-- ---- powers
factor-product : (a b : Size) → factor_size (product_size a b) ≡ product_size a b
factor-product a b = factor_some _ _ (product_some a b)

pub product_assoc : (a b c : Size) → product_size (product_size a b) c ≡ product_size a
    (product_size b c)
product_assoc a b c =
    ap₂ size
    (ap (λ s. s.size * (factor_size c).size) (factor-product a b) ∙ N.mul_assoc _ _ _
    ∙ ap (λ s. (factor_size a).size * s.size) (sym (factor-product b c)))
    (ap (λ s. s.den * (factor_size c).den) (factor-product a b) ∙ N.mul_assoc _ _ _
    ∙ ap (λ s. (factor_size a).den * s.den) (sym (factor-product b c)))

pub one-product : (a : Size) → 0 < a.size → product_size (size 1 1) a ≡ a
one-product a h = ap₂ size (N.one-mul _ ∙ ap (λ (s : Size). s.size) (factor_some a.size a.den h))
    (N.one-mul _ ∙ ap (λ (s : Size). s.den) (factor_some a.size a.den h))

pub power_some : (s : Size) (n : ℕ) → 0 < (power sizes s n).size
unfolding power
power_some s zero = omega arith
power_some s (suc n) = product_some s (power sizes s n)

pub power_den-pos : (s : Size) (n : ℕ) → 0 < s.den → 0 < (power sizes s n).den
unfolding power
power_den-pos s zero h = omega arith
power_den-pos s (suc n) h = product_den-pos s (power sizes s n) h (power_den-pos s n h)

pub clean-power : (s : Size) (n : ℕ) → 0 < s.den → IsClean (power sizes s n)
clean-power s n h = record {
  some = power_den-pos s n h;
  no_size = λ e. absurd (let p = power_some s n in omega arith);
}

pub power-add : (s : Size) (m n : ℕ) → power sizes s (m + n) ≡ product_size (power sizes s m)
    (power sizes s n)
unfolding power
power-add s zero n = ap (power sizes s) (N.zero-add n)
    ∙ sym (one-product (power sizes s n) (power_some s n))
power-add s (suc m) n = ap (power sizes s) (N.suc-add m n) ∙ ap (product_size s) (power-add s m n)
    ∙ sym (product_assoc s (power sizes s m) (power sizes s n))

-- ---- what is past
pub past_product : (a b c d : Size) → 0 < c.den → 0 < d.den → IsUnder a c → IsUnder b d
    → IsPast (product_size a b) → IsPast (product_size c d)
past_product a b c d h k u v = past_at_most (product_size a b) (product_size c d)
    (product_at_most a b c d h k (under_at_most a c h u) (under_at_most b d k v))

pub past_left : (a b : Size) → IsClean a → 0 < b.den → IsPast a → IsPast (product_size a b)
past_left a b h k = past_at_most a (product_size a b) (left_at_most a b h k)

pub past_right : (a b : Size) → 0 < a.den → IsClean b → IsPast b → IsPast (product_size a b)
past_right a b h k = past_at_most b (product_size a b) (right_at_most a b h k)

-- ---- numbers
module _ {A : Type 0} (N : Arithmetic A) (size_of : A → Size) (b : IsBounded N size_of) where
  pub clean_of : (x : A) → IsClean (size_of x)
  clean_of x = record { some = b.den_pos x; no_size = b.no_size x }

  pub product_within : (x y : A)
      → IsUnder (size_of (N.mul x y)) (product_size (size_of x) (size_of y))
  product_within x y =
      under_trans (size_of (N.mul x y)) (times_size (size_of x) (size_of y))
      (product_size (size_of x) (size_of y)) (b.den_pos (N.mul x y))
      (product_den-pos (size_of x) (size_of y) (b.den_pos x) (b.den_pos y))
      (b.mul_size x y) (times_under_product (size_of x) (size_of y) (clean_of x) (clean_of y))

pub fraction_quotients_bounded : BoundsQuotients fraction_arithmetic fraction_size inverse
fraction_quotients_bounded a b ne =
    let some_num : b.num ≢ pos 0 = λ e. ne (top_zero b e) in
    subst (λ w. IsUnder (fraction_size (product a (inverse b))) (product_size (fraction_size a) w))
    (ap ratio_size (ratio-inverse b) ∙ inverse_size b.num b.den some_num)
    (product_within fraction_arithmetic fraction_size fractions_bounded a (inverse b))
