-- What results by numbers of 64 bits mean.
--   lowered_means            numerator and denominator over their greatest common divisor are the fraction
--   short_multiple_means     a product with a whole number from its parts; product_turned: from the factors turned round
--   short_product_means      a product from its parts; product_low: a product of denominators is above zero
--   short_sum_means          a sum from its parts; short_sum_fits: it is not past
--   equal_sum_means          a sum over equal denominators is that of the numerators over it; equal_sum_fits: it is not past
--   one_multiple             a product with a whole number that is 1
use Rattle.std.proofs.Common.{◌≡◌, ◌∙◌, Option, Some, None, IfSome, SFits, sym, ap, ap₂, subst, refl, ℕ, ◌*◌, ◌/◌, ◌<◌, ◌≤◌, ◌^◌, ℤ, pos, negsuc, ◌+ℤ◌, ◌*ℤ◌, unsigned_abs, arith}
use mir.Syntax.{w64}
use native.Mathlib.Nat as N
use lib.Signed.{◌≤ℤ◌}
use Rattle.std.proofs.lemmas.Int.{ints}
use Rattle.algebra.proofs.IntRing.{ℤ_ring}
use Rattle.algebra.specs.Gcd.{gcd}
use Rattle.algebra.specs.Ratio.{ratio, ratios, exact, reduce}
use Rattle.algebra.specs.Fraction as T
use Rattle.algebra.proofs.RatioLaws.{reduce-value, mul-pos, exact_whole, nat_abs-exact}
use Rattle.algebra.proofs.Fractions.{ratio-fraction, fractions_ring, same_fraction}
use Rattle.frac128.specs.declared.fraction.Frac.{Frac}
use Rattle.frac128.specs.FracMeaning.{fraction_of, frac_meaning}
use Rattle.frac128.specs.Sums.{SumIsPast, over}
use Rattle.frac128.proofs.FracResults.{Means, means, IsSum, product_means, sum_means, sum_fits, whole_at}
use Rattle.frac128.proofs.Halving.{gcd_same}
use Rattle.frac128.proofs.WholeNumbers.{gcd-one}

reduce_exact : (n : ℤ) (d : ℕ) → reduce (ratio n d) ≡ ratio (exact n (gcd (unsigned_abs n) d))
    (d / gcd (unsigned_abs n) d)
unfolding reduce
reduce_exact n d = refl

pub lowered_means : (n d g x y : ℤ) → pos 1 ≤ℤ d → g ≡ pos (gcd (unsigned_abs n) (unsigned_abs d))
    → x ≡ exact n (unsigned_abs g) → y ≡ exact d (unsigned_abs g) → Means x y (over n d).ratio
lowered_means n (pos d) g x y low eg ex ey =
    let k = gcd (unsigned_abs n) d in
    let top : x ≡ exact n k = ex ∙ ap (λ z. exact n (unsigned_abs z)) eg in
    let bottom : y ≡ pos (d / k) = ey ∙ ap (λ z. exact (pos d) (unsigned_abs z)) eg in
    let some : 0 < d = omega (arith, ints) in
    subst (Means x y) (sym (ratio-fraction (reduce (ratio n d)) (reduce-value (ratio n d) some)))
    (means x y (reduce (ratio n d)) (ap₂ ratio top (ap unsigned_abs bottom)
    ∙ sym (reduce_exact n d)) (subst (λ z. pos 0 ≤ℤ z) (sym bottom) (omega (arith, ints)))
    (reduce-value (ratio n d) some))
lowered_means n (negsuc d) g x y low eg ex ey = absurd (omega (arith, ints))

pub product_low : (b d m : ℤ) → pos 1 ≤ℤ b → pos 1 ≤ℤ d → m ≡ b *ℤ d → pos 1 ≤ℤ m
product_low (pos b) (pos d) m h k e =
    let b_some : 0 < b = omega (arith, ints) in
    let d_some : 0 < d = omega (arith, ints) in
    let some : 0 < b * d = mul-pos b d b_some d_some in
    subst (λ z. pos 1 ≤ℤ z) (sym e) (omega (arith, ints))
product_low (negsuc b) d m h k e = absurd (omega (arith, ints))
product_low (pos b) (negsuc d) m h k e = absurd (omega (arith, ints))

pair_product : (a b c d n m : ℤ) → pos 1 ≤ℤ b → pos 1 ≤ℤ d → n ≡ a *ℤ c → m ≡ b *ℤ d
    → over n m ≡ T.fraction (ratios.mul (ratio a (unsigned_abs b)) (ratio c (unsigned_abs d)))
pair_product a (pos b) c (pos d) n m h k en em = ap (over n) em ∙ ap (λ z. T.over z (b * d)) en
pair_product a (negsuc b) c d n m h k en em = absurd (omega (arith, ints))
pair_product a (pos b) c (negsuc d) n m h k en em = absurd (omega (arith, ints))

pub short_product_means : (p q : Frac) (n m : ℤ) → n ≡ p.num.value *ℤ q.num.value
    → m ≡ p.den.value *ℤ q.den.value → over n m ≡ T.product (fraction_of p) (fraction_of q)
unfolding fraction_of T.product
short_product_means p q n m en em = pair_product p.num.value p.den.value q.num.value q.den.value n m
    p.den_low q.den_low en em

exact_one : (z : ℤ) → exact z 1 ≡ z
exact_one z = sym (ℤ_ring.mul-one (exact z 1)) ∙ exact_whole z 1 (N.one-dvd (unsigned_abs z))

pub short_multiple_means : (p q : Frac) (a b c h y u n : ℤ) → q.den.value ≡ pos 1
    → a ≡ p.num.value → b ≡ p.den.value → c ≡ q.num.value
    → h ≡ pos (gcd (unsigned_abs c) (unsigned_abs b)) → y ≡ exact c (unsigned_abs h)
    → u ≡ exact b (unsigned_abs h) → n ≡ a *ℤ y
    → Means n u (T.product (fraction_of p) (fraction_of q)).ratio
short_multiple_means p q a b c h y u n one ea eb ec eh ey eu en =
    product_means p q (pos 1) h p.num.value y u (pos 1) n u
    (ap pos (sym (ap (λ z. gcd (unsigned_abs p.num.value) (unsigned_abs z)) one
    ∙ gcd-one (unsigned_abs p.num.value))))
    (eh ∙ ap₂ (λ x z. pos (gcd (unsigned_abs x) (unsigned_abs z))) ec eb)
    (sym (exact_one p.num.value))
    (ey ∙ ap (λ z. exact z (unsigned_abs h)) ec)
    (eu ∙ ap (λ z. exact z (unsigned_abs h)) eb)
    (sym (ap (λ z. exact z 1) one ∙ exact_one (pos 1)))
    (en ∙ ap (λ z. z *ℤ y) ea)
    (sym (ℤ_ring.mul-one u))

pub product_turned : (r : Option Frac) (a b : T.Fraction)
    → IfSome r (λ x. fraction_of x ≡ T.product a b)
    → IfSome r (λ x. fraction_of x ≡ T.product b a)
product_turned None a b h = tt
product_turned (Some x) a b h = h ∙ fractions_ring.mul_comm a b

pub short_sum_means : (p q : Frac) (a b c d g e f l r t k n w m : ℤ) → a ≡ p.num.value
    → b ≡ p.den.value → c ≡ q.num.value → d ≡ q.den.value
    → g ≡ pos (gcd (unsigned_abs b) (unsigned_abs d)) → e ≡ exact d (unsigned_abs g)
    → f ≡ exact b (unsigned_abs g) → l ≡ a *ℤ e → r ≡ c *ℤ f → t ≡ l +ℤ r
    → k ≡ pos (gcd (unsigned_abs t) (unsigned_abs g)) → w ≡ exact d (unsigned_abs k) → m ≡ f *ℤ w
    → n ≡ exact t (unsigned_abs k) → IsSum (fraction_of p) (fraction_of q) l r n m
short_sum_means p q a b c d g e f l r t k n w m ea eb ec ed eg ee ef el er et ek ew em en =
    let first : f ≡ exact p.den.value (unsigned_abs g) = ef
    ∙ ap (λ z. exact z (unsigned_abs g)) eb in
    sum_means p q g e f l r t k n f w m (eg
    ∙ ap₂ (λ x y. pos (gcd (unsigned_abs x) (unsigned_abs y))) eb ed) (ee
    ∙ ap (λ z. exact z (unsigned_abs g)) ed) (el ∙ ap (λ z. z *ℤ e) ea) first
    (er ∙ ap (λ z. z *ℤ f) ec) et ek first (ew ∙ ap (λ z. exact z (unsigned_abs k)) ed) em en

short_size : (z : ℤ) → SFits w64 z → unsigned_abs z < 2 ^ 127
short_size z fits = omega (arith, ints)

pub short_sum_fits : (p q : T.Fraction) (l r t n m : ℤ) → IsSum p q l r n m → t ≡ l +ℤ r
    → SFits w64 l → SFits w64 r → SFits w64 t → SFits w64 m → SumIsPast p q → ⊥
short_sum_fits p q l r t n m s e hl hr ht hm = sum_fits p q l r n m s (short_size l hl)
    (short_size r hr) (subst (λ z. unsigned_abs z < 2 ^ 127) e (short_size t ht)) (short_size m hm)

-- ---- equal denominators
self_gcd : (d : ℤ) → pos 1 ≤ℤ d → d ≡ pos (gcd (unsigned_abs d) (unsigned_abs d))
self_gcd (pos d) low = ap pos (sym (gcd_same d))
self_gcd (negsuc d) low = absurd (omega (arith, ints))

self_exact : (d : ℤ) → pos 1 ≤ℤ d → pos 1 ≡ exact d (unsigned_abs d)
self_exact (pos d) low =
    let some : 0 < d = omega (arith, ints) in
    ap pos (sym (N.div_self some))
self_exact (negsuc d) low = absurd (omega (arith, ints))

abbrev shared : Frac → ℤ → ℤ
shared p t = pos (gcd (unsigned_abs t) (unsigned_abs p.den.value))

equal_sum : (p q : Frac) (t : ℤ) → p.den.value ≡ q.den.value → t ≡ p.num.value +ℤ q.num.value
    → IsSum (fraction_of p) (fraction_of q) p.num.value q.num.value
    (exact t (unsigned_abs (shared p t))) (exact p.den.value (unsigned_abs (shared p t)))
equal_sum p q t same et =
    let d = p.den.value in
    let k = shared p t in
    let one : pos 1 ≡ exact d (unsigned_abs d) = self_exact d p.den_low in
    sum_means p q d (pos 1) (pos 1) p.num.value q.num.value t k (exact t (unsigned_abs k)) (pos 1)
    (exact d (unsigned_abs k)) (exact d (unsigned_abs k))
    (self_gcd d p.den_low ∙ ap (λ z. pos (gcd (unsigned_abs d) (unsigned_abs z))) same)
    (one ∙ ap (λ z. exact z (unsigned_abs d)) same)
    (sym (ℤ_ring.mul-one p.num.value))
    one
    (sym (ℤ_ring.mul-one q.num.value))
    et refl one
    (ap (λ z. exact z (unsigned_abs k)) same)
    (sym (ℤ_ring.mul_comm (pos 1) (exact d (unsigned_abs k))
    ∙ ℤ_ring.mul-one (exact d (unsigned_abs k))))
    refl

pub equal_sum_means : (p q : Frac) (t d : ℤ) → d ≡ p.den.value → d ≡ q.den.value
    → t ≡ p.num.value +ℤ q.num.value → over t d ≡ T.sum (fraction_of p) (fraction_of q)
equal_sum_means p q t d ep eq et =
    ap (over t) ep
    ∙ same_fraction _ _ (sym (lowered_means t p.den.value (shared p t) _ _ p.den_low refl refl
    refl).is ∙ (equal_sum p q t (sym ep ∙ eq) et).means_sum.is)

pub equal_sum_fits : (p q : Frac) (a b t d : ℤ) → a ≡ p.num.value → b ≡ q.num.value
    → d ≡ p.den.value → d ≡ q.den.value → t ≡ a +ℤ b → SFits w64 a → SFits w64 b → SFits w64 t
    → SFits w64 d → SumIsPast (fraction_of p) (fraction_of q) → ⊥
equal_sum_fits p q a b t d ea eb ep eq et ha hb ht hd =
    let sum : t ≡ p.num.value +ℤ q.num.value = et ∙ ap₂ ◌+ℤ◌ ea eb in
    let k = unsigned_abs (shared p t) in
    let most : unsigned_abs (exact p.den.value k) ≤ unsigned_abs p.den.value =
    subst (λ n. n ≤ unsigned_abs p.den.value) (sym (nat_abs-exact p.den.value k))
    (N.div-le_self (unsigned_abs p.den.value) k) in
    sum_fits _ _ _ _ _ _ (equal_sum p q t (sym ep ∙ eq) sum)
    (subst (λ z. unsigned_abs z < 2 ^ 127) ea (short_size a ha))
    (subst (λ z. unsigned_abs z < 2 ^ 127) eb (short_size b hb))
    (subst (λ z. unsigned_abs z < 2 ^ 127) sum (short_size t ht))
    (N.lt_of_le_of_lt most (subst (λ z. unsigned_abs z < 2 ^ 127) ep (short_size d hd)))

pub one_multiple : (p q : Frac) (c : ℤ) → q.den.value ≡ pos 1 → c ≡ q.num.value → c ≡ pos 1
    → fraction_of p ≡ T.product (fraction_of p) (fraction_of q)
one_multiple p q c one ec e =
    let meaning : frac_meaning q ≡ ratio (pos 1) 1 = ap₂ (λ n d. ratio n (unsigned_abs d))
    (sym ec ∙ e) one in
    sym (fractions_ring.mul-one (fraction_of p))
    ∙ ap (T.product (fraction_of p)) (sym (whole_at (pos 1) q meaning))
