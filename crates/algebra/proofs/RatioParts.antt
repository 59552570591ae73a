-- Results of fractions from parts that are no greater than needed.
--   product_parts     a product: each numerator over what it has in common with the other denominator
--   sum_parts         a sum: over the least common multiple of the denominators, and then over what the numerator has in common with it
use Rattle.std.proofs.Common.{◌≡◌, ℕ, ◌*◌, ◌/◌, ◌<◌, ℤ, pos, ◌+ℤ◌, ◌*ℤ◌, [], ◌∷◌, refl, sym, ap, ap₂, subst, ◌∙◌}
use Prim.Native.Nat.{◌∣◌}
use native.Mathlib.Nat as N
use lib.IntN.{nat_abs}
use Rattle.std.proofs.lemmas.Int.{unsigned_abs-mul}
use Rattle.algebra.specs.Ring.{CommRing}
use Rattle.algebra.specs.Gcd.{gcd}
use Rattle.algebra.specs.Ratio.{Ratio, ratio, IsLowest}
use Rattle.algebra.specs.Ratio.{Ratio, ratio, exact, reduce, sum_of, product_of}
use Rattle.algebra.proofs.GcdLaws.{gcd-left, gcd-right, gcd-pos, gcd_comm, gcd_of_rest, dvd_from_coprime}
use Rattle.algebra.proofs.Coprime.{coprime_from, coprime_divisors, coprime-mul, mul-coprime, common_one, dvd_rest}
use Rattle.algebra.proofs.IntRing.{ℤ_ring}
use Rattle.algebra.proofs.RingSolver.{ring_rules, ring}
use Rattle.algebra.proofs.RatioLaws as F
use Rattle.algebra.proofs.RatioLaws.{Alike, sum, product}

-- a ratio over a divisor, and the divisor
quotient-pos : (n g : ℕ) → g ∣ n → 0 < n → 0 < n / g
quotient-pos n g d h =
    N.pos_of_ne-zero (λ e. N.lt_irrefl 0 (subst (λ x. 0 < x) (sym (N.div-mul_cancel g d)
    ∙ ap (λ x. x * g) e ∙ N.zero-mul g) h))

quotient_divides : (n g : ℕ) → g ∣ n → n / g ∣ n
quotient_divides n g d = subst (λ x. n / g ∣ x) (N.div-mul_cancel g d) (N.dvd-mul_right (n / g) g)

-- over their greatest common divisor two numbers have none
rests_coprime : (a b : ℕ) → 0 < gcd a b → gcd (a / gcd a b) (b / gcd a b) ≡ 1
rests_coprime a b some =
    let g = gcd a b in
    gcd_of_rest g (a / g) (b / g) some (ap₂ gcd (N.mul-div_cancel' g (gcd-left a b))
    (N.mul-div_cancel' g (gcd-right a b)))

-- a fraction is what is in lowest terms and has the same cross products
from_parts : (p x : Ratio) → 0 < p.den → IsLowest x → Alike x p → reduce p ≡ x
from_parts p x some v alike = sym (F.same_reduced x p v.some some alike) ∙ F.reduce_value_is x v

module _ {A : Type 0} (R : CommRing A) where
  open R use {add, mul}

  infixl 6 ◌+'◌
  abbrev ◌+'◌ : A → A → A
  a +' b = add a b

  infixl 7 ◌*'◌
  abbrev ◌*'◌ : A → A → A
  a *' b = mul a b

  product_top : (a b c d g h : A) → (a *' c) *' ((b *' h) *' (d *' g)) ≡ ((a *' g) *' (c *' h)) *'
      (b *' d)
  product_top a b c d g h = ring R (a ∷ b ∷ c ∷ d ∷ g ∷ h ∷ []) (search ring_rules depth 30) refl

  sum_top : (a b c d g e : A) → (a *' (d *' g) +' c *' (b *' g)) *' (b *' (d *' e))
      ≡ (a *' d +' c *' b) *' (g *' (b *' (d *' e)))
  sum_top a b c d g e = ring R (a ∷ b ∷ c ∷ d ∷ g ∷ e ∷ []) (search ring_rules depth 30) refl

  sum_bottom : (n b d g e k : A) → (n *' k) *' (g *' (b *' (d *' e)))
      ≡ n *' ((b *' g) *' (d *' (e *' k)))
  sum_bottom n b d g e k = ring R (n ∷ b ∷ d ∷ g ∷ e ∷ k ∷ []) (search ring_rules depth 30) refl

pub product_parts : (p q : Ratio) → IsLowest p → IsLowest q
    → (g h : ℕ) → g ≡ gcd (nat_abs p.num) q.den → h ≡ gcd (nat_abs q.num) p.den
    → product p q ≡ ratio (exact p.num g *ℤ exact q.num h) ((p.den / h) * (q.den / g))
product_parts p q v w g h eg eh =
    let g_left : g ∣ nat_abs p.num = subst (λ x. x ∣ nat_abs p.num) (sym eg)
    (gcd-left (nat_abs p.num) q.den) in
    let g_right : g ∣ q.den = subst (λ x. x ∣ q.den) (sym eg) (gcd-right (nat_abs p.num) q.den) in
    let h_left : h ∣ nat_abs q.num = subst (λ x. x ∣ nat_abs q.num) (sym eh)
    (gcd-left (nat_abs q.num) p.den) in
    let h_right : h ∣ p.den = subst (λ x. x ∣ p.den) (sym eh) (gcd-right (nat_abs q.num) p.den) in
    let a = exact p.num g in
    let c = exact q.num h in
    let b = p.den / h in
    let d = q.den / g in
    let b_some : 0 < b = quotient-pos p.den h h_right v.some in
    let d_some : 0 < d = quotient-pos q.den g g_right w.some in
    let a_is : nat_abs a ≡ nat_abs p.num / g = F.nat_abs-exact p.num g in
    let c_is : nat_abs c ≡ nat_abs q.num / h = F.nat_abs-exact q.num h in
    let a_b : gcd (nat_abs p.num / g) b ≡ 1 = coprime_divisors (nat_abs p.num) p.den
    (nat_abs p.num / g) b v.lowest (quotient_divides (nat_abs p.num) g g_left)
    (quotient_divides p.den h h_right) in
    let c_d : gcd (nat_abs q.num / h) d ≡ 1 = coprime_divisors (nat_abs q.num) q.den
    (nat_abs q.num / h) d w.lowest (quotient_divides (nat_abs q.num) h h_left)
    (quotient_divides q.den g g_right) in
    let a_d : gcd (nat_abs p.num / g) d ≡ 1 = subst (λ x. gcd (nat_abs p.num / x) (q.den / x) ≡ 1)
    (sym eg) (rests_coprime (nat_abs p.num) q.den (gcd-pos (nat_abs p.num) q.den w.some)) in
    let c_b : gcd (nat_abs q.num / h) b ≡ 1 = subst (λ x. gcd (nat_abs q.num / x) (p.den / x) ≡ 1)
    (sym eh) (rests_coprime (nat_abs q.num) p.den (gcd-pos (nat_abs q.num) p.den v.some)) in
    let lowest : gcd (nat_abs (a *ℤ c)) (b * d) ≡ 1 =
    ap (λ x. gcd x (b * d)) (unsigned_abs-mul a c ∙ ap₂ ◌*◌ a_is c_is)
    ∙ coprime-mul (nat_abs p.num / g * (nat_abs q.num / h)) b d
    (mul-coprime (nat_abs p.num / g) (nat_abs q.num / h) b a_b c_b)
    (mul-coprime (nat_abs p.num / g) (nat_abs q.num / h) d a_d c_d) in
    let alike : Alike (ratio (a *ℤ c) (b * d)) (product_of p q) =
    ap₂ (λ (x y : ℕ). (a *ℤ c) *ℤ (pos x *ℤ pos y)) (sym (N.div-mul_cancel h h_right))
    (sym (N.div-mul_cancel g g_right))
    ∙ product_top ℤ_ring a (pos b) c (pos d) (pos g) (pos h)
    ∙ ap₂ (λ x y. (x *ℤ y) *ℤ (pos b *ℤ pos d)) (F.exact_whole p.num g g_left)
    (F.exact_whole q.num h h_left) in
    from_parts (product_of p q) (ratio (a *ℤ c) (b * d)) (F.mul-pos p.den q.den v.some w.some)
    (record { some = F.mul-pos b d b_some d_some; lowest = lowest }) alike

-- a divisor of the sum's numerator and of one part's factor is 1
sum_coprime : (a c : ℤ) (b d : ℕ) → gcd b d ≡ 1 → gcd (nat_abs a) b ≡ 1
    → gcd (nat_abs (a *ℤ pos d +ℤ c *ℤ pos b)) b ≡ 1
sum_coprime a c b d apart lowest = coprime_from _ b (λ e top bottom.
    let other : e ∣ nat_abs (c *ℤ pos b) = subst (λ x. e ∣ x) (sym (unsigned_abs-mul c (pos b)))
    (N.dvd_trans e bottom (N.dvd-mul_left b (nat_abs c))) in
    let first : e ∣ nat_abs a * d = subst (λ x. e ∣ x) (unsigned_abs-mul a (pos d))
    (dvd_rest e (a *ℤ pos d) (c *ℤ pos b) top other) in
    let from_d : gcd d e ≡ 1 = coprime_divisors d b d e (gcd_comm d b ∙ apart) (N.dvd_refl d)
    bottom in
    common_one (nat_abs a) b e lowest (dvd_from_coprime d e (nat_abs a) from_d first) bottom)

pub sum_parts : (p q : Ratio) → IsLowest p → IsLowest q
    → (g k : ℕ) (t : ℤ) → g ≡ gcd p.den q.den → t ≡ p.num *ℤ pos (q.den / g) +ℤ q.num *ℤ pos
    (p.den / g) → k ≡ gcd (nat_abs t) g
    → sum p q ≡ ratio (exact t k) ((p.den / g) * (q.den / k))
sum_parts p q v w g k t eg et ek =
    let g_left : g ∣ p.den = subst (λ x. x ∣ p.den) (sym eg) (gcd-left p.den q.den) in
    let g_right : g ∣ q.den = subst (λ x. x ∣ q.den) (sym eg) (gcd-right p.den q.den) in
    let g_some : 0 < g = subst (λ x. 0 < x) (sym eg) (gcd-pos p.den q.den w.some) in
    let k_left : k ∣ nat_abs t = subst (λ x. x ∣ nat_abs t) (sym ek) (gcd-left (nat_abs t) g) in
    let k_right : k ∣ g = subst (λ x. x ∣ g) (sym ek) (gcd-right (nat_abs t) g) in
    let k_some : 0 < k = subst (λ x. 0 < x) (sym ek) (gcd-pos (nat_abs t) g g_some) in
    let n = exact t k in
    let b = p.den / g in
    let d = q.den / g in
    let e = g / k in
    let b_some : 0 < b = quotient-pos p.den g g_left v.some in
    let d_some : 0 < d = quotient-pos q.den g g_right w.some in
    let e_some : 0 < e = quotient-pos g k k_right g_some in
    let p_den : b * g ≡ p.den = N.div-mul_cancel g g_left in
    let q_den : d * g ≡ q.den = N.div-mul_cancel g g_right in
    let g_is : e * k ≡ g = N.div-mul_cancel k k_right in
    let rest : q.den / k ≡ d * e = N.eq_of_mul-eq-mul_right k k_some (q.den / k) (d * e)
    (N.div-mul_cancel k (N.dvd_trans k k_right g_right) ∙ sym q_den ∙ ap (λ x. d * x) (sym g_is)
    ∙ sym (N.mul_assoc d e k)) in
    let b_d : gcd b d ≡ 1 = subst (λ x. gcd (p.den / x) (q.den / x) ≡ 1) (sym eg)
    (rests_coprime p.den q.den (gcd-pos p.den q.den w.some)) in
    let p_low : gcd (nat_abs p.num) b ≡ 1 = coprime_divisors (nat_abs p.num) p.den (nat_abs p.num) b
    v.lowest (N.dvd_refl (nat_abs p.num)) (quotient_divides p.den g g_left) in
    let q_low : gcd (nat_abs q.num) d ≡ 1 = coprime_divisors (nat_abs q.num) q.den (nat_abs q.num) d
    w.lowest (N.dvd_refl (nat_abs q.num)) (quotient_divides q.den g g_right) in
    let t_b : gcd (nat_abs t) b ≡ 1 = ap (λ x. gcd (nat_abs x) b) et
    ∙ sum_coprime p.num q.num b d b_d p_low in
    let t_d : gcd (nat_abs t) d ≡ 1 = ap (λ x. gcd (nat_abs x) d) (et
    ∙ ℤ_ring.add_comm (p.num *ℤ pos d) (q.num *ℤ pos b))
    ∙ sum_coprime q.num p.num d b (gcd_comm d b ∙ b_d) q_low in
    let m = nat_abs t / k in
    let m_t : m ∣ nat_abs t = quotient_divides (nat_abs t) k k_left in
    let m_b : gcd m b ≡ 1 = coprime_divisors (nat_abs t) b m b t_b m_t (N.dvd_refl b) in
    let m_d : gcd m d ≡ 1 = coprime_divisors (nat_abs t) d m d t_d m_t (N.dvd_refl d) in
    let m_e : gcd m e ≡ 1 = subst (λ x. gcd (nat_abs t / x) (g / x) ≡ 1) (sym ek)
    (rests_coprime (nat_abs t) g (gcd-pos (nat_abs t) g g_some)) in
    let lowest : gcd (nat_abs n) (b * (d * e)) ≡ 1 =
    ap (λ x. gcd x (b * (d * e))) (F.nat_abs-exact t k)
    ∙ coprime-mul m b (d * e) m_b (coprime-mul m d e m_d m_e) in
    let alike : Alike (ratio n (b * (d * e))) (sum_of p q) =
    ap₂ (λ (x y : ℕ). n *ℤ (pos x *ℤ pos y)) (sym p_den) (sym q_den ∙ ap (λ x. d * x) (sym g_is))
    ∙ sym (sum_bottom ℤ_ring n (pos b) (pos d) (pos g) (pos e) (pos k))
    ∙ ap (λ x. x *ℤ (pos g *ℤ (pos b *ℤ (pos d *ℤ pos e)))) (F.exact_whole t k k_left ∙ et)
    ∙ sym (sum_top ℤ_ring p.num (pos b) q.num (pos d) (pos g) (pos e))
    ∙ ap₂ (λ (x y : ℕ). (p.num *ℤ pos x +ℤ q.num *ℤ pos y) *ℤ (pos b *ℤ (pos d *ℤ pos e))) q_den
    p_den in
    from_parts (sum_of p q) (ratio n (b * (d * e))) (F.mul-pos p.den q.den v.some w.some)
    (record { some = F.mul-pos b (d * e) b_some (F.mul-pos d e d_some e_some); lowest = lowest })
    alike
    ∙ ap (λ (x : ℕ). ratio n (b * x)) (sym rest)
