-- Pairs in lowest terms: the workshop below the fractions. What is alike is the same in lowest terms, so the laws of a field hold as equations.
--   Alike p q        equal cross products: the same fraction, whether or not in lowest terms
--   same_reduced     what is alike is the same in lowest terms; alike_trans: being alike is transitive
--   sum, product     of pairs, reduced; frac_zero: zero over one
--   reduce-value     a pair with a denominator above zero is in lowest terms when it is reduced; reduce-alike: it is alike before and after
--   reduce_value_is  reducing keeps what is in lowest terms; is_lowest-in: of which the test holds
--   product-reduce_right     a product is the same with its second factor reduced
--   sum-value, product-value, inverse-value, zero-value     sums, products and inverses of pairs in lowest terms are in lowest terms, and so is zero
--   cancel           a factor above zero cancels in the whole numbers; mul-pos: a product of numbers above zero is above zero
--   exact_whole      n over a divisor g, times g, is n; nat_abs-exact: the absolute value of n over g
--   nat_abs-neg, nat_abs-neg_ℤ     the absolute value of the opposite of a natural number, and of a whole one
use Rattle.std.proofs.Common.{◌≡◌, ◌≢◌, ℕ, zero, suc, ◌*◌, ◌/◌, ◌<◌, ℤ, pos, negsuc, ◌*ℤ◌, neg_ℤ, T, ltb, eqb, [], ◌∷◌, refl, sym, ap, ap₂, subst, ◌∙◌, arith, ltb→lt, lt→ltb, eqb→eq}
use Prim.Native.Nat.{◌∣◌}
use native.Mathlib.Nat as N
use lib.IntN.{nat_abs}
use lib.Dec.{eqb_refl}
use borrow.Author.Differences.{up, down, product_is, same_in}
use Rattle.std.proofs.lemmas.Int.{unsigned_abs-mul}
use Rattle.algebra.specs.Ring.{CommRing}
use Rattle.algebra.specs.Gcd.{gcd}
use Rattle.algebra.specs.Ratio.{Ratio, ratio, is_lowest, exact, reduce, sum_of, product_of, opposite_of, reciprocal, inverse_of, IsLowest}
use Rattle.algebra.proofs.GcdLaws.{gcd-left, gcd-right, gcd-pos, gcd_of_rest, dvd_from_coprime, gcd_comm}
use Rattle.algebra.proofs.Basics.{both_out, both_in}
use Rattle.algebra.proofs.RingLaws as L
use Rattle.algebra.proofs.IntRing.{ℤ_ring}
use Rattle.algebra.proofs.RingSolver.{ring_rules, ring}

abbrev pub sum : Ratio → Ratio → Ratio
sum p q = reduce (sum_of p q)

abbrev pub product : Ratio → Ratio → Ratio
product p q = reduce (product_of p q)

-- ---- what the test says
pub is_lowest-out : (p : Ratio) → T (is_lowest p) → IsLowest p
unfolding is_lowest
is_lowest-out p t =
    let both = both_out (ltb 0 p.den) (eqb (gcd (nat_abs p.num) p.den) 1) t in
    record { some = ltb→lt 0 p.den both.0; lowest = eqb→eq (gcd (nat_abs p.num) p.den) 1 both.1 }

pub is_lowest-in : (p : Ratio) → IsLowest p → T (is_lowest p)
unfolding is_lowest
is_lowest-in p v = both_in (ltb 0 p.den) (eqb (gcd (nat_abs p.num) p.den) 1) (lt→ltb 0 p.den v.some)
    (subst (λ x. T (eqb x 1)) (sym v.lowest) (eqb_refl 1))

-- ---- equal cross products
abbrev pub Alike : Ratio → Ratio → Type 0
Alike p q = p.num *ℤ pos q.den ≡ q.num *ℤ pos p.den

pub cancel : (d : ℕ) (a b : ℤ) → 0 < d → a *ℤ pos d ≡ b *ℤ pos d → a ≡ b
cancel d a b some e =
    let ups : up a * d ≡ up b * d = omega (
      arith,
      product_is a (pos d),
      product_is b (pos d),
      ap up e,
    ) in
    let downs : down a * d ≡ down b * d = omega (
      arith,
      product_is a (pos d),
      product_is b (pos d),
      ap down e,
    ) in
    let u : up a ≡ up b = N.eq_of_mul-eq-mul_right d some (up a) (up b) ups in
    let v : down a ≡ down b = N.eq_of_mul-eq-mul_right d some (down a) (down b) downs in
    same_in a b (omega arith)

pub exact_whole : (n : ℤ) (g : ℕ) → g ∣ nat_abs n → exact n g *ℤ pos g ≡ n
exact_whole (pos n) g h = ap pos (N.div-mul_cancel g h)
exact_whole (negsuc n) g h = L.neg-mul ℤ_ring (pos (suc n / g)) (pos g)
    ∙ ap (λ (x : ℕ). neg_ℤ (pos x)) (N.div-mul_cancel g h)

pub nat_abs-neg : (n : ℕ) → nat_abs (neg_ℤ (pos n)) ≡ n
nat_abs-neg zero = refl
nat_abs-neg (suc n) = refl

pub nat_abs-exact : (n : ℤ) (g : ℕ) → nat_abs (exact n g) ≡ nat_abs n / g
nat_abs-exact (pos n) g = refl
nat_abs-exact (negsuc n) g = nat_abs-neg (suc n / g)

-- ---- the identities, in any commutative ring
module _ {A : Type 0} (R : CommRing A) where
  open R use {zero as 𝟘, one as 𝟙, add, mul, neg}

  infixl 6 ◌+'◌
  abbrev ◌+'◌ : A → A → A
  a +' b = add a b

  infixl 7 ◌*'◌
  abbrev ◌*'◌ : A → A → A
  a *' b = mul a b

  iteration : (a b c : A) → a *' (b *' c) ≡ a *' c *' b
  iteration a b c = ring R (a ∷ b ∷ c ∷ []) (search ring_rules depth 30) refl

  sum_opened : (n d m e s t : A) → (n *' e +' m *' d) *' (s *' t) ≡ (n *' s) *' (e *' t) +' (m *' t)
      *' (d *' s)
  sum_opened n d m e s t = ring R (n ∷ d ∷ m ∷ e ∷ s ∷ t ∷ []) (search ring_rules depth 30) refl

  sum_closed : (n d m e s t : A) → (n *' d) *' (e *' t) +' (m *' e) *' (d *' s) ≡ (n *' t +' m *' s)
      *' (d *' e)
  sum_closed n d m e s t = ring R (n ∷ d ∷ m ∷ e ∷ s ∷ t ∷ []) (search ring_rules depth 30) refl

  sum_assoc_top : (n d m e k f : A) → (n *' e +' m *' d) *' f +' k *' (d *' e) ≡ n *' (e *' f) +'
      (m *' f +' k *' e) *' d
  sum_assoc_top n d m e k f = ring R (n ∷ d ∷ m ∷ e ∷ k ∷ f ∷ []) (search ring_rules depth 30) refl

  sum_comm_top : (n d m e : A) → n *' e +' m *' d ≡ m *' d +' n *' e
  sum_comm_top n d m e = ring R (n ∷ d ∷ m ∷ e ∷ []) (search ring_rules depth 30) refl

  zero_sum_top : (n d : A) → 𝟘 *' d +' n *' 𝟙 ≡ n
  zero_sum_top n d = ring R (n ∷ d ∷ []) (search ring_rules depth 30) refl

  opposite_sum : (n d : A) → (neg n *' d +' n *' d) *' 𝟙 ≡ 𝟘 *' (d *' d)
  opposite_sum n d = ring R (n ∷ d ∷ []) (search ring_rules depth 30) refl

  distributive : (n d m e k f : A) → (n *' (m *' f +' k *' e)) *' (d *' e *' (d *' f))
      ≡ (n *' m *' (d *' f) +' n *' k *' (d *' e)) *' (d *' (e *' f))
  distributive n d m e k f = ring R (n ∷ d ∷ m ∷ e ∷ k ∷ f ∷ []) (search ring_rules depth 30) refl

  inverse_product : (n d : A) → n *' d *' 𝟙 ≡ 𝟙 *' (d *' n)
  inverse_product n d = ring R (n ∷ d ∷ []) (search ring_rules depth 30) refl

  inverse_product_neg : (n d : A) → neg n *' neg d *' 𝟙 ≡ 𝟙 *' (d *' n)
  inverse_product_neg n d = ring R (n ∷ d ∷ []) (search ring_rules depth 30) refl

  trans_alike : (n d m e k f : A) → n *' e ≡ m *' d → m *' f ≡ k *' e → n *' f *' e ≡ k *' d *' e
  trans_alike n d m e k f h g = L.mul_right_comm R n f e ∙ ap (λ x. x *' f) h
      ∙ L.mul_right_comm R m d f ∙ ap (λ x. x *' d) g ∙ L.mul_right_comm R k e d

  sum_alike : (n d m e n' d' m' e' : A) → n *' d' ≡ n' *' d → m *' e' ≡ m' *' e
      → (n *' e +' m *' d) *' (d' *' e') ≡ (n' *' e' +' m' *' d') *' (d *' e)
  sum_alike n d m e n' d' m' e' h g = sum_opened n d m e d' e'
      ∙ ap₂ add (ap (λ x. x *' (e *' e')) h) (ap (λ x. x *' (d *' d')) g)
      ∙ sum_closed n' d m' e d' e'

  product_alike : (n d m e n' d' m' e' : A) → n *' d' ≡ n' *' d → m *' e' ≡ m' *' e
      → (n *' m) *' (d' *' e') ≡ (n' *' m') *' (d *' e)
  product_alike n d m e n' d' m' e' h g = L.mul_swap R n m d' e' ∙ ap₂ mul h g
      ∙ L.mul_swap R n' d m' e

pub reduce-alike : (p : Ratio) → Alike (reduce p) p
unfolding reduce
reduce-alike p =
    let g = gcd (nat_abs p.num) p.den in
    let n = exact p.num g in
    let d = p.den / g in
    ap (λ (x : ℕ). n *ℤ pos x) (sym (N.div-mul_cancel g (gcd-right (nat_abs p.num) p.den)))
    ∙ iteration ℤ_ring n (pos d) (pos g)
    ∙ ap (λ x. x *ℤ pos d) (exact_whole p.num g (gcd-left (nat_abs p.num) p.den))

pub reduce-value : (p : Ratio) → 0 < p.den → IsLowest (reduce p)
unfolding reduce
reduce-value p some =
    let g = gcd (nat_abs p.num) p.den in
    let g_some : 0 < g = gcd-pos (nat_abs p.num) p.den some in
    let top : g * (nat_abs p.num / g) ≡ nat_abs p.num =
    N.mul-div_cancel' g (gcd-left (nat_abs p.num) p.den) in
    let bottom : g * (p.den / g) ≡ p.den = N.mul-div_cancel' g (gcd-right (nat_abs p.num) p.den) in
    record {
      some = N.pos_of_ne-zero
          (λ e. N.lt_irrefl 0 (subst (λ x. 0 < x) (sym bottom ∙ ap (λ x. g * x) e ∙ N.mul-zero g)
          some));
      lowest = ap (λ x. gcd x (p.den / g)) (nat_abs-exact p.num g)
          ∙ gcd_of_rest g (nat_abs p.num / g) (p.den / g) g_some (ap₂ gcd top bottom);
    }

-- a fraction has one pair in lowest terms
pub same_from_alike : (p q : Ratio) → IsLowest p → IsLowest q → Alike p q → p ≡ q
same_from_alike p q v w e =
    let sizes : nat_abs p.num * q.den ≡ nat_abs q.num * p.den =
    sym (unsigned_abs-mul p.num (pos q.den)) ∙ ap nat_abs e
    ∙ unsigned_abs-mul q.num (pos p.den) in
    let one_way : p.den ∣ q.den = dvd_from_coprime (nat_abs p.num) p.den q.den v.lowest
    (subst (λ x. p.den ∣ x) (sym sizes ∙ N.mul_comm (nat_abs p.num) q.den)
    (N.dvd-mul_left p.den (nat_abs q.num))) in
    let other_way : q.den ∣ p.den = dvd_from_coprime (nat_abs q.num) q.den p.den w.lowest
    (subst (λ x. q.den ∣ x) (sizes ∙ N.mul_comm (nat_abs q.num) p.den)
    (N.dvd-mul_left q.den (nat_abs p.num))) in
    let bottoms : p.den ≡ q.den = N.dvd_antisymm one_way other_way in
    let tops : p.num ≡ q.num = cancel q.den p.num q.num w.some (e
    ∙ ap (λ (x : ℕ). q.num *ℤ pos x) bottoms) in
    λ i. ratio (tops i) (bottoms i)

pub alike_sym : (p q : Ratio) → Alike p q → Alike q p
alike_sym p q h = sym h

pub alike_trans : (p q r : Ratio) → 0 < q.den → Alike p q → Alike q r → Alike p r
alike_trans p q r some h g = cancel q.den (p.num *ℤ pos r.den) (r.num *ℤ pos p.den) some
    (trans_alike ℤ_ring p.num (pos p.den) q.num (pos q.den) r.num (pos r.den) h g)

pub same_reduced : (p q : Ratio) → 0 < p.den → 0 < q.den → Alike p q → reduce p ≡ reduce q
same_reduced p q some some' h =
    same_from_alike (reduce p) (reduce q) (reduce-value p some) (reduce-value q some')
    (alike_trans (reduce p) p (reduce q) some (reduce-alike p) (alike_trans p q (reduce q) some' h
    (alike_sym (reduce q) q (reduce-alike q))))

pub reduce_value_is : (p : Ratio) → IsLowest p → reduce p ≡ p
reduce_value_is p v = same_from_alike (reduce p) p (reduce-value p v.some) v (reduce-alike p)

pub mul-pos : (a b : ℕ) → 0 < a → 0 < b → 0 < a * b
mul-pos a b h g = grind arith

-- ---- what is reduced first may be reduced last
pub sum-reduce_left : (p q : Ratio) → 0 < p.den → 0 < q.den → sum (reduce p) q ≡ sum p q
sum-reduce_left p q h g =
    same_reduced (sum_of (reduce p) q) (sum_of p q) (mul-pos (reduce p).den q.den
    (reduce-value p h).some g) (mul-pos p.den q.den h g)
    (sum_alike ℤ_ring (reduce p).num (pos (reduce p).den) q.num (pos q.den) p.num (pos p.den) q.num
    (pos q.den) (reduce-alike p) refl)

pub sum-reduce_right : (p q : Ratio) → 0 < p.den → 0 < q.den → sum p (reduce q) ≡ sum p q
sum-reduce_right p q h g =
    same_reduced (sum_of p (reduce q)) (sum_of p q) (mul-pos p.den (reduce q).den h
    (reduce-value q g).some) (mul-pos p.den q.den h g)
    (sum_alike ℤ_ring p.num (pos p.den) (reduce q).num (pos (reduce q).den) p.num (pos p.den) q.num
    (pos q.den) refl (reduce-alike q))

pub product-reduce_left : (p q : Ratio) → 0 < p.den → 0 < q.den → product (reduce p) q ≡ product p q
product-reduce_left p q h g =
    same_reduced (product_of (reduce p) q) (product_of p q) (mul-pos (reduce p).den q.den
    (reduce-value p h).some g) (mul-pos p.den q.den h g)
    (product_alike ℤ_ring (reduce p).num (pos (reduce p).den) q.num (pos q.den) p.num (pos p.den)
    q.num (pos q.den) (reduce-alike p) refl)

pub product-reduce_right : (p q : Ratio) → 0 < p.den → 0 < q.den
    → product p (reduce q) ≡ product p q
product-reduce_right p q h g =
    same_reduced (product_of p (reduce q)) (product_of p q) (mul-pos p.den (reduce q).den h
    (reduce-value q g).some) (mul-pos p.den q.den h g)
    (product_alike ℤ_ring p.num (pos p.den) (reduce q).num (pos (reduce q).den) p.num (pos p.den)
    q.num (pos q.den) refl (reduce-alike q))

-- ---- the laws of a field
abbrev pub frac_zero : Ratio
frac_zero = ratio (pos 0) 1

abbrev pub frac_one : Ratio
frac_one = ratio (pos 1) 1

pub sum_assoc : (p q r : Ratio) → 0 < p.den → 0 < q.den → 0 < r.den
    → sum (sum p q) r ≡ sum p (sum q r)
sum_assoc p q r h g k =
    let tops = sum_assoc_top ℤ_ring p.num (pos p.den) q.num (pos q.den) r.num (pos r.den) in
    sum-reduce_left (sum_of p q) r (mul-pos p.den q.den h g) k
    ∙ ap {A = Ratio} reduce (λ i. ratio (tops i) (N.mul_assoc p.den q.den r.den i))
    ∙ sym (sum-reduce_right p (sum_of q r) h (mul-pos q.den r.den g k))

pub sum_comm : (p q : Ratio) → sum p q ≡ sum q p
sum_comm p q =
    let tops = sum_comm_top ℤ_ring p.num (pos p.den) q.num (pos q.den) in
    ap {A = Ratio} reduce (λ i. ratio (tops i) (N.mul_comm p.den q.den i))

pub zero-sum : (p : Ratio) → IsLowest p → sum frac_zero p ≡ p
zero-sum p v =
    let tops = zero_sum_top ℤ_ring p.num (pos p.den) in
    ap {A = Ratio} reduce (λ i. ratio (tops i) (N.one-mul p.den i)) ∙ reduce_value_is p v

pub zero-value : IsLowest frac_zero
unfolding gcd
zero-value = record { some = omega arith; lowest = refl }

pub one-value : IsLowest frac_one
unfolding gcd
one-value = record { some = omega arith; lowest = refl }

pub opposite-sum : (p : Ratio) → 0 < p.den → sum (opposite_of p) p ≡ frac_zero
opposite-sum p h =
    same_reduced (sum_of (opposite_of p) p) frac_zero (mul-pos p.den p.den h h) zero-value.some
    (opposite_sum ℤ_ring p.num (pos p.den))
    ∙ reduce_value_is frac_zero zero-value

pub product_assoc : (p q r : Ratio) → 0 < p.den → 0 < q.den → 0 < r.den → product (product p q) r
    ≡ product p (product q r)
product_assoc p q r h g k =
    let tops = ℤ_ring.mul_assoc p.num q.num r.num in
    product-reduce_left (product_of p q) r (mul-pos p.den q.den h g) k
    ∙ ap {A = Ratio} reduce (λ i. ratio (tops i) (N.mul_assoc p.den q.den r.den i))
    ∙ sym (product-reduce_right p (product_of q r) h (mul-pos q.den r.den g k))

pub product_comm : (p q : Ratio) → product p q ≡ product q p
product_comm p q = ap {A = Ratio} reduce (λ i. ratio (ℤ_ring.mul_comm p.num q.num i)
    (N.mul_comm p.den q.den i))

pub one-product : (p : Ratio) → IsLowest p → product frac_one p ≡ p
one-product p v = ap {A = Ratio} reduce (λ i. ratio (L.one-mul ℤ_ring p.num i) (N.one-mul p.den i))
    ∙ reduce_value_is p v

pub product-sum : (p q r : Ratio) → 0 < p.den → 0 < q.den → 0 < r.den
    → product p (sum q r) ≡ sum (product p q) (product p r)
product-sum p q r h g k =
    product-reduce_right p (sum_of q r) h (mul-pos q.den r.den g k)
    ∙ same_reduced (product_of p (sum_of q r)) (sum_of (product_of p q) (product_of p r))
    (mul-pos p.den (q.den * r.den) h (mul-pos q.den r.den g k))
    (mul-pos (p.den * q.den) (p.den * r.den) (mul-pos p.den q.den h g)
    (mul-pos p.den r.den h k))
    (distributive ℤ_ring p.num (pos p.den) q.num (pos q.den) r.num (pos r.den))
    ∙ sym (sum-reduce_left (product_of p q) (product p r) (mul-pos p.den q.den h g)
    (reduce-value (product_of p r) (mul-pos p.den r.den h k)).some
    ∙ sum-reduce_right (product_of p q) (product_of p r) (mul-pos p.den q.den h g)
    (mul-pos p.den r.den h k))

turned-value : (n : ℤ) (d : ℕ) → 0 < d → gcd (nat_abs n) d ≡ 1 → IsLowest (reciprocal n d)
turned-value (pos zero) d h e = zero-value
turned-value (pos (suc n)) d h e = record {
  some = N.zero-lt-suc n;
  lowest = gcd_comm d (suc n)
      ∙ e;
}
turned-value (negsuc n) d h e = record {
  some = N.zero-lt-suc n;
  lowest = ap (λ x. gcd x (suc n)) (nat_abs-neg d) ∙ gcd_comm d (suc n) ∙ e;
}

pub inverse-value : (p : Ratio) → IsLowest p → IsLowest (inverse_of p)
inverse-value p v = turned-value p.num p.den v.some v.lowest

turned-product : (n : ℤ) (d : ℕ) → 0 < d → n ≢ pos 0 → product (ratio n d) (reciprocal n d)
    ≡ frac_one
turned-product (pos zero) d h e = absurd (e refl)
turned-product (pos (suc n)) d h e =
    same_reduced (product_of (ratio (pos (suc n)) d) (ratio (pos d) (suc n))) frac_one
    (mul-pos d (suc n) h (N.zero-lt-suc n)) one-value.some (inverse_product ℤ_ring (pos (suc n))
    (pos d))
    ∙ reduce_value_is frac_one one-value
turned-product (negsuc n) d h e =
    same_reduced (product_of (ratio (negsuc n) d) (ratio (neg_ℤ (pos d)) (suc n))) frac_one
    (mul-pos d (suc n) h (N.zero-lt-suc n)) one-value.some
    (inverse_product_neg ℤ_ring (pos (suc n)) (pos d))
    ∙ reduce_value_is frac_one one-value

pub inverse-product : (p : Ratio) → 0 < p.den → p.num ≢ pos 0 → product p (inverse_of p) ≡ frac_one
inverse-product p h e = turned-product p.num p.den h e

pub nat_abs-neg_ℤ : (n : ℤ) → nat_abs (neg_ℤ n) ≡ nat_abs n
nat_abs-neg_ℤ (pos zero) = refl
nat_abs-neg_ℤ (pos (suc n)) = refl
nat_abs-neg_ℤ (negsuc n) = refl

pub lowest-neg : (n : ℤ) (d : ℕ) → gcd (nat_abs (neg_ℤ n)) d ≡ gcd (nat_abs n) d
lowest-neg n d = ap (λ x. gcd x d) (nat_abs-neg_ℤ n)

-- ---- results are values
pub sum-value : (p q : Ratio) → IsLowest p → IsLowest q → IsLowest (sum p q)
sum-value p q v w = reduce-value (sum_of p q) (mul-pos p.den q.den v.some w.some)

pub product-value : (p q : Ratio) → IsLowest p → IsLowest q → IsLowest (product p q)
product-value p q v w = reduce-value (product_of p q) (mul-pos p.den q.den v.some w.some)

pub opposite-value : (p : Ratio) → IsLowest p → IsLowest (opposite_of p)
opposite-value p v = record { some = v.some; lowest = lowest-neg p.num p.den ∙ v.lowest }
