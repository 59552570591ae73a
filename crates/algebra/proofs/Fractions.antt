-- The fractions are an ordered field: the laws of pairs, carried over.
--   same_fraction      two fractions with the same pair are one
--   same_from_alike    so are two whose cross products are equal
--   facts x            a fraction's pair is in lowest terms; some x: its denominator is above zero
--   top_zero, zero_is  a fraction is zero where its numerator is
--   ratio-sum, ratio-product, ratio-opposite, ratio-inverse, ratio-zero     the pair of a sum is the sum of the pairs, and so on
--   ratio-fraction     a pair in lowest terms is the pair of its fraction; fraction-ratio: a fraction is that of its pair
--   fraction_eq        whether two fractions are the same; fraction_eq_true, fraction_eq_refl: it holds exactly where they are
--   fractions_ring, fractions_field, fractions_ordered     the laws
--   rationals_field    how to compute with them is that of a field
--   ℚ_ring, ℚ_zero_test, ℚ_field     as records of the theory
use Rattle.std.proofs.Common.{◌≡◌, ◌↔◌, ℕ, ◌*◌, ◌<◌, ℤ, pos, negsuc, ◌*ℤ◌, unsigned_abs, Bool, true, false, T, eqb, ◌&&◌, refl, sym, ap, ap₂, subst, ◌∙◌, eqb→eq, lt→ltb, Less, Greater}
use mathlib.Core.HLevel.{Σ_prop_path}
use native.Mathlib.Nat.{ℕ_set}
use lib.Dec.{T_prop, eqb_refl}
use lib.IntN.{ℤ_set}
use lib.Signed.{lt_z}
use Rattle.std.proofs.lemmas.Bool.{eqb-true}
use Rattle.std.proofs.lemmas.Map.Lookups.{exact_signed}
use Rattle.algebra.specs.FieldArithmetic.{IsField, field_of}
use Rattle.algebra.specs.Ring.{CommRing, ZeroTest, Field, IsRing, IsFieldOf, IsOrderOf, ring}
use Rattle.algebra.proofs.Basics.{both_out, both_in, to_true, T-set, abs_zero}
use Rattle.algebra.proofs.RingLaws as L
use Rattle.algebra.proofs.IntRing.{ℤ_ring, ℤ_ordered, int_less_in, int_less_out, self_equal, turned_order}
use Rattle.algebra.proofs.OrderLaws as O
use Rattle.algebra.specs.Ratio.{Ratio, ratio, is_lowest, reduce, sum_of, product_of, opposite_of, inverse_of, IsLowest}
use Rattle.algebra.specs.Fraction.{Fraction, fraction_where, fraction, sum, product, opposite, inverse, is_zero, fraction_arithmetic, rationals, fraction_order}
use Rattle.algebra.proofs.RatioLaws as F
use Rattle.algebra.proofs.RatioLaws.{frac_zero, frac_one}

-- ---- equality of fractions
pub same_fraction : (x y : Fraction) → x.ratio ≡ y.ratio → x ≡ y
same_fraction x y e =
    let pairs : (x.ratio, x.lowest) ≡ (y.ratio, y.lowest) = Σ_prop_path {A = Ratio} {B =
    λ p. T (is_lowest p)} (λ p. T_prop (is_lowest p)) e in
    λ i. record { ratio = (pairs i).0; lowest = (pairs i).1 }

pub Ratio-set : IsSet Ratio
Ratio-set = hlevel (ℕ_set, ℤ_set)

pub Fraction-set : IsSet Fraction
Fraction-set = hlevel (Ratio-set, T-set)

pub facts : (x : Fraction) → IsLowest x.ratio
facts x = F.is_lowest-out x.ratio x.lowest

pub some : (x : Fraction) → 0 < x.den
some x = (facts x).some

pub ratio-fraction : (p : Ratio) → IsLowest p → (fraction p).ratio ≡ p
unfolding fraction
ratio-fraction p v = go (is_lowest p) (λ t. t) (F.is_lowest-in p v)
  where
    go : (b : Bool) (f : T b → T (is_lowest p)) → T b → (fraction_where p b f).ratio ≡ p
    go true f t = refl
    go false f t = absurd t

pub fraction-ratio : (x : Fraction) → fraction x.ratio ≡ x
fraction-ratio x = same_fraction _ _ (ratio-fraction x.ratio (facts x))

pub ratio-sum : (x y : Fraction) → (sum x y).ratio ≡ F.sum x.ratio y.ratio
unfolding sum
ratio-sum x y = ratio-fraction _ (F.sum-value x.ratio y.ratio (facts x) (facts y))

pub ratio-product : (x y : Fraction) → (product x y).ratio ≡ F.product x.ratio y.ratio
unfolding product
ratio-product x y = ratio-fraction _ (F.product-value x.ratio y.ratio (facts x) (facts y))

pub ratio-opposite : (x : Fraction) → (opposite x).ratio ≡ opposite_of x.ratio
unfolding opposite
ratio-opposite x = ratio-fraction _ (F.opposite-value x.ratio (facts x))

pub ratio-inverse : (x : Fraction) → (inverse x).ratio ≡ inverse_of x.ratio
unfolding inverse
ratio-inverse x = ratio-fraction _ (F.inverse-value x.ratio (facts x))

-- two fractions are one where their cross products are
pub same_from_alike : (x y : Fraction) → F.Alike x.ratio y.ratio → x ≡ y
same_from_alike x y e = same_fraction x y (F.same_from_alike x.ratio y.ratio (facts x) (facts y) e)

abbrev Z : Fraction
Z = fraction_arithmetic.zero

abbrev I : Fraction
I = fraction_arithmetic.one

pub ratio-zero : Z.ratio ≡ frac_zero
ratio-zero = ratio-fraction frac_zero F.zero-value

pub ratio-one : I.ratio ≡ frac_one
ratio-one = ratio-fraction frac_one F.one-value

pub fractions_ring : IsRing fraction_arithmetic
fractions_ring = record {
  add_assoc = λ a b c. same_fraction _ _ (ratio-sum (sum a b) c
      ∙ ap (λ p. F.sum p c.ratio) (ratio-sum a b) ∙ F.sum_assoc a.ratio b.ratio c.ratio (some a)
      (some b) (some c) ∙ ap (F.sum a.ratio) (sym (ratio-sum b c)) ∙ sym (ratio-sum a (sum b c)));
  add_comm = λ a b. same_fraction _ _ (ratio-sum a b ∙ F.sum_comm a.ratio b.ratio
      ∙ sym (ratio-sum b a));
  add-zero = λ a. same_fraction _ _ (ratio-sum a Z ∙ ap (F.sum a.ratio) ratio-zero
      ∙ F.sum_comm a.ratio frac_zero ∙ F.zero-sum a.ratio (facts a));
  add-neg = λ a. same_fraction _ _ (ratio-sum a (opposite a) ∙ ap (F.sum a.ratio) (ratio-opposite a)
      ∙ F.sum_comm a.ratio (opposite_of a.ratio) ∙ F.opposite-sum a.ratio (some a)
      ∙ sym ratio-zero);
  mul_assoc = λ a b c. same_fraction _ _ (ratio-product (product a b) c
      ∙ ap (λ p. F.product p c.ratio) (ratio-product a b)
      ∙ F.product_assoc a.ratio b.ratio c.ratio (some a) (some b) (some c)
      ∙ ap (F.product a.ratio) (sym (ratio-product b c)) ∙ sym (ratio-product a (product b c)));
  mul_comm = λ a b. same_fraction _ _ (ratio-product a b ∙ F.product_comm a.ratio b.ratio
      ∙ sym (ratio-product b a));
  mul-one = λ a. same_fraction _ _ (ratio-product a I ∙ ap (F.product a.ratio) ratio-one
      ∙ F.product_comm a.ratio frac_one ∙ F.one-product a.ratio (facts a));
  mul-add = λ a b c. same_fraction _ _ (ratio-product a (sum b c)
      ∙ ap (F.product a.ratio) (ratio-sum b c) ∙ F.product-sum a.ratio b.ratio c.ratio (some a)
      (some b) (some c) ∙ ap₂ F.sum (sym (ratio-product a b)) (sym (ratio-product a c))
      ∙ sym (ratio-sum (product a b) (product a c)));
  is_set = Fraction-set;
}

-- a fraction is zero where its numerator is
pub top_zero : (a : Fraction) → a.num ≡ pos 0 → a ≡ Z
top_zero a e = same_fraction a Z (F.same_from_alike a.ratio frac_zero (facts a) F.zero-value
    (ℤ_ring.mul-one a.num ∙ e ∙ sym (L.zero-mul ℤ_ring (pos a.den))) ∙ sym ratio-zero)

pub zero_is : (a : Fraction) → (is_zero a ≡ true) ↔ (a ≡ Z)
zero_is a = (
  (λ h. top_zero a (abs_zero a.num (eqb-true (unsigned_abs a.num) 0 h))),
  (λ e. ap is_zero e ∙ ap (λ (r : Ratio). eqb (unsigned_abs r.num) 0) ratio-zero),
)

zero_apart : pos 1 ≡ pos 0 → ⊥
zero_apart e = cc

pub fractions_field : IsFieldOf fraction_arithmetic inverse
fractions_field = record {
  one-ne-zero = λ e. zero_apart (ap (λ (p : Ratio). p.num) (sym ratio-one
      ∙ ap (λ (x : Fraction). x.ratio) e ∙ ratio-zero));
  mul-inverse = λ a ne. same_fraction _ _ (ratio-product a (inverse a)
      ∙ ap (F.product a.ratio) (ratio-inverse a) ∙ F.inverse-product a.ratio (some a)
      (λ e. ne (top_zero a e)) ∙ sym ratio-one);
}

-- ---- the order
Below : Ratio → Ratio → Type 0
Below p q = T (lt_z (p.num *ℤ pos q.den) (q.num *ℤ pos p.den))

positive : (n : ℕ) → 0 < n → T (lt_z (pos 0) (pos n))
positive n h = lt→ltb 0 n h

-- what is reduced stands in the same order
less_reduced : (p q : Ratio) → 0 < p.den → 0 < q.den → Below p q → Below (reduce p) (reduce q)
unfolding Below
less_reduced p q h g l =
    O.less_alike ℤ_ordered p.num (pos p.den) q.num (pos q.den) (reduce p).num (pos (reduce p).den)
    (reduce q).num (pos (reduce q).den)
    (positive p.den h) (positive q.den g) (positive (reduce p).den (F.reduce-value p h).some)
    (positive (reduce q).den (F.reduce-value q g).some)
    (sym (F.reduce-alike p)) (sym (F.reduce-alike q)) l

top_positive : (p : Ratio) → Below frac_zero p → T (lt_z (pos 0) p.num)
unfolding Below
top_positive p l = O.less_same ℤ_ordered (pos 0 *ℤ pos p.den) (p.num *ℤ pos 1) (pos 0) p.num
    (L.zero-mul ℤ_ring (pos p.den)) (ℤ_ring.mul-one p.num) l

below_out : (x y : Fraction) → fraction_order x y ≡ Less → Below x.ratio y.ratio
unfolding Below
below_out x y e = int_less_out (x.num *ℤ pos y.den) (y.num *ℤ pos x.den) e

below_in : (x y : Fraction) → Below x.ratio y.ratio → fraction_order x y ≡ Less
unfolding Below
below_in x y l = int_less_in (x.num *ℤ pos y.den) (y.num *ℤ pos x.den) l

both_some : (x y : Fraction) → 0 < x.den * y.den
both_some x y = F.mul-pos x.den y.den (some x) (some y)

pub fractions_ordered : IsOrderOf fraction_arithmetic fraction_order
unfolding Below
fractions_ordered = record {
  equal_is = λ a b e. same_from_alike a b (exact_signed (a.num *ℤ pos b.den) (b.num *ℤ pos a.den)
      e);
  same_is = λ a. self_equal (a.num *ℤ pos a.den);
  flips = λ a b e. turned_order (a.num *ℤ pos b.den) (b.num *ℤ pos a.den) Less e;
  flips_back = λ a b e. turned_order (a.num *ℤ pos b.den) (b.num *ℤ pos a.den) Greater e;
  less_trans = λ a b c e f. below_in a c (O.less_chain ℤ_ordered a.num (pos a.den) b.num (pos b.den)
      c.num (pos c.den) (positive a.den (some a)) (positive b.den (some b))
      (positive c.den (some c)) (below_out a b e) (below_out b c f));
  add_keeps = λ a b c e. below_in (sum a c) (sum b c) (subst (λ p. Below p (sum b c).ratio)
      (sym (ratio-sum a c)) (subst (Below (F.sum a.ratio c.ratio)) (sym (ratio-sum b c))
      (less_reduced (sum_of a.ratio c.ratio) (sum_of b.ratio c.ratio) (both_some a c)
      (both_some b c)
      (O.less_sum ℤ_ordered a.num (pos a.den) b.num (pos b.den) c.num (pos c.den)
      (positive c.den (some c)) (below_out a b e)))));
  mul_keeps = λ a b c f e. below_in (product a c) (product b c)
      (subst (λ p. Below p (product b c).ratio) (sym (ratio-product a c))
      (subst (Below (F.product a.ratio c.ratio)) (sym (ratio-product b c))
      (less_reduced (product_of a.ratio c.ratio) (product_of b.ratio c.ratio) (both_some a c)
      (both_some b c)
      (O.less_product ℤ_ordered a.num (pos a.den) b.num (pos b.den) c.num (pos c.den)
      (top_positive c.ratio (subst (λ p. Below p c.ratio) ratio-zero (below_out Z c f)))
      (positive c.den (some c)) (below_out a b e)))));
}

-- ---- as records of the theory
unfoldable int_same : ℤ → ℤ → Bool
int_same (pos m) (pos n) = eqb m n
int_same (pos m) (negsuc n) = false
int_same (negsuc m) (pos n) = false
int_same (negsuc m) (negsuc n) = eqb m n

int_same-out : (a b : ℤ) → T (int_same a b) → a ≡ b
unfolding int_same
int_same-out (pos m) (pos n) t = ap pos (eqb→eq m n t)
int_same-out (pos m) (negsuc n) t = absurd t
int_same-out (negsuc m) (pos n) t = absurd t
int_same-out (negsuc m) (negsuc n) t = ap negsuc (eqb→eq m n t)

int_same_refl : (a : ℤ) → T (int_same a a)
unfolding int_same
int_same_refl (pos m) = eqb_refl m
int_same_refl (negsuc m) = eqb_refl m

unfoldable pub fraction_eq : Fraction → Fraction → Bool
unfolding int_same
fraction_eq x y = int_same x.num y.num && eqb x.den y.den

pub fraction_eq_refl : (x : Fraction) → fraction_eq x x ≡ true
unfolding fraction_eq
fraction_eq_refl x = to_true _ (both_in (int_same x.num x.num) (eqb x.den x.den)
    (int_same_refl x.num) (eqb_refl x.den))

pub fraction_eq_true : (x y : Fraction) → fraction_eq x y ≡ true → x ≡ y
unfolding fraction_eq
fraction_eq_true x y e =
    let both = both_out (int_same x.num y.num) (eqb x.den y.den) (subst T (sym e) tt) in
    same_fraction x y (ap₂ ratio (int_same-out x.num y.num both.0) (eqb→eq x.den y.den both.1))

abbrev pub ℚ_ring : CommRing Fraction
ℚ_ring = ring fraction_arithmetic fractions_ring

abbrev pub rationals_field : IsField rationals
rationals_field = record {
  laws = fractions_ring;
  inverses = fractions_field;
  is_zero_true = λ a. (zero_is a).0;
  is_zero-zero = (zero_is Z).1 refl;
}

abbrev pub ℚ_field : Field Fraction
ℚ_field = field_of rationals rationals_field

abbrev pub ℚ_zero_test : ZeroTest ℚ_ring
ℚ_zero_test = ℚ_field.zero_test
