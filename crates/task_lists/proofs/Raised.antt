-- Multiples of elements that have a given lead (specs/Raising).
--   lead_first          the lead of a list, by its first term
--   lead_length         it has an exponent for each variable
--   multiple_length     so has the least common multiple of two
--   factor_over         what a divisor is multiplied by to give a monomial
--   past_multiples      where the difference of two multiples is past, so is that of the two elements
use Rattle.std.proofs.Common.{◌≡◌, ◌≢◌, ℕ, ◌*◌, ◌<◌, List, [], ◌∷◌, length, slice_get, Some, refl, sym, ap, ap₂, subst, ◌∙◌, arith}
use Rattle.algebra.specs.Each.{Each}
use Rattle.algebra.specs.Ring.{IsRing, ring as ring_of}
use Rattle.algebra.specs.Scalars.{Scalars, IsBounded}
use Rattle.algebra.specs.Size.{Size, size, IsUnder, sum_size, times_size}
use Rattle.algebra.proofs.LcmLaws.{lcm-pos}
use Rattle.algebra.proofs.ProductSizes.{under_times}
use Rattle.algebra.proofs.RatioLaws.{mul-pos}
use Rattle.algebra.proofs.SizeLaws.{under_refl, under_trans, under-sum, past_under}
use Rattle.polynomials.specs.Exponent.{plus, lcm, over}
use Rattle.polynomials.specs.Order.{Rank, IsMonomialOrder}
use Rattle.polynomials.specs.Polynomial.{Arity, IsPolynomial}
use Rattle.polynomials.specs.Terms.{Terms, Same, shift}
use Rattle.polynomials.specs.Weight.{weight, IsPastSum}
use Rattle.polynomials.proofs.Exponent.{length-lcm}
use Rattle.polynomials.proofs.Weight.{weight-pos, weight-shift, weight_of_polynomial}
use Rattle.machines.specs.Cut.{lead_of}

module _ {A : Type 0} where
  pub lead_first : (p : Terms A) (t : List ℕ × A) → slice_get p 0 ≡ Some t → t.0 ≡ lead_of p
  unfolding lead_of
  lead_first [] t e = absurd (let z : ⊥ = cc in z)
  lead_first (u ∷ p) t e = let is : u ≡ t = cc in ap (λ x. x.0) (sym is)

  pub lead_length : (m : ℕ) (p : Terms A) → p ≢ [] → Arity m p → length (lead_of p) ≡ m
  unfolding Each lead_of
  lead_length m [] n a = absurd (n refl)
  lead_length m (t ∷ p) n a = a.0

  pub multiple_length : (m : ℕ) {e : List ℕ} (p q : Terms A) → p ≢ [] → q ≢ [] → Arity m p
      → Arity m q → e ≡ lcm (lead_of p) (lead_of q) → length e ≡ m
  multiple_length m p q n k a b is =
      let left = lead_length m p n a in
      ap length is
      ∙ length-lcm (lead_of p) (lead_of q) (left ∙ sym (lead_length m q k b)) ∙ left

over-plus : (by d : List ℕ) → length by ≡ length d → by ≡ over (plus d by) d
unfolding over plus
over-plus [] [] l = refl
over-plus [] (x ∷ d) l = absurd (omega arith)
over-plus (y ∷ by) [] l = absurd (omega arith)
over-plus (y ∷ by) (x ∷ d) l = ap₂ ◌∷◌ (omega arith) (over-plus by d (omega arith))

pub factor_over : (by d : List ℕ) {e : List ℕ} → plus d by ≡ e → length by ≡ length d
    → by ≡ over e d
factor_over by d is l = over-plus by d l ∙ ap (λ x. over x d) is

module _ (S : Scalars) (r : IsRing S.arithmetic) (b : IsBounded S.arithmetic S.size) {O : Rank}
    (o : IsMonomialOrder O) (m : ℕ) where
  abbrev W : Terms S.Elem → Size
  W = weight S.size

  pos : (p : Terms S.Elem) → 0 < (W p).den
  pos = weight-pos (ring_of S.arithmetic r) S.size b

  under_one : (a : Size) → 0 < a.den → IsUnder (times_size (size 1 1) a) a
  under_one a k = subst (λ x. IsUnder x a) (sym same) (under_refl a k)
    where
      one_mul : (n : ℕ) → 1 * n ≡ n
      one_mul n = omega arith

      same : times_size (size 1 1) a ≡ a
      same = λ i. record { size = one_mul a.size i; den = one_mul a.den i }

  under_multiple : (x g : Terms S.Elem) (d : List ℕ) → IsPolynomial S.arithmetic O m x
      → Same S.arithmetic x (shift S.arithmetic d S.one g) → IsUnder (W x) (W g)
  under_multiple x g d hx same =
      let R = ring_of S.arithmetic r in
      let y = shift S.arithmetic d S.one g in
      under_trans (W x) (W y) (W g) (pos x) (pos g)
      (weight_of_polynomial R S.size b O o m x y hx same) (under_trans (W y) _ (W g) (pos y) (pos g)
      (weight-shift R S.size b d S.one g) (under_trans _ (times_size (size 1 1) (W g)) (W g)
      (mul-pos (S.size S.one).den (W g).den (b.den_pos S.one) (pos g)) (pos g)
      (under_times (S.size S.one) (W g) (size 1 1) (W g) (b.den_pos S.one) (pos g) b.one_size
      (under_refl (W g) (pos g))) (under_one (W g) (pos g))))

  pub past_multiples : {x y : Terms S.Elem} (f g : Terms S.Elem) (d e : List ℕ)
      → IsPolynomial S.arithmetic O m x → IsPolynomial S.arithmetic O m y
      → Same S.arithmetic x (shift S.arithmetic d S.one f)
      → Same S.arithmetic y (shift S.arithmetic e S.one g) → IsPastSum S x y → IsPastSum S f g
  past_multiples {x = x} {y = y} f g d e hx hy sx sy past =
      past_under (sum_size (W x) (W y)) (sum_size (W f) (W g))
      (lcm-pos (W f).den (W g).den (pos f) (pos g))
      (under-sum (W x) (W y) (W f) (W g) (pos x) (pos y) (pos f) (pos g)
      (under_multiple x f d hx sx) (under_multiple y g e hy sy)) past
