-- Polynomials made monic, and S-polynomials, over plain variables.
--   if_ok                     what is said of a result, by what is
--   collected_along           what is collected in an order, in an equal one
--   lead_same                 the number of the lead
--   monic_made, monic_some    a polynomial divided by it is the one made monic
--   under_shift, past_pair    weights of shifted elements, and of their difference
--   pair_made                 the difference is the S-polynomial
use Rattle.std.proofs.Common.{◌≡◌, ◌≢◌, ◌↔◌, ◌⊎◌, inl, inr, ℕ, true, List, [], ◌∷◌, ◌++◌, replicate, Result, Ok, Err, IfOk, refl, sym, ap, ap₂, subst, ◌∙◌}
use Rattle.std.proofs.lemmas.List.{append-nil}
use Rattle.algebra.specs.Each.{Each}
use Rattle.algebra.specs.FieldArithmetic.{field_of}
use Rattle.algebra.specs.Ring.{CommRing, Field, IsRing, IsFieldOf, ring as ring_of}
use Rattle.algebra.specs.Scalars.{Scalars, IsBounded, field}
use Rattle.algebra.specs.Size.{Size, IsUnder, sum_size}
use Rattle.algebra.proofs.LcmLaws.{lcm-pos}
use Rattle.algebra.proofs.ScalarFields.{is_field}
use Rattle.algebra.proofs.SizeLaws.{under_refl, under_trans, under-sum, past_under}
use Rattle.polynomials.specs.Algebra as Algebra
use Rattle.polynomials.specs.Exponent.{plus}
use Rattle.polynomials.specs.Order.{Rank, IsMonomialOrder}
use Rattle.polynomials.specs.Polynomial.{Arity, IsPolynomial}
use Rattle.polynomials.specs.Terms.{Terms, Same, constant, negate, shift, times}
use Rattle.polynomials.specs.Weight.{weight, degrees, FitsMonomial, IsPastSum}
use Rattle.polynomials.proofs.Arity.{zeros-plus, arity-append, arity-negate}
use Rattle.polynomials.proofs.Canonical.{polynomial_unique}
use Rattle.polynomials.proofs.Same.{Same-trans, same_append, same_negate}
use Rattle.polynomials.proofs.Weight.{weight-pos, weight_of_polynomial}
use Rattle.machines.specs.Collect.{collect, scale_terms}
use Rattle.machines.specs.Cut.{lead_number, monic}
use Rattle.machines.proofs.Collecting.{collect-is}
use Rattle.machines.proofs.Elements.{IsElement}
use Rattle.machines.proofs.Monic.{monic_is}
use Rattle.poly.specs.Multiple.{lead_coefficient}
use Rattle.poly.proofs.Multiples.{small_product}

pub if_ok : {X E : Type 0} (P Q : X → Type 0) (r : Result X E) → ((x : X) → P x → Q x) → IfOk r P
    → IfOk r Q
if_ok P Q (Ok x) f h = f x h
if_ok P Q (Err e) f h = tt

pub collected_along : (S : Scalars) {X : Type 0} (order : X → Rank) (a b : X) (p ts : Terms S.Elem)
    → a ≡ b → p ≡ collect (field S) (order a) ts → p ≡ collect (field S) (order b) ts
collected_along S order a b p ts e h = h ∙ ap (λ x. collect (field S) (order x) ts) e

pub lead_same : (S : Scalars) (p : Terms S.Elem) → lead_coefficient S.arithmetic p
    ≡ lead_number (field S) p
unfolding lead_number
lead_same S [] = refl
lead_same S (t ∷ p) = refl

module _ (S : Scalars) (r : IsRing S.arithmetic) (f : IsFieldOf S.arithmetic S.inverse)
    (z : (a : S.Elem) → (S.is_zero a ≡ true) ↔ (a ≡ S.zero)) (O : Rank) (o : IsMonomialOrder O)
    (m : ℕ) where
  abbrev K : Field S.Elem
  K = field_of (field S) (is_field S r f z)

  abbrev R : CommRing S.Elem
  R = ring_of S.arithmetic r

  scaled_shift : (c : S.Elem) (p : Terms S.Elem) → Arity m p
      → shift S.arithmetic (replicate m 0) c p ≡ scale_terms (field S) c p
  unfolding scale_terms Algebra.shift Each
  scaled_shift c [] a = refl
  scaled_shift c (t ∷ p) a = ap₂ (λ (e : List ℕ) (zs : Terms S.Elem). (e, S.mul c t.1) ∷ zs)
      (zeros-plus m t.0 a.0) (scaled_shift c p a.1)

  quotient_list : (p : Terms S.Elem) → Arity m p
      → times S.arithmetic (constant m (S.inverse (lead_coefficient S.arithmetic p))) p
      ≡ monic (field S) p
  unfolding Algebra.times constant monic
  quotient_list p a =
      append-nil (shift S.arithmetic (replicate m 0) (S.inverse (lead_coefficient S.arithmetic p))
      p) ∙ scaled_shift (S.inverse (lead_coefficient S.arithmetic p)) p a
      ∙ ap (λ l. scale_terms (field S) (S.inverse l) p) (lead_same S p)

  module _ (p : Terms S.Elem) (hp : IsPolynomial S.arithmetic O m p) (n : p ≢ []) where
    element : IsElement K O o m p
    element = record { polynomial = hp; nonzero = n }

    pub monic_made : (q : Terms S.Elem) → IsPolynomial S.arithmetic O m q
        → Same S.arithmetic q
        (times S.arithmetic (constant m (S.inverse (lead_coefficient S.arithmetic p))) p)
        → q ≡ monic (field S) p
    monic_made q hq same = polynomial_unique O o R m m q (monic (field S) p) hq
        (monic_is K O o m p element).element.polynomial (subst (λ (y : Terms S.Elem).
        Same S.arithmetic q y) (quotient_list p hp.arity) same)

    pub monic_some : monic (field S) p ≢ []
    monic_some = (monic_is K O o m p element).element.nonzero

  pub pair_made : (p left right x y : Terms S.Elem) → IsPolynomial S.arithmetic O m p
      → Same S.arithmetic left x → Same S.arithmetic right y → Arity m x → Arity m y
      → Same S.arithmetic p (left ++ negate S.arithmetic right)
      → p ≡ collect (field S) O (x ++ negate S.arithmetic y)
  pair_made p left right x y hp sl sr ax ay same = collect-is K O o m (x ++ negate S.arithmetic y) p
      (arity-append m x (negate S.arithmetic y) ax (arity-negate m S.arithmetic y ay)) hp
      (Same-trans S.arithmetic same (same_append R sl (same_negate R sr)))

module _ (S : Scalars) (r : IsRing S.arithmetic) (b : IsBounded S.arithmetic S.size) (O : Rank)
    (o : IsMonomialOrder O) (m : ℕ) where
  abbrev W : Terms S.Elem → Size
  W = weight S.size

  pub under_shift : (x g : Terms S.Elem) (d : List ℕ) → IsPolynomial S.arithmetic O m x
      → Same S.arithmetic x (shift S.arithmetic d S.one g) → IsUnder (W x) (W g)
  under_shift x g d hx same =
      let R = ring_of S.arithmetic r in
      let wx = weight-pos R S.size b x in
      let wg = weight-pos R S.size b g in
      let y = shift S.arithmetic d S.one g in
      under_trans (W x) (W y) (W g) wx wg (weight_of_polynomial R S.size b O o m x y hx same)
      (small_product S r b S.one g d b.one_size)

  -- the difference with another that is shifted, by a monomial that is seen as k
  pub past_pair : (A : Type 0) (x f g : Terms S.Elem) (d e k : List ℕ)
      → IsPolynomial S.arithmetic O m x → Same S.arithmetic x (shift S.arithmetic d S.one f) → k ≡ e
      → IsPastSum S x g ⊎ ¬ (FitsMonomial (plus k (degrees g)))
      → IsPastSum S f g ⊎ A ⊎ ¬ (FitsMonomial (plus e (degrees g)))
  past_pair A x f g d e k hx sx is (inl past) =
      let R = ring_of S.arithmetic r in
      let wx = weight-pos R S.size b x in
      let wf = weight-pos R S.size b f in
      let wg = weight-pos R S.size b g in
      inl (past_under (sum_size (W x) (W g)) (sum_size (W f) (W g))
      (lcm-pos (W f).den (W g).den wf wg)
      (under-sum (W x) (W g) (W f) (W g) wx wg wf wg (under_shift x f d hx sx)
      (under_refl (W g) wg)) past)
  past_pair A x f g d e k hx sx is (inr wide) =
      inr (inr (λ fits. wide (subst (λ n. FitsMonomial (plus n (degrees g))) (sym is) fits)))
