-- Sums by halves.
--   parts_at, parts      the terms of a list cut in two, anywhere and in the middle
--   sum_halves           the sum of the sums of the halves
--   past_front, past_back, past_halves     the weight of a part, and of the sums of the halves
use Rattle.std.proofs.Common.{◌≡◌, ◌/◌, ℕ, List, ◌++◌, map, take, drop, length, take-append-drop, sym, ap, ap₂, subst, ◌∙◌}
use Rattle.std.proofs.lemmas.List.{map-append}
use Rattle.algebra.specs.Scalars.{Scalars, IsBounded}
use Rattle.algebra.specs.Ring.{IsRing, ring as ring_of}
use Rattle.algebra.specs.Size.{IsPast, sum_size}
use Rattle.algebra.proofs.LcmLaws.{lcm-pos}
use Rattle.algebra.proofs.SizeLaws.{under-sum, past_under}
use Rattle.polynomials.specs.Terms.{Terms, Same}
use Rattle.polynomials.specs.Order.{Rank, IsMonomialOrder}
use Rattle.polynomials.specs.Polynomial.{IsPolynomial}
use Rattle.polynomials.specs.Weight.{weight, IsPastSum}
use Rattle.polynomials.proofs.Same.{same_append}
use Rattle.polynomials.proofs.Weight.{weight-pos, weight-append, weight-front, weight-part}
use Rattle.polynomials.proofs.Weight.{weight_of_polynomial}

pub parts_at : {X A : Type 0} (f : X → List ℕ × A) (ts front back : List X) (n : ℕ)
    → front ≡ take n ts → back ≡ drop n ts → map f front ++ map f back ≡ map f ts
parts_at f ts front back n e h = sym (map-append f front back)
    ∙ ap (map f) (ap₂ ◌++◌ e h ∙ take-append-drop _ ts)

pub parts : {X A : Type 0} (f : X → List ℕ × A) (ts front back : List X)
    → front ≡ take (length ts / 2) ts → back ≡ drop (length ts / 2) ts → map f front ++ map f back
    ≡ map f ts
parts f ts front back e h = parts_at f ts front back _ e h

module _ (S : Scalars) where
  pub same_trans : (p q s : Terms S.Elem) → Same S.arithmetic p q → Same S.arithmetic q s
      → Same S.arithmetic p s
  same_trans p q s h k = record { at = λ e. h.at e ∙ k.at e }

  module _ (r : IsRing S.arithmetic) where
    pub sum_halves : (ts front back p q s : Terms S.Elem) → front ++ back ≡ ts
        → Same S.arithmetic p front → Same S.arithmetic q back → Same S.arithmetic s (p ++ q)
        → Same S.arithmetic s ts
    sum_halves ts front back p q s e h k sum = subst (λ (zs : Terms S.Elem). Same S.arithmetic s zs)
        e (same_trans s (p ++ q) (front ++ back) sum (same_append (ring_of S.arithmetic r) h k))

    module _ (z : IsBounded S.arithmetic S.size) where
      pub past_front : (ts front back : Terms S.Elem) → front ++ back ≡ ts
          → IsPast (weight S.size front) → IsPast (weight S.size ts)
      past_front ts front back e past =
          subst (λ (zs : Terms S.Elem). IsPast (weight S.size zs)) e
          (past_under (weight S.size front) (weight S.size (front ++ back))
          (weight-pos (ring_of S.arithmetic r) S.size z (front ++ back))
          (weight-front (ring_of S.arithmetic r) S.size z front back) past)

      pub past_back : (ts front back : Terms S.Elem) → front ++ back ≡ ts
          → IsPast (weight S.size back) → IsPast (weight S.size ts)
      past_back ts front back e past =
          subst (λ (zs : Terms S.Elem). IsPast (weight S.size zs)) e
          (past_under (weight S.size back) (weight S.size (front ++ back))
          (weight-pos (ring_of S.arithmetic r) S.size z (front ++ back))
          (weight-part (ring_of S.arithmetic r) S.size z front back) past)

      pub past_halves : (O O' : Rank) (o : IsMonomialOrder O) (o' : IsMonomialOrder O') (m m' : ℕ)
          (ts front back p q : Terms S.Elem) → front ++ back ≡ ts
          → IsPolynomial S.arithmetic O m p → IsPolynomial S.arithmetic O' m' q
          → Same S.arithmetic p front → Same S.arithmetic q back → IsPastSum S p q
          → IsPast (weight S.size ts)
      past_halves O O' o o' m m' ts front back p q e x y h k past =
          let f = weight-pos (ring_of S.arithmetic r) S.size z front in
          let b = weight-pos (ring_of S.arithmetic r) S.size z back in
          subst (λ (zs : Terms S.Elem). IsPast (weight S.size zs)) e
          (subst IsPast (sym (weight-append (ring_of S.arithmetic r) S.size z front back))
          (past_under (sum_size (weight S.size p) (weight S.size q)) (sum_size (weight S.size front)
          (weight S.size back)) (lcm-pos (weight S.size front).den (weight S.size back).den
          f b)
          (under-sum (weight S.size p) (weight S.size q) (weight S.size front) (weight S.size back)
          (weight-pos (ring_of S.arithmetic r) S.size z p)
          (weight-pos (ring_of S.arithmetic r) S.size z q) f b
          (weight_of_polynomial (ring_of S.arithmetic r) S.size z O o m p front x h)
          (weight_of_polynomial (ring_of S.arithmetic r) S.size z O' o' m' q back y k)) past))
