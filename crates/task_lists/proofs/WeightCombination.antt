-- The weight of a combination.
--   weight-combination     the weight of its list is under the sum of the products of the weights
--   past_combination       where the sum of its first places and one product more, each collected, is past, so is the whole
use Rattle.std.proofs.Common.{◌<◌, ℕ, suc, List, [], ◌∷◌, map, get_or, take, length, arith, sym, subst}
use Rattle.algebra.specs.Ring.{CommRing, IsRing, ring}
use Rattle.algebra.specs.Size.{Size, size, sizes, sum_size, product_size, IsPast, IsUnder}
use Rattle.algebra.specs.Scalars.{Scalars, IsBounded}
use Rattle.algebra.proofs.LcmLaws.{lcm-pos}
use Rattle.algebra.proofs.SizeLaws.{under_refl, under-sum, past_under}
use Rattle.algebra.proofs.ProductSizes.{product_den-pos}
use Rattle.polynomials.specs.Terms.{Terms, Same, times, combination, sum_of_products}
use Rattle.polynomials.specs.Order.{Rank, IsMonomialOrder}
use Rattle.polynomials.specs.Polynomial.{IsPolynomial}
use Rattle.polynomials.specs.Weight.{weight, IsPastSum}
use Rattle.polynomials.proofs.Weight.{weight-pos, weight-append, weight-front, weight-times_product}
use Rattle.polynomials.proofs.Past.{past_parts}
use Rattle.task_lists.proofs.Combinations.{combination-suc, combination-split}

module _ (S : Scalars) (r : IsRing S.arithmetic) (b : IsBounded S.arithmetic S.size) where
  abbrev R : CommRing S.Elem
  R = ring S.arithmetic r

  abbrev W : Terms S.Elem → Size
  W = weight S.size

  abbrev combined : List (Terms S.Elem) → List (Terms S.Elem) → Terms S.Elem
  combined = combination S.arithmetic

  abbrev weights : List (Terms S.Elem) → List (Terms S.Elem) → Size
  weights qs gs = sum_of_products sizes (map W qs) (map W gs)

  pos : (p : Terms S.Elem) → 0 < (W p).den
  pos = weight-pos R S.size b

  product_pos : (q g : Terms S.Elem) → 0 < (product_size (W q) (W g)).den
  product_pos q g = product_den-pos (W q) (W g) (pos q) (pos g)

  weights-pos : (qs gs : List (Terms S.Elem)) → 0 < (weights qs gs).den
  unfolding sum_of_products
  weights-pos [] gs = omega arith
  weights-pos (q ∷ qs) [] = omega arith
  weights-pos (q ∷ qs) (g ∷ gs) = lcm-pos _ _ (product_pos q g) (weights-pos qs gs)

  pub weight-combination : (qs gs : List (Terms S.Elem))
      → IsUnder (W (combined qs gs)) (weights qs gs)
  unfolding combination sum_of_products weight
  weight-combination [] gs = under_refl (size 0 1) (omega arith)
  weight-combination (q ∷ qs) [] = under_refl (size 0 1) (omega arith)
  weight-combination (q ∷ qs) (g ∷ gs) =
      subst (λ s. IsUnder s (sum_size (product_size (W q) (W g)) (weights qs gs)))
      (sym (weight-append R S.size b (times S.arithmetic q g) (combined qs gs)))
      (under-sum (W (times S.arithmetic q g)) (W (combined qs gs)) (product_size (W q) (W g))
      (weights qs gs) (pos _) (pos _) (product_pos q g) (weights-pos qs gs)
      (weight-times_product R S.size b q g) (weight-combination qs gs))

  pub past_combination : (O : Rank) → IsMonomialOrder O → (m : ℕ) (qs gs : List (Terms S.Elem))
      (i : ℕ) (left right : Terms S.Elem) → i < length qs → i < length gs
      → IsPolynomial S.arithmetic O m left → IsPolynomial S.arithmetic O m right
      → Same S.arithmetic left (combined (take i qs) (take i gs))
      → Same S.arithmetic right (times S.arithmetic (get_or qs i []) (get_or gs i []))
      → IsPastSum S left right → IsPast (weights qs gs)
  past_combination O o m qs gs i left right k l hl hr sl sr past =
      past_under (W (combined qs gs)) (weights qs gs) (weights-pos qs gs) (weight-combination qs gs)
      (subst (λ p. IsPast (W p)) (sym (combination-split S.arithmetic qs gs (suc i))) (past_under _
      _ (pos _) (weight-front R S.size b _ _) (subst (λ p. IsPast (W p))
      (sym (combination-suc S.arithmetic qs gs i k l))
      (past_parts S r b O o m left right _ _ hl hr sl sr past))))
