-- The loop over a combination.
--   product_past, sum_past      where a product or a sum on the way is past, so is the combination
--   image_at, place_in          what an item at a place has, and its terms, in the list
--   polynomial_as               a polynomial of an order and so many variables
use Rattle.std.proofs.Common.{◌≡◌, ℕ, ◌<◌, List, [], get_or, map, take, length, sym, ap, subst, subst₂, ◌∙◌, inl, inr, arith}
use Rattle.std.specs.Prelude.{All}
use Rattle.std.proofs.lemmas.List.{get_or-map, length-map}
use Rattle.std.specs.declared.cmp.PartialEq as PartialEq
use Rattle.algebra.specs.Fraction.{Fraction, ℚ, fractions}
use Rattle.algebra.proofs.Fractions.{fractions_ring}
use Rattle.algebra.proofs.SizeLaws.{fractions_bounded}
use Rattle.polynomials.specs.Order.{Rank, IsMonomialOrder}
use Rattle.polynomials.specs.Polynomial.{IsPolynomial}
use Rattle.polynomials.specs.Terms.{Terms, Same, times, combination}
use Rattle.polynomials.specs.Weight.{IsPastSum, IsPastProduct}
use Rattle.ring_laws.specs.declared.Ring as Ring
use Rattle.monos.specs.declared.order.Order as Order
use Rattle.poly.specs.declared.Poly.{Poly}
use Rattle.poly.specs.Seen.{terms_in, IsImage}
use Rattle.poly.proofs.Standing.{polynomial_over}
use Rattle.task_lists.specs.Past.{IsPastCombination}
use Rattle.task_lists.proofs.WeightCombination.{past_combination}

-- the cofactor and the element at a place
module _ (qs gs : List (Terms Fraction)) (i : ℕ) {c g : Terms Fraction} (l : i < length gs)
    (is : c ≡ get_or qs i []) (at : g ≡ get_or gs i []) where
  pub product_past : IsPastProduct fractions c g → IsPastCombination qs gs
  product_past h = inl (i, l, subst₂ (IsPastProduct fractions) is at h)

  pub sum_past : (O : Rank) → IsMonomialOrder O
      → (m : ℕ) (sum : Terms Fraction) {product : Terms Fraction} → i < length qs
      → IsPolynomial ℚ O m sum → IsPolynomial ℚ O m product
      → Same ℚ sum (combination ℚ (take i qs) (take i gs)) → Same ℚ product (times ℚ c g)
      → IsPastSum fractions sum product → IsPastCombination qs gs
  sum_past O o m sum {product = product} k hs hp s t past =
      inr (past_combination fractions fractions_ring fractions_bounded O o m qs gs i sum product k l
      hs hp s (subst₂ (λ x y. Same ℚ product (times ℚ x y)) is at t) past)

module _ {K O : Type 0} {g : Ring.Ghosts K} {h : PartialEq.Ghosts K} {b : Order.Ghosts O}
    {e : PartialEq.Ghosts O} (o : O) (m : ℕ) where
  pub image_at : (ps : List (Poly K O g h b e)) → All (IsImage o m) ps → (i : ℕ)
      (p : Poly K O g h b e) → i < length ps → p ≡ get_or ps i p → IsImage o m p
  image_at ps a i p l is = subst (IsImage o m) (sym is) (a i p l)

  pub polynomial_as : (p : Poly K O g h b e) → p.order ≡ o → p.arity ≡ m
      → IsPolynomial g.scalars.arithmetic (b.order o) m (terms_in p)
  polynomial_as p is a =
      subst (λ (x : O). IsPolynomial g.scalars.arithmetic (b.order x) m (terms_in p)) is
      (polynomial_over m p a)

pub place_in : {X Y : Type 0} (f : X → List Y) (xs : List X) (i : ℕ) → i < length xs
    → (i < length (map f xs)) × ((x : X) → x ≡ get_or xs i x → f x ≡ get_or (map f xs) i [])
place_in f xs i l = (
  (let s = length-map xs f in omega (arith, l, s)),
  λ x is. ap f is ∙ sym (get_or-map f xs i x [] l),
)

pub at_place : {X : Type 0} (P : X → Type 0) (xs : List X) → All P xs → (i : ℕ) (x : X)
    → i < length xs → x ≡ get_or xs i x → P x
at_place P xs a i x l is = subst P (sym is) (a i x l)
