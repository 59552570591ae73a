-- Products of polynomials whose denominators are cleared.
--   undone           what undoes the product of two units
--   product_cleared  the product of two multiples, divided by what they were multiplied with
use Rattle.std.proofs.Common.{◌≡◌, ℕ, [], ◌∷◌, refl, sym, ap, ap₂, ◌∙◌}
use Rattle.algebra.specs.Ring.{CommRing, IsRing, ring as ring_of}
use Rattle.algebra.proofs.RingLaws.{one-mul}
use Rattle.algebra.proofs.RingSolver.{ring, ring_rules}
use Rattle.algebra.specs.Scalars.{Scalars}
use Rattle.polynomials.specs.Terms.{Terms, Same, constant, times}
use Rattle.polynomials.specs.Polynomial.{Arity}
use Rattle.polynomials.proofs.Arity.{arity-times}
use Rattle.polynomials.proofs.Poly.{Poly, poly, poly_ring, poly_constant, poly_same, poly-times, poly-constant, same_from_poly}

-- (u v)(u' v') = (u u')(v v')
apart : {A : Type 0} (R : CommRing A) (u v u' v' : A) → R.mul (R.mul u v) (R.mul u' v')
    ≡ R.mul (R.mul u u') (R.mul v v')
apart R u v u' v' = ring R (u ∷ v ∷ u' ∷ v' ∷ []) (search ring_rules depth 40) refl

-- w ((u p) (v q)) = ((u v) w) (p q)
gathered : {A : Type 0} (R : CommRing A) (u v w p q : A) → R.mul w (R.mul (R.mul u p) (R.mul v q))
    ≡ R.mul (R.mul (R.mul u v) w) (R.mul p q)
gathered R u v w p q = ring R (u ∷ v ∷ w ∷ p ∷ q ∷ []) (search ring_rules depth 40) refl

module _ (S : Scalars) (r : IsRing S.arithmetic) where
  abbrev R : CommRing S.Elem
  R = ring_of S.arithmetic r

  pub undone : (u u' v v' w : S.Elem) → S.mul u u' ≡ S.one → S.mul v v' ≡ S.one → w ≡ S.mul u' v'
      → S.mul (S.mul u v) w ≡ S.one
  undone u u' v v' w e f is = ap (S.mul (S.mul u v)) is ∙ apart R u v u' v' ∙ ap₂ S.mul e f
      ∙ r.mul-one S.one

  module _ (m : ℕ) where
    abbrev P : CommRing (Poly m R)
    P = poly_ring m R

    abbrev Product : S.Elem → Terms S.Elem → Terms S.Elem → Type 0
    Product c p x = Same S.arithmetic x (times S.arithmetic (constant m c) p)

    abbrev number : S.Elem → Poly m R
    number c = (poly_constant m R).to c

    scaled : (c : S.Elem) (p x : Terms S.Elem) → Product c p x
        → poly m R x ≡ P.mul (number c) (poly m R p)
    scaled c p x h = poly_same m R h ∙ poly-times m R (constant m c) p
        ∙ ap (λ z. P.mul z (poly m R p)) (poly-constant m R m c)

    numbers_undone : (u v w : S.Elem) → S.mul (S.mul u v) w ≡ S.one
        → P.mul (P.mul (number u) (number v)) (number w) ≡ P.one
    numbers_undone u v w e =
        let to = poly_constant m R in
        ap (λ k. P.mul k (number w)) (sym (to.to-mul u v)) ∙ sym (to.to-mul (S.mul u v) w)
        ∙ ap to.to e ∙ to.to-one

    pub product_cleared : (u v w : S.Elem) (p q x y z s : Terms S.Elem)
        → S.mul (S.mul u v) w ≡ S.one → Arity m p → Arity m q → Arity m s
        → Product u p x → Product v q y → Same S.arithmetic z (times S.arithmetic x y)
        → Product w z s → Same S.arithmetic s (times S.arithmetic p q)
    product_cleared u v w p q x y z s e ip iq is hx hy hz hs =
        same_from_poly m R s (times S.arithmetic p q) is (arity-times m S.arithmetic p q ip iq)
        (scaled w z s hs
        ∙ ap (P.mul (number w)) (poly_same m R hz ∙ poly-times m R x y
        ∙ ap₂ P.mul (scaled u p x hx) (scaled v q y hy))
        ∙ gathered P (number u) (number v) (number w) (poly m R p) (poly m R q)
        ∙ ap (λ k. P.mul k (P.mul (poly m R p) (poly m R q))) (numbers_undone u v w e)
        ∙ one-mul P _
        ∙ sym (poly-times m R p q))
