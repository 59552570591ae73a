-- Numbers that are congruent modulo a number.
--   quotient_of, congruent_quotient     what the multiple is, and what the difference is a multiple by
--   congruent_from             numbers that differ by a multiple
--   congruent_trans            by a number between
--   congruent_cancel           what has an inverse cancels
--   pivot_same, pivot_part     what is congruent to a number with an inverse has one, and each of its factors
--   same_below                 what differs by less than the modulus is the same
use Rattle.std.proofs.Common.{◌≡◌, ℕ, zero, suc, ◌+◌, ◌<◌, ℤ, pos, negsuc, ◌+ℤ◌, ◌*ℤ◌, neg_ℤ, unsigned_abs, List, [], ◌∷◌, refl, sym, subst, ◌∙◌, arith}
use native.Mathlib.Nat as N
use borrow.Author.Differences.{ints}
use Rattle.algebra.specs.Ring.{CommRing, operations}
use Rattle.algebra.proofs.IntRing.{ℤ_ring}
use Rattle.algebra.proofs.RingLaws.{mul-zero}
use Rattle.algebra.proofs.RingSolver.{ring, ring_rules, from}
use Rattle.polynomials.specs.Terms.{sum_of_products}
use Rattle.ideals.proofs.Ideal.{in_ideal_same, in_ideal_add, in_ideal_mul, in_ideal_neg, in_ideal_head}
use Rattle.closures.specs.Modulo.{IsMultiple, AreCongruent, HasPivot}

module _ {A : Type 0} (R : CommRing A) where
  open R use {zero as 𝟘, one as 𝟙, add as ◌⊕◌, mul as ◌⊗◌, neg}

  infixl 60 ◌⊕◌
  infixl 70 ◌⊗◌
  through : (x y z : A) → x ⊕ neg z ≡ (x ⊕ neg y) ⊕ (y ⊕ neg z)
  through x y z = ring R (x ∷ y ∷ z ∷ []) (search ring_rules depth 40) refl

  cancelled : (b i x y : A)
      → x ⊕ neg y ≡ i ⊗ (b ⊗ x ⊕ neg (b ⊗ y)) ⊕ neg ((x ⊕ neg y) ⊗ (b ⊗ i ⊕ neg 𝟙))
  cancelled b i x y = ring R (b ∷ i ∷ x ∷ y ∷ []) (search ring_rules depth 40) refl

  same_inverse : (a b i : A)
      → b ⊗ i ⊕ neg 𝟙 ≡ (a ⊗ i ⊕ neg 𝟙) ⊕ neg (i ⊗ (a ⊕ neg b))
  same_inverse a b i = ring R (a ∷ b ∷ i ∷ []) (search ring_rules depth 40) refl

  other_factor : (a b i : A) → (a ⊗ b) ⊗ i ≡ b ⊗ (a ⊗ i)
  other_factor a b i = ring R (a ∷ b ∷ i ∷ []) (search ring_rules depth 40) refl

  left_over : (x y c q : A) → x ≡ y ⊕ c ⊗ q → x ⊕ neg y ≡ c ⊗ q
  left_over x y c q e = from R e (ring R (x ∷ y ∷ c ∷ q ∷ []) (search ring_rules depth 40) refl)

  put_back : (x y c q : A) → x ⊕ neg y ≡ q ⊗ c → x ≡ y ⊕ c ⊗ q
  put_back x y c q e = from R e (ring R (x ∷ y ∷ c ∷ q ∷ []) (search ring_rules depth 40) refl)

pub quotient_of : (q x : ℤ) → IsMultiple q x → (y : ℤ) × (x ≡ q *ℤ y)
unfolding sum_of_products
quotient_of q x i = go i.cofactors i.is
  where
    go : (cs : List ℤ) → x ≡ sum_of_products (operations ℤ_ring) cs (q ∷ [])
        → (y : ℤ) × (x ≡ q *ℤ y)
    go [] e = (pos 0, e ∙ sym (mul-zero ℤ_ring q))
    go (c ∷ []) e = (c, e ∙ ℤ_ring.add-zero (c *ℤ q) ∙ ℤ_ring.mul_comm c q)
    go (c ∷ d ∷ cs) e = (c, e ∙ ℤ_ring.add-zero (c *ℤ q) ∙ ℤ_ring.mul_comm c q)

module _ (q : ℤ) where
  pub congruent_quotient : (x y : ℤ) → AreCongruent q x y → (c : ℤ) × (x ≡ y +ℤ c *ℤ q)
  congruent_quotient x y h =
      let (c, e) = quotient_of q (x +ℤ neg_ℤ y) h.difference in
      (c, put_back ℤ_ring x y c q e)

  pub congruent_from : (x y c : ℤ) → x ≡ y +ℤ c *ℤ q → AreCongruent q x y
  congruent_from x y c e = record {
    difference = in_ideal_same ℤ_ring (left_over ℤ_ring x y c q e)
        (in_ideal_mul ℤ_ring c (in_ideal_head ℤ_ring));
  }

  pub congruent_trans : (x y z : ℤ) → AreCongruent q x y → AreCongruent q y z
      → AreCongruent q x z
  congruent_trans x y z h k = record {
    difference = in_ideal_same ℤ_ring (through ℤ_ring x y z)
        (in_ideal_add ℤ_ring h.difference k.difference);
  }

  pub congruent_cancel : (b i x y : ℤ) → AreCongruent q (b *ℤ i) (pos 1)
      → AreCongruent q (b *ℤ x) (b *ℤ y) → AreCongruent q x y
  congruent_cancel b i x y p h = record {
    difference = in_ideal_same ℤ_ring (cancelled ℤ_ring b i x y)
        (in_ideal_add ℤ_ring (in_ideal_mul ℤ_ring i h.difference)
        (in_ideal_neg ℤ_ring (in_ideal_mul ℤ_ring (x +ℤ neg_ℤ y) p.difference)));
  }

  pub pivot_same : (a b : ℤ) → AreCongruent q a b → HasPivot q a → HasPivot q b
  pivot_same a b h p = record {
    inverse = p.inverse;
    is = record {
      difference = in_ideal_same ℤ_ring (same_inverse ℤ_ring a b p.inverse)
          (in_ideal_add ℤ_ring p.is.difference
          (in_ideal_neg ℤ_ring (in_ideal_mul ℤ_ring p.inverse h.difference)));
    };
  }

  pub pivot_part : (a b : ℤ) → HasPivot q (a *ℤ b) → HasPivot q b
  pivot_part a b p = record {
    inverse = a *ℤ p.inverse;
    is = subst (λ x. AreCongruent q x (pos 1)) (other_factor ℤ_ring a b p.inverse) p.is;
  }

-- numbers that differ by less than the modulus
pub same_below : (q : ℕ) (x y : ℤ) → unsigned_abs x + unsigned_abs y < q
    → AreCongruent (pos q) x y → x ≡ y
same_below q x y l h = let (c, e) = congruent_quotient (pos q) x y h in go c e
  where
    go : (c : ℤ) → x ≡ y +ℤ c *ℤ pos q → x ≡ y
    go (pos zero) e = omega (arith, ints)
    go (pos (suc k)) e = absurd (omega (arith, ints, N.suc-mul k q))
    go (negsuc k) e = absurd (omega (arith, ints, N.suc-mul k q))
