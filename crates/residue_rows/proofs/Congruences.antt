-- Products and sums that are computed modulo a number, factor by factor and summand by summand.
--   product_goes, product_ends          what is done, times what is left, is the product
--   sum_begins, sum_goes, sum_ends      so with sums
use Rattle.std.proofs.Common.{◌≡◌, ℤ, pos, ◌+ℤ◌, ◌*ℤ◌, [], ◌∷◌, refl, sym, ap, ◌∙◌}
use Rattle.algebra.proofs.IntRing.{ℤ_ring}
use Rattle.algebra.proofs.RingLaws.{zero-add}
use Rattle.ideals.proofs.Congruence.{congruent_refl, congruent_same, congruent_add, congruent_mul}
use Rattle.closures.specs.Modulo.{AreCongruent}
use Rattle.closures.proofs.Congruent.{congruent_trans}

module _ (q : ℤ) where
  pub product_goes : (t u x y w : ℤ) → AreCongruent q u (t *ℤ x)
      → AreCongruent q (t *ℤ (x *ℤ y)) w → AreCongruent q (u *ℤ y) w
  product_goes t u x y w h k =
      congruent_trans q (u *ℤ y) (t *ℤ (x *ℤ y)) w
      (congruent_same ℤ_ring (q ∷ []) refl (sym (ℤ_ring.mul_assoc t x y))
      (congruent_mul ℤ_ring (q ∷ []) u (t *ℤ x) y y h (congruent_refl ℤ_ring (q ∷ []) y))) k

  pub product_ends : (t w : ℤ) → AreCongruent q (t *ℤ pos 1) w → AreCongruent q t w
  product_ends t w h = congruent_same ℤ_ring (q ∷ []) (sym (ℤ_ring.mul-one t)) refl h

  pub sum_begins : {t : ℤ} (w : ℤ) → t ≡ pos 0 → AreCongruent q (t +ℤ w) w
  sum_begins w e =
      congruent_same ℤ_ring (q ∷ []) (ap (λ s. s +ℤ w) e ∙ zero-add ℤ_ring w) refl
      (congruent_refl ℤ_ring (q ∷ []) w)

  pub sum_goes : (t u x y w : ℤ) → AreCongruent q u (t +ℤ x)
      → AreCongruent q (t +ℤ (x +ℤ y)) w → AreCongruent q (u +ℤ y) w
  sum_goes t u x y w h k =
      congruent_trans q (u +ℤ y) (t +ℤ (x +ℤ y)) w
      (congruent_same ℤ_ring (q ∷ []) refl (sym (ℤ_ring.add_assoc t x y))
      (congruent_add ℤ_ring (q ∷ []) u (t +ℤ x) y y h (congruent_refl ℤ_ring (q ∷ []) y))) k

  pub sum_ends : (t w : ℤ) → AreCongruent q (t +ℤ pos 0) w → AreCongruent q t w
  sum_ends t w h = congruent_same ℤ_ring (q ∷ []) (sym (ℤ_ring.add-zero t)) refl h
