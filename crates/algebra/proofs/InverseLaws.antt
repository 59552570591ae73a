-- What follows from inverses in a commutative ring.
--   mul-inverse_left      the inverse on the left
--   zero_of_mul           a factor of zero beside another that is not zero
--   mul-inverse-mul       a over b, times b
use Rattle.std.proofs.Common.{◌≡◌, sym, ap, ◌∙◌}
use Rattle.algebra.specs.Ring.{CommRing, Inverses}
use Rattle.algebra.proofs.RingLaws.{zero-mul}

module _ {A : Type 0} {R : CommRing A} (F : Inverses R) where
  open R use {zero, one, mul as ◌⊗◌}

  infixl 70 ◌⊗◌
  pub mul-inverse_left : (a : A) → (a ≡ zero → ⊥) → F.inverse a ⊗ a ≡ one
  mul-inverse_left a n = R.mul_comm _ _ ∙ F.mul-inverse a n

  pub zero_of_mul : (a b : A) → a ⊗ b ≡ zero → (b ≡ zero → ⊥) → a ≡ zero
  zero_of_mul a b e n = sym (R.mul-one a) ∙ ap (λ x. a ⊗ x) (sym (F.mul-inverse b n))
      ∙ sym (R.mul_assoc _ _ _) ∙ ap (λ x. x ⊗ F.inverse b) e ∙ zero-mul R _

  pub mul-inverse-mul : (a b : A) → (b ≡ zero → ⊥) → a ⊗ F.inverse b ⊗ b ≡ a
  mul-inverse-mul a b n = R.mul_assoc _ _ _ ∙ ap (λ x. a ⊗ x) (mul-inverse_left b n) ∙ R.mul-one a
