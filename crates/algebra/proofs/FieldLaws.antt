-- What follows from the laws of a field.
--   dec_zero, discrete     being zero, and being the same, are decided
--   cancel                 a factor that is not zero cancels
--   no_zero_divisors       where a product is zero, one factor is; product-ne-zero: a product of elements that aren't zero isn't zero
--   inverse-ne-zero        the inverse of one that isn't zero isn't zero
use Rattle.std.proofs.Common.{◌≡◌, ◌≢◌, ◌⊎◌, inl, inr, Bool, true, false, [], ◌∷◌, refl, sym, ap, ◌∙◌}
use mathlib.Core.HLevel.{Discrete}
use Rattle.algebra.specs.Ring.{Field}
use Rattle.algebra.proofs.RingLaws as L
use Rattle.algebra.proofs.RingSolver.{ring_rules, ring, from_two}

module _ {A : Type 0} (F : Field A) where
  open F use {ring as R, zero as 𝟘, add, mul, neg, inverse}

  pub dec_zero : (a : A) → Dec (a ≡ 𝟘)
  dec_zero a = go (F.is_zero a) refl
    where
      go : (b : Bool) → F.is_zero a ≡ b → Dec (a ≡ 𝟘)
      go true h = yes (F.is_zero_true a h)
      go false h = no (λ e. let f : false ≡ true = sym h ∙ ap F.is_zero e ∙ F.is_zero-zero in cc)

  pub discrete : Discrete A
  discrete a b = elim (dec_zero (add a (neg b))) [
    | yes h ↦ yes (L.eq_of_sub R a b h)
    | no f
        ↦ no (λ e. f (ap (λ x. add x (neg b)) e ∙ R.add-neg b))
  ]

  pub cancel : (a b c : A) → c ≢ 𝟘 → mul a c ≡ mul b c → a ≡ b
  cancel a b c ne h = from_two R (inverse c) h (add b (neg a)) (F.mul-inverse c ne)
      (ring R (a ∷ b ∷ c ∷ inverse c ∷ []) (search ring_rules depth 40) refl)

  pub no_zero_divisors : (a b : A) → mul a b ≡ 𝟘 → (a ≡ 𝟘) ⊎ (b ≡ 𝟘)
  no_zero_divisors a b h = elim (dec_zero b) [
    | yes e ↦ inr e
    | no ne
        ↦ inl (cancel a 𝟘 b ne (h ∙ sym (L.zero-mul R b)))
  ]

  pub product-ne-zero : (a b : A) → a ≢ 𝟘 → b ≢ 𝟘 → mul a b ≢ 𝟘
  product-ne-zero a b p q h = elim (no_zero_divisors a b h) [ inl e ↦ p e | inr e ↦ q e ]

  pub inverse-ne-zero : (a : A) → a ≢ 𝟘 → inverse a ≢ 𝟘
  inverse-ne-zero a ne e = F.one-ne-zero (sym (F.mul-inverse a ne) ∙ ap (mul a) e ∙ L.mul-zero R a)
