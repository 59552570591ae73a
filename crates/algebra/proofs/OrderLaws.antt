-- What follows from the laws of an ordered ring.
--   less_cancel, mul_positive     factors above zero
--   less_alike, less_chain, less_sum, less_product     fractions as cross products: of the same fraction, one after the other, and sums and products
--   three                         the cases of a total order
use Rattle.std.proofs.Common.{◌≡◌, ◌⊎◌, inl, inr, T, [], ◌∷◌, refl, ap, subst, ◌∙◌}
use Rattle.algebra.specs.Ring.{OrderedRing}
use Rattle.algebra.proofs.RingLaws as L
use Rattle.algebra.proofs.RingSolver.{ring_rules, ring}

pub three {ℓ} : {A B C : Type 0} {X : Type ℓ} → A ⊎ B ⊎ C → (A → X) → (B → X) → (C → X) → X
three (inl a) f g h = f a
three (inr (inl b)) f g h = g b
three (inr (inr c)) f g h = h c

module _ {A : Type 0} (O : OrderedRing A) where
  open O use {ring as R, zero as 𝟘, one as 𝟙, add, mul, neg}

  abbrev pub Less : A → A → Type 0
  Less a b = T (O.less a b)

  infixl 6 ◌+'◌
  abbrev ◌+'◌ : A → A → A
  a +' b = add a b

  infixl 7 ◌*'◌
  abbrev ◌*'◌ : A → A → A
  a *' b = mul a b

  pub less_same : (a b c d : A) → a ≡ c → b ≡ d → Less a b → Less c d
  less_same a b c d e f h = subst (λ x. Less x d) e (subst (λ x. Less a x) f h)

  pub less_cancel : (a b c : A) → Less 𝟘 c → Less (a *' c) (b *' c) → Less a b
  less_cancel a b c some h = three (O.total a b) (λ l. l)
      (λ e. absurd (O.irreflexive (b *' c) (subst (λ x. Less (x *' c) (b *' c)) e h)))
      (λ g. absurd (O.irreflexive (a *' c) (O.transitive (a *' c) (b *' c) (a *' c) h
      (O.less-mul b a c some g))))

  pub mul_positive : (a b : A) → Less 𝟘 a → Less 𝟘 b → Less 𝟘 (a *' b)
  mul_positive a b h g = less_same (𝟘 *' b) (a *' b) 𝟘 (a *' b) (L.zero-mul R b) refl
      (O.less-mul 𝟘 a b g h)

  -- fractions by cross products: the order does not change with the pairs of a fraction
  last_first : (a b c d : A) → a *' b *' (c *' d) ≡ a *' d *' (b *' c)
  last_first a b c d = ring R (a ∷ b ∷ c ∷ d ∷ []) (search ring_rules depth 30) refl

  last_first' : (a b c d : A) → a *' b *' (c *' d) ≡ a *' d *' (c *' b)
  last_first' a b c d = ring R (a ∷ b ∷ c ∷ d ∷ []) (search ring_rules depth 30) refl

  pub less_alike : (n d m e n' d' m' e' : A) → Less 𝟘 d → Less 𝟘 e → Less 𝟘 d' → Less 𝟘 e'
      → n *' d' ≡ n' *' d → m *' e' ≡ m' *' e → Less (n *' e) (m *' d) → Less (n' *' e') (m' *' d')
  less_alike n d m e n' d' m' e' hd he hd' he' p q h =
      less_cancel (n' *' e') (m' *' d') (d *' e) (mul_positive d e hd he)
      (less_same (n *' e *' (d' *' e')) (m *' d *' (d' *' e')) (n' *' e' *' (d *' e))
      (m' *' d' *' (d *' e))
      (L.mul_swap R n e d' e' ∙ ap (λ x. x *' (e *' e')) p ∙ last_first n' d e e')
      (last_first m d d' e' ∙ ap (λ x. x *' (d *' d')) q ∙ last_first' m' e d d')
      (O.less-mul (n *' e) (m *' d) (d' *' e') (mul_positive d' e' hd' he') h))

  pub less_chain : (n d m e k f : A) → Less 𝟘 d → Less 𝟘 e → Less 𝟘 f → Less (n *' e) (m *' d)
      → Less (m *' f) (k *' e) → Less (n *' f) (k *' d)
  less_chain n d m e k f hd he hf h g =
      less_cancel (n *' f) (k *' d) e he
      (O.transitive (n *' f *' e) (m *' d *' f) (k *' d *' e)
      (less_same (n *' e *' f) (m *' d *' f) (n *' f *' e) (m *' d *' f) (L.mul_right_comm R n e f)
      refl (O.less-mul (n *' e) (m *' d) f hf h))
      (less_same (m *' f *' d) (k *' e *' d) (m *' d *' f) (k *' d *' e) (L.mul_right_comm R m f d)
      (L.mul_right_comm R k e d) (O.less-mul (m *' f) (k *' e) d hd g)))

  sum_left : (n d e k f : A) → n *' e *' (f *' f) +' k *' d *' (e *' f) ≡ (n *' f +' k *' d) *'
      (e *' f)
  sum_left a b c d e = ring R (a ∷ b ∷ c ∷ d ∷ e ∷ []) (search ring_rules depth 30) refl

  sum_right : (m d e k f : A) → m *' d *' (f *' f) +' k *' d *' (e *' f) ≡ (m *' f +' k *' e) *'
      (d *' f)
  sum_right a b c d e = ring R (a ∷ b ∷ c ∷ d ∷ e ∷ []) (search ring_rules depth 30) refl

  pub less_sum : (n d m e k f : A) → Less 𝟘 f → Less (n *' e) (m *' d)
      → Less ((n *' f +' k *' d) *' (e *' f)) ((m *' f +' k *' e) *' (d *' f))
  less_sum n d m e k f hf h =
      less_same _ _ _ _ (sum_left n d e k f) (sum_right m d e k f)
      (O.less-add (n *' e *' (f *' f)) (m *' d *' (f *' f)) (k *' d *' (e *' f))
      (O.less-mul (n *' e) (m *' d) (f *' f) (mul_positive f f hf hf) h))

  pub less_product : (n d m e k f : A) → Less 𝟘 k → Less 𝟘 f → Less (n *' e) (m *' d)
      → Less (n *' k *' (e *' f)) (m *' k *' (d *' f))
  less_product n d m e k f hk hf h = less_same (n *' e *' (k *' f)) (m *' d *' (k *' f))
      (n *' k *' (e *' f)) (m *' k *' (d *' f)) (L.mul_swap R n e k f) (L.mul_swap R m d k f)
      (O.less-mul (n *' e) (m *' d) (k *' f) (mul_positive k f hk hf) h)
