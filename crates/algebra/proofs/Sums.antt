-- Sums over lists in a commutative ring.
--   sum-nil, sum-cons                          how they compute
--   sum-append, sum-add, sum-mul, sum-zero     of lists one after the other, of sums, of multiples, of zeros
--   sum-neg, sum-map                           of opposites, over an image
--   sum_same                                   of functions that agree
--   sum_swap                                   the order of two sums is free
use Rattle.std.proofs.Common.{◌≡◌, List, [], ◌∷◌, ◌++◌, map, refl, sym, ap₂, ◌∙◌}
use Rattle.algebra.specs.Ring.{CommRing, operations}
use Rattle.algebra.specs.Sum.{sum_over}
use Rattle.algebra.proofs.RingLaws.{zero-add, mul-zero, neg-zero, neg-add, add_swap}

module _ {A : Type 0} (R : CommRing A) where
  open R use {zero as 𝟘, add as ◌⊕◌, mul as ◌⊗◌, neg}

  infixl 60 ◌⊕◌
  infixl 70 ◌⊗◌
  pub sum-nil : {X : Type 0} (f : X → A) → sum_over (operations R) f [] ≡ 𝟘
  unfolding sum_over
  sum-nil f = refl

  pub sum-cons : {X : Type 0} (f : X → A) (x : X) (xs : List X) → sum_over (operations R) f (x ∷ xs)
      ≡ f x ⊕ sum_over (operations R) f xs
  unfolding sum_over
  sum-cons f x xs = refl

  pub sum-append : {X : Type 0} (f : X → A) (xs ys : List X) → sum_over (operations R) f (xs ++ ys)
      ≡ sum_over (operations R) f xs ⊕ sum_over (operations R) f ys
  sum-append f [] ys = simp (sum-nil, zero-add R)
  sum-append f (x ∷ xs) ys = simp (sum-cons, sum-append f xs ys, R.add_assoc)

  pub sum-add : {X : Type 0} (f g : X → A) (xs : List X) → sum_over (operations R) (λ x. f x ⊕ g x)
      xs ≡ sum_over (operations R) f xs ⊕ sum_over (operations R) g xs
  sum-add f g [] = simp (sum-nil, R.add-zero)
  sum-add f g (x ∷ xs) = simp (sum-cons, sum-add f g xs) (add_swap R _ _ _ _)

  pub sum-mul : {X : Type 0} (c : A) (f : X → A) (xs : List X)
      → sum_over (operations R) (λ x. c ⊗ f x) xs ≡ c ⊗ sum_over (operations R) f xs
  sum-mul c f [] = simp (sum-nil, mul-zero R)
  sum-mul c f (x ∷ xs) = simp (sum-cons, sum-mul c f xs, R.mul-add)

  pub sum-neg : {X : Type 0} (f : X → A) (xs : List X) → sum_over (operations R) (λ x. neg (f x)) xs
      ≡ neg (sum_over (operations R) f xs)
  sum-neg f [] = simp (sum-nil, neg-zero R)
  sum-neg f (x ∷ xs) = simp (sum-cons, sum-neg f xs, neg-add R)

  pub sum-zero : {X : Type 0} (xs : List X) → sum_over (operations R) (λ x. 𝟘) xs ≡ 𝟘
  sum-zero [] = sum-nil _
  sum-zero (x ∷ xs) = simp (sum-cons, sum-zero xs, R.add-zero)

  pub sum_same : {X : Type 0} (f g : X → A) → ((x : X) → f x ≡ g x) → (xs : List X)
      → sum_over (operations R) f xs ≡ sum_over (operations R) g xs
  sum_same f g h [] = sum-nil f ∙ sym (sum-nil g)
  sum_same f g h (x ∷ xs) = sum-cons f x xs ∙ ap₂ ◌⊕◌ (h x) (sum_same f g h xs)
      ∙ sym (sum-cons g x xs)

  pub sum-map : {X Y : Type 0} (f : Y → A) (g : X → Y) (xs : List X)
      → sum_over (operations R) f (map g xs) ≡ sum_over (operations R) (λ x. f (g x)) xs
  sum-map f g [] = simp sum-nil
  sum-map f g (x ∷ xs) = simp (sum-cons, sum-map f g xs)

  pub sum_swap : {X Y : Type 0} (f : X → Y → A) (xs : List X) (ys : List Y)
      → sum_over (operations R) (λ x. sum_over (operations R) (f x) ys) xs ≡ sum_over (operations R)
      (λ y. sum_over (operations R) (λ x. f x y) xs) ys
  sum_swap f [] ys = simp (sum-nil, sum-zero)
  sum_swap f (x ∷ xs) ys = simp (sum-cons, sum-add, sum_swap f xs ys)
