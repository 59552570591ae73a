-- Lemmas of `In x xs`.
--   each_in, each_from       a fact of each item of a list, and of whatever is in it
--   in_left, in_right, in_either, in_push     one list before another, and before one item
--   map-in, in_map           an image is in the list of images, and what is in it is one
--   in_get, in_place         what stands at a place is in the list, and what is in it stands at a place
use Rattle.std.proofs.Common.{◌≡◌, ◌⊎◌, inl, inr, ℕ, zero, suc, ◌<◌, List, [], ◌∷◌, ◌++◌, map, get_or, length, refl, sym, ap, subst, arith}
use Rattle.algebra.specs.Each.{Each}
use Rattle.algebra.specs.In.{In}

module _ {X : Type 0} where
  pub each_in : (P : X → Type 0) (xs : List X) (x : X) → Each P xs → In x xs → P x
  unfolding Each
  each_in P [] x p i = absurd i
  each_in P (y ∷ ys) x p i = elim i [ inl e ↦ subst P (sym e) p.0 | inr j ↦ each_in P ys x p.1 j ]

  pub each_from : {P : X → Type 0} (xs : List X) → ((x : X) → In x xs → P x) → Each P xs
  unfolding Each
  each_from [] h = tt
  each_from (x ∷ xs) h = (h x (inl refl), each_from xs (λ y i. h y (inr i)))

  pub in_left : (x : X) (xs ys : List X) → In x xs → In x (xs ++ ys)
  in_left x [] ys i = absurd i
  in_left x (y ∷ xs) ys (inl e) = inl e
  in_left x (y ∷ xs) ys (inr i) = inr (in_left x xs ys i)

  pub in_right : (x : X) (xs ys : List X) → In x ys → In x (xs ++ ys)
  in_right x [] ys i = i
  in_right x (y ∷ xs) ys i = inr (in_right x xs ys i)

  pub in_either : (x : X) (xs ys : List X) → In x (xs ++ ys) → In x xs ⊎ In x ys
  in_either x [] ys i = inr i
  in_either x (y ∷ xs) ys (inl e) = inl (inl e)
  in_either x (y ∷ xs) ys (inr i) = elim (in_either x xs ys i) [
    | inl j ↦ inl (inr j)
    | inr j
        ↦ inr j
  ]

  pub in_push : (xs : List X) (y x : X) → In x (xs ++ y ∷ []) → In x xs ⊎ (x ≡ y)
  in_push xs y x i = elim (in_either x xs (y ∷ []) i) [
    | inl j ↦ inl j
    | inr j
        ↦ elim j [ inl e ↦ inr e | inr n ↦ absurd n ]
  ]

  pub in_get : (xs : List X) (j : ℕ) (d : X) → j < length xs → In (get_or xs j d) xs
  in_get [] j d l = absurd (omega (arith, l))
  in_get (x ∷ xs) zero d l = inl refl
  in_get (x ∷ xs) (suc j) d l = inr (in_get xs j d (omega (arith, l)))

  pub in_place : (xs : List X) (d x : X) → In x xs → (j : ℕ) × (j < length xs) × (get_or xs j d ≡ x)
  in_place [] d x i = absurd i
  in_place (y ∷ ys) d x (inl e) = (0, omega arith, sym e)
  in_place (y ∷ ys) d x (inr i) = let (j, l, e) = in_place ys d x i in (suc j, omega (arith, l), e)

module _ {X Y : Type 0} (f : X → Y) where
  pub map-in : (xs : List X) (x : X) → In x xs → In (f x) (map f xs)
  map-in [] x i = absurd i
  map-in (y ∷ ys) x i = elim i [ inl e ↦ inl (ap f e) | inr j ↦ inr (map-in ys x j) ]

  pub in_map : (xs : List X) (y : Y) → In y (map f xs) → (x : X) × In x xs × (y ≡ f x)
  in_map [] y i = absurd i
  in_map (x ∷ xs) y (inl e) = (x, inl refl, e)
  in_map (x ∷ xs) y (inr i) = let (z, j, e) = in_map xs y i in (z, inr j, e)
