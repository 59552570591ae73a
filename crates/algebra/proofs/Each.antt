-- Lemmas of `Each P xs`.
--   each-append       of the one list behind the other; each-left, each-right: back
--   each-drop         of what is left of a list
--   each-map          of an image
--   each_of           where P holds of all that there is
--   each_weaker       where each fact gives another
--   each_prop         two proofs of it are one, where those of P are
--   map_same          functions that agree on the elements have one image
use Rattle.std.proofs.Common.{ℕ, zero, suc, List, [], ◌∷◌, ◌++◌, drop, map, ◌≡◌, refl, ap₂}
use Rattle.algebra.specs.Each.{Each}

module _ {A : Type 0} where
  pub each-append : (P : A → Type 0) (xs ys : List A) → Each P xs → Each P ys → Each P (xs ++ ys)
  unfolding Each
  each-append P [] ys h k = k
  each-append P (x ∷ xs) ys h k = (h.0, each-append P xs ys h.1 k)

  pub each-left : (P : A → Type 0) (xs ys : List A) → Each P (xs ++ ys) → Each P xs
  unfolding Each
  each-left P [] ys h = tt
  each-left P (x ∷ xs) ys h = (h.0, each-left P xs ys h.1)

  pub each-right : (P : A → Type 0) (xs ys : List A) → Each P (xs ++ ys) → Each P ys
  unfolding Each
  each-right P [] ys h = h
  each-right P (x ∷ xs) ys h = each-right P xs ys h.1

  pub each-drop : (P : A → Type 0) (k : ℕ) (xs : List A) → Each P xs → Each P (drop k xs)
  unfolding Each
  each-drop P zero xs h = h
  each-drop P (suc k) [] h = tt
  each-drop P (suc k) (x ∷ xs) h = each-drop P k xs h.1

  pub each_weaker : (P Q : A → Type 0) → ((x : A) → P x → Q x) → (xs : List A) → Each P xs
      → Each Q xs
  unfolding Each
  each_weaker P Q f [] h = tt
  each_weaker P Q f (x ∷ xs) h = (f x h.0, each_weaker P Q f xs h.1)

  pub each_of : (P : A → Type 0) → ((x : A) → P x) → (xs : List A) → Each P xs
  unfolding Each
  each_of P f [] = tt
  each_of P f (x ∷ xs) = (f x, each_of P f xs)

  pub each_prop : (P : A → Type 0) → ((x : A) → IsProp (P x)) → (xs : List A) → IsProp (Each P xs)
  unfolding Each
  each_prop P f [] = hlevel
  each_prop P f (x ∷ xs) = hlevel (f, each_prop P f xs)

module _ {A B : Type 0} where
  pub each-map : (P : B → Type 0) (f : A → B) (xs : List A) → Each (λ x. P (f x)) xs
      → Each P (map f xs)
  unfolding Each
  each-map P f [] h = tt
  each-map P f (x ∷ xs) h = (h.0, each-map P f xs h.1)

pub map_same : {A B : Type 0} (f g : A → B) (xs : List A) → Each (λ x. f x ≡ g x) xs
    → map f xs ≡ map g xs
unfolding Each
map_same f g [] h = refl
map_same f g (x ∷ xs) h = ap₂ ◌∷◌ h.0 (map_same f g xs h.1)
