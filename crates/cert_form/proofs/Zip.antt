-- What lists have in common that are tied place by place.
--   zip_push           such lists grow at the end
--   seen_all           what is seen of each of some, from what each has
--   at_or              what stands at a place, also past the end
--   all_from_left      what each element on the left has
--   zip_get            what two elements at one place are tied by, where those past the end are
--   zip_at             what two elements at one place have, where those past the end have it
use Rattle.std.proofs.Common.{ℕ, zero, suc, List, [], ◌∷◌, ◌++◌, get_or, map}
use Rattle.std.specs.Prelude.{All}
use Rattle.std.specs.List.{AllZip}
use Rattle.std.proofs.lemmas.List.Elements.{All-nil, All-cons, All-head, All-tail, All-map, All-weaker}

pub seen_all : {A B : Type 0} (P : A → Type 0) (Q : B → Type 0) (see : A → B)
    → ((a : A) → P a → Q (see a)) → (xs : List A) → All P xs → All Q (map see xs)
seen_all P Q see has xs h = All-map Q see xs (All-weaker P (λ a. Q (see a)) has xs h)

pub at_or : {A : Type 0} (P : A → Type 0) {d : A} → P d → (xs : List A) → All P xs → (k : ℕ)
    → P (get_or xs k d)
at_or P past [] h k = past
at_or P past (x ∷ xs) h zero = All-head P x xs h
at_or P past (x ∷ xs) h (suc k) = at_or P past xs (All-tail P x xs h) k

module _ {A B : Type 0} (like : A → B → Type 0) where
  pub zip_push : (xs : List A) (ys : List B) (x : A) (y : B) → AllZip like xs ys → like x y
      → AllZip like (xs ++ x ∷ []) (ys ++ y ∷ [])
  zip_push [] [] x y h l = (l, tt)
  zip_push [] (b ∷ ys) x y h l = absurd h
  zip_push (a ∷ xs) [] x y h l = absurd h
  zip_push (a ∷ xs) (b ∷ ys) x y h l = (h.0, zip_push xs ys x y h.1 l)

  pub all_from_left : (P : A → Type 0) → ((x : A) (y : B) → like x y → P x)
      → (xs : List A) (ys : List B) → AllZip like xs ys → All P xs
  all_from_left P has [] [] h = All-nil P
  all_from_left P has [] (y ∷ ys) h = absurd h
  all_from_left P has (x ∷ xs) [] h = absurd h
  all_from_left P has (x ∷ xs) (y ∷ ys) h = All-cons P x xs (has x y h.0)
      (all_from_left P has xs ys h.1)

  pub zip_at : {X : Type 0} (P : X → B → Type 0) (view : A → X) (dx : X) (dy : B)
      → ((x : A) (y : B) → like x y → P (view x) y) → P dx dy
      → (xs : List A) (ys : List B) → AllZip like xs ys → (k : ℕ)
      → P (get_or (map view xs) k dx) (get_or ys k dy)
  zip_at P view dx dy has past [] [] h k = past
  zip_at P view dx dy has past [] (y ∷ ys) h k = absurd h
  zip_at P view dx dy has past (x ∷ xs) [] h k = absurd h
  zip_at P view dx dy has past (x ∷ xs) (y ∷ ys) h zero = has x y h.0
  zip_at P view dx dy has past (x ∷ xs) (y ∷ ys) h (suc k) = zip_at P view dx dy has past xs ys h.1
      k

  pub zip_get : (dx : A) (dy : B) → like dx dy → (xs : List A) (ys : List B) → AllZip like xs ys
      → (k : ℕ) → like (get_or xs k dx) (get_or ys k dy)
  zip_get dx dy past [] [] h k = past
  zip_get dx dy past [] (y ∷ ys) h k = absurd h
  zip_get dx dy past (x ∷ xs) [] h k = absurd h
  zip_get dx dy past (x ∷ xs) (y ∷ ys) h zero = h.0
  zip_get dx dy past (x ∷ xs) (y ∷ ys) h (suc k) = zip_get dx dy past xs ys h.1 k
