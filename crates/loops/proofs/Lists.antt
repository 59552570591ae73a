-- Lists from a place on.
--   at_place, behind_place     what stands in the middle of a list, and behind it
--   length-more, more_before      one item more in front of such a place: the length, and the list
--   store_places               values that are stored at all places are the state
--   length-places
--   along, moved              along an equation of numbers
use Rattle.std.proofs.Common.{◌≡◌, ℕ, zero, suc, ◌+◌, List, [], ◌∷◌, ◌++◌, length, get_or, set, arith, refl, sym, ap, subst, ◌∙◌}
use Rattle.std.proofs.lemmas.List.{append_assoc, length-append}
use Rattle.loops.specs.Effect.{store}
use Rattle.loops.specs.Turning.{places}

-- of numbers that arithmetic finds equal
pub along : {A : Type 0} (f : ℕ → A) (i j : ℕ) → i ≡ j → f i ≡ f j
along f i j e = ap f e

pub moved : (P : ℕ → Type 0) (i j : ℕ) → i ≡ j → P i → P j
moved P i j e h = subst P e h

pub length-places : (i r : ℕ) → length (places i r) ≡ r
unfolding places
length-places i zero = refl
length-places i (suc r) = ap suc (length-places (suc i) r)

module _ {A : Type 0} where
  pub at_place : (before : List A) (x : A) (after : List A) (d : A)
      → get_or (before ++ x ∷ after) (length before) d ≡ x
  at_place [] x after d = refl
  at_place (y ∷ before) x after d = at_place before x after d

  pub behind_place : (before after : List A) (i : ℕ) (d : A)
      → get_or (before ++ after) (length before + i) d ≡ get_or after i d
  behind_place [] after i d = ap (λ k. get_or after k d) (omega arith)
  behind_place (y ∷ before) after i d =
      along (λ k. get_or (y ∷ before ++ after) k d) (suc (length before) + i)
      (suc (length before + i)) (omega arith) ∙ behind_place before after i d

  pub set_at_place : (before : List A) (o x : A) (after : List A)
      → set (before ++ o ∷ after) (length before) x ≡ before ++ x ∷ after
  set_at_place [] o x after = refl
  set_at_place (y ∷ before) o x after = ap (λ l. y ∷ l) (set_at_place before o x after)

  -- one more before
  pub more_before : (before : List A) (x : A) (after : List A)
      → before ++ x ∷ after ≡ (before ++ x ∷ []) ++ after
  more_before before x after = sym (append_assoc before (x ∷ []) after)

  pub length-more : (before : List A) (x : A) → length (before ++ x ∷ []) ≡ suc (length before)
  length-more before x = length-append before (x ∷ []) ∙ omega arith

  store_from : (before xs olds : List A) (i : ℕ) → i ≡ length before → length xs ≡ length olds
      → store (places i (length xs)) xs (before ++ olds) ≡ before ++ xs
  unfolding store places
  store_from before [] [] i e h = refl
  store_from before [] (o ∷ olds) i e h = absurd (omega arith)
  store_from before (x ∷ xs) [] i e h = absurd (omega arith)
  store_from before (x ∷ xs) (o ∷ olds) i e h =
      ap (store (places (suc i) (length xs)) xs) (ap (λ k. set (before ++ o ∷ olds) k x) e
      ∙ set_at_place before o x olds ∙ more_before before x olds)
      ∙ store_from (before ++ x ∷ []) xs olds (suc i) (ap suc e ∙ sym (length-more before x))
      (omega arith)
      ∙ sym (more_before before x xs)

  pub store_places : (m : ℕ) (xs s : List A) → length xs ≡ m → length s ≡ m
      → store (places 0 m) xs s ≡ xs
  store_places m xs s h k = ap (λ n. store (places 0 n) xs s) (sym h)
      ∙ store_from [] xs s 0 refl (h ∙ sym k)
