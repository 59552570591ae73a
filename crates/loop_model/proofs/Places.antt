-- Where names stand in a list.
--   place_within, place_stands     the place of a name is within the list, and the name stands there
--   bytes_same, bytes_eq-refl, bytes_apart     the test of bytes
--   none-passes                    no item passes where there is no place
--   no_place, place_there          whether a name stands among the names
use Rattle.std.proofs.Common.{◌≡◌, ◌≢◌, ℕ, ◌+◌, ◌<◌, List, [], ◌∷◌, refl, sym, ◌∙◌, Some, None, get_or, length}
use Rattle.std.specs.Prelude.{Bool, true, false, ◌||◌, if◌then◌else◌, Option}
use Rattle.std.specs.List.{list_any, position_from}
use Rattle.std.specs.Str.{bytes_eq}
use Rattle.std.specs.Cmp.Lexicographic.{bytes_decides}
use Rattle.std.proofs.lemmas.List.Quantifiers.{position-Some}
use Rattle.std.proofs.lemmas.Iterator.Adapters.{position_from-zero}
use Rattle.loop_model.specs.Names.{place_of}

pub bytes_same : (x y : List ℕ) → bytes_eq x y ≡ true → x ≡ y
bytes_same x y e = (bytes_decides x y).0 e

pub bytes_eq-refl : (x : List ℕ) → bytes_eq x x ≡ true
bytes_eq-refl x = (bytes_decides x x).1 refl

pub bytes_apart : (x y : List ℕ) → x ≢ y → bytes_eq x y ≡ false
bytes_apart x y ne = go (bytes_eq x y) refl
  where
    go : (b : Bool) → bytes_eq x y ≡ b → b ≡ false
    go true e = absurd (ne (bytes_same x y e))
    go false e = refl

pub place_within : (names : List (List ℕ)) (w : List ℕ) (i : ℕ) → place_of names w ≡ Some i
    → i < length names
place_within names w i e = (position-Some (λ n. bytes_eq n w) names i [] e).0

pub place_stands : (names : List (List ℕ)) (w : List ℕ) (i : ℕ) → place_of names w ≡ Some i
    → get_or names i [] ≡ w
place_stands names w i e = bytes_same _ _ (position-Some (λ n. bytes_eq n w) names i [] e).1

-- no item passes where there is no place
pub none-passes : {X : Type 0} (p : X → Bool) (i : ℕ) (xs : List X) → position_from p i xs ≡ None
    → list_any p xs ≡ false
none-passes p i [] e = refl
none-passes p i (x ∷ xs) e = go (p x) (λ f. none-passes p (i + 1) xs f) e
  where
    go : (b : Bool) → (position_from p (i + 1) xs ≡ None → list_any p xs ≡ false)
        → (if b then Some i else position_from p (i + 1) xs) ≡ None → (b || list_any p xs) ≡ false
    go true more e = absurd (cc)
    go false more e = more e

pub no_place : (names : List (List ℕ)) (w : List ℕ) → place_of names w ≡ None
    → list_any (λ n. bytes_eq n w) names ≡ false
no_place names w e = none-passes (λ n. bytes_eq n w) 0 names
    (sym (position_from-zero (λ n. bytes_eq n w) names) ∙ e)

-- a name that stands has a place
pub place_there : (names : List (List ℕ)) (w : List ℕ) → list_any (λ n. bytes_eq n w) names ≡ true
    → (i : ℕ) × (place_of names w ≡ Some i)
place_there names w h = go (place_of names w) refl
  where
    go : (o : Option ℕ) → place_of names w ≡ o → (i : ℕ) × (place_of names w ≡ Some i)
    go None e = let f = no_place names w e in absurd (cc)
    go (Some i) e = (i, e)
