-- A list that is looked at item by item.
--   cut_more, cut_all      behind one item more; and what is left
--   item_of                what all have, this one has
use Rattle.std.proofs.Common.{◌≡◌, ◌<◌, ℕ, ◌+◌, List, [], ◌∷◌, ◌++◌, map, take, drop, length, get_or, arith, sym, ap, subst, ◌∙◌, All, take-append-drop}
use Rattle.std.proofs.lemmas.List.{take_more, map-append, length-map}
use Rattle.std.proofs.Math.ListN.{get_or-map}

module _ {A B : Type 0} (f : A → B) (xs : List A) (i : ℕ) where
  pub cut_more : (x : A) → i < length xs → x ≡ get_or xs i x
      → map f (take (i + 1) xs) ≡ map f (take i xs) ++ f x ∷ []
  cut_more x l is =
      ap (map f) (take_more xs i x l ∙ ap (λ (y : A). take i xs ++ y ∷ []) (sym is))
      ∙ map-append f (take i xs) (x ∷ [])

  pub cut_all : map f xs ≡ map f (take i xs) ++ map f (drop i xs)
  cut_all = ap (map f) (sym (take-append-drop i xs)) ∙ map-append f (take i xs) (drop i xs)

  pub item_of : (P : B → Type 0) (x : A) → All P (map f xs) → i < length xs → x ≡ get_or xs i x
      → P (f x)
  item_of P x h l is =
      subst P (get_or-map f xs i x ∙ ap f (sym is))
      (h i (f x) (let e = length-map xs f in omega (arith, l, e)))
