-- The items that a loop goes through, which are those of a list.
--   in_list, past_list     a place within them, and one past them, is so in the list
--   item_of, item_has      the item at a place is the list's there, and has what all of the list have
use Rattle.std.proofs.Common.{◌≡◌, ℕ, ◌<◌, ◌≤◌, List, length, get_or, sym, ap, subst, ◌∙◌}
use Rattle.std.specs.List.{All}

module _ {X : Type 0} (xs items : List X) (value : items ≡ xs) (i : ℕ) where
  pub in_list : i < length items → i < length xs
  in_list l = subst (λ (ys : List X). i < length ys) value l

  pub past_list : length items ≤ i → length xs ≤ i
  past_list l = subst (λ (ys : List X). length ys ≤ i) value l

  pub item_of : (x : X) → x ≡ get_or items i x → x ≡ get_or xs i x
  item_of x e = e ∙ ap (λ (ys : List X). get_or ys i x) value

  pub item_has : (P : X → Type 0) (x : X) → All P xs → i < length items → x ≡ get_or items i x → P x
  item_has P x h l e = subst P (sym (item_of x e)) (h i x (in_list l))
