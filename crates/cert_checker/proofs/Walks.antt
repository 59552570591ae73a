-- Lists walked from the front, where what is said of a list is said of its first element and of the others.
--   From i            what is said of the list is what is said of it from the place i on
--   from_start, from_more, from_end     at the first place, at the next, and behind the last
--   from_not          where it isn't so of an element
use Rattle.std.proofs.Common.{◌↔◌, ℕ, suc, ◌+◌, ◌<◌, ◌≤◌, List, [], ◌∷◌, get_or, drop, length, sym, subst, add-one}
use Rattle.std.proofs.Math.Seq.{drop-cons}
use Rattle.std.proofs.lemmas.List.{drop_all}

module _ {X : Type 0} (P : List X → Type 0) (Q : X → List X → Type 0)
    (cons : (x : X) (xs : List X) → P (x ∷ xs) ↔ (Q x xs × P xs)) (xs : List X) where
  abbrev pub From : ℕ → Type 0
  From i = P xs ↔ P (drop i xs)

  pub from_start : From 0
  from_start = (λ h. h, λ h. h)

  pub from_end : P [] → {i : ℕ} → length xs ≤ i → From i → P xs
  from_end none {i = i} l h = h.1 (subst P (sym (drop_all i xs l)) none)

  module _ (i : ℕ) (d : X) (l : i < length xs) (so_far : From i) where
    pub from_more : Q (get_or xs i d) (drop (suc i) xs) → From (i + 1)
    from_more q = subst From (sym (add-one i)) (
      λ h. ((cons (get_or xs i d) (drop (suc i) xs)).0
          (subst P (drop-cons xs i d l) (so_far.0 h))).1,
      λ h. so_far.1 (subst P (sym (drop-cons xs i d l))
          ((cons (get_or xs i d) (drop (suc i) xs)).1 (q, h))),
    )

    pub from_not : (Q (get_or xs i d) (drop (suc i) xs) → ⊥) → P xs → ⊥
    from_not n h = n ((cons (get_or xs i d) (drop (suc i) xs)).0
        (subst P (drop-cons xs i d l) (so_far.0 h))).0
