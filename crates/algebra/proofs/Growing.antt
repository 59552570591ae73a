-- Lists that a loop fills, one item after another.
--   grown, all_grown       what is seen of them, so far and at the end
--   grown_behind           the same behind others;  grown_through: where what is made is made of what is seen of each
--   any_mapped             what holds of some
use Rattle.std.proofs.Common.{◌≡◌, ℕ, ◌+◌, ◌<◌, ◌≤◌, List, [], ◌∷◌, ◌++◌, map, take, length, get_or, sym, ap, ap₂, ◌∙◌, arith}
use Rattle.std.specs.List.{Any}
use Rattle.std.proofs.lemmas.List.{get_or-map, length-map}
use Rattle.std.proofs.lemmas.List.{map-append, append_assoc, take_all}
use Rattle.std.proofs.lemmas.Simd.{map-map}
use Rattle.algebra.proofs.Lists.{take_next}

module _ {X W Y : Type 0} (seen : W → Y) (made : X → Y) where
  pub grown : (list : List X) (i : ℕ) (x : X) (out news : List W) (w : W) → i < length list
      → x ≡ get_or list i x → news ≡ out ++ w ∷ [] → seen w ≡ made x
      → map seen out ≡ map made (take i list) → map seen news ≡ map made (take (i + 1) list)
  grown list i x out news w l e n is h =
      ap (map seen) n ∙ map-append seen out (w ∷ []) ∙ ap₂ (λ ys y. ys ++ y ∷ []) h is
      ∙ sym (take_next made list i x l e)

  pub grown_behind : (first : List Y) (list : List X) (i : ℕ) (x : X) (out news : List W) (w : W)
      → i < length list → x ≡ get_or list i x → news ≡ out ++ w ∷ [] → seen w ≡ made x
      → map seen out ≡ first ++ map made (take i list)
      → map seen news ≡ first ++ map made (take (i + 1) list)
  grown_behind first list i x out news w l e n is h =
      ap (map seen) n ∙ map-append seen out (w ∷ []) ∙ ap₂ (λ ys y. ys ++ y ∷ []) h is
      ∙ append_assoc first (map made (take i list)) (made x ∷ [])
      ∙ ap (λ ys. first ++ ys) (sym (take_next made list i x l e))

  pub all_grown : (list : List X) (i : ℕ) (ys : List Y) → length list ≤ i
      → ys ≡ map made (take i list) → ys ≡ map made list
  all_grown list i ys l h = h ∙ ap (map made) (take_all i list l)

module _ {X W Y Z : Type 0} (seen : X → Y) (f : Y → Z) (put : W → Z) where
  pub grown_through : (first : List Z) (list : List X) (i : ℕ) (x : X) (out news : List W) (w : W)
      → i < length list → x ≡ get_or list i x → news ≡ out ++ w ∷ [] → put w ≡ f (seen x)
      → map put out ≡ first ++ map f (map seen (take i list))
      → map put news ≡ first ++ map f (map seen (take (i + 1) list))
  grown_through first list i x out news w l e n is h =
      grown_behind put (λ y. f (seen y)) first list i x out news w l e n is (h
      ∙ ap (λ zs. first ++ zs) (map-map f seen (take i list)))
      ∙ ap (λ zs. first ++ zs) (sym (map-map f seen (take (i + 1) list)))

pub any_mapped : {X Y : Type 0} (f : X → Y) (P : Y → Type 0) (xs : List X) (i : ℕ) (x : X)
    → i < length xs → x ≡ get_or xs i x → P (f x) → Any P (map f xs)
any_mapped f P xs i x l e p = (
  i,
  f x,
  (let a = length-map xs f in omega (arith, a, l)),
  get_or-map f xs i x (f x) l ∙ ap f (sym e),
  p,
)
