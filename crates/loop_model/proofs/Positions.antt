-- Positions in a list and in its image.
use Rattle.std.proofs.Common.{◌≡◌, ℕ, ◌+◌, List, [], ◌∷◌, refl, ap, sym, ◌∙◌}
use Rattle.std.proofs.lemmas.Iterator.Adapters.{position_from-zero}
use Rattle.std.specs.Prelude.{Some, if◌then◌else◌, Bool, position, map}
use Rattle.std.specs.List.{position_from}

position_from-map : {X Y : Type 0} (p : Y → Bool) (f : X → Y) (i : ℕ) (xs : List X)
    → position_from (λ x. p (f x)) i xs ≡ position_from p i (map f xs)
position_from-map p f i [] = refl
position_from-map p f i (x ∷ xs) = ap (λ r. if p (f x) then Some i
    else r) (position_from-map p f (i + 1) xs)

pub position-map : {X Y : Type 0} (p : Y → Bool) (f : X → Y) (xs : List X)
    → position (λ x. p (f x)) xs ≡ position p (map f xs)
position-map p f xs = position_from-zero (λ x. p (f x)) xs ∙ position_from-map p f 0 xs
    ∙ sym (position_from-zero p (map f xs))
