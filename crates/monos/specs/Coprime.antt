-- Monomials that have no variable in common.
--   IsCoprime d e     at each place the lesser exponent is 0
use Rattle.std.specs.Prelude.{◌≡◌, ℕ, min, List, slice_index, EachIndex}

abbrev pub IsCoprime : List ℕ → List ℕ → Type 0
IsCoprime d e = EachIndex d (λ k. min (slice_index d k) (slice_index e k) ≡ 0)
