-- Terms of a degree above a bound.
--   has_above below j e      the exponents e have the variable j, and a degree above the bound
--   is_used below map i j     some term of the i-th polynomial does
use Rattle.std.specs.Prelude.{ℕ, List, Bool, ◌&&◌, ltb}
use Rattle.polynomials.specs.Terms.{Terms}
use Rattle.solvable_maps.specs.Uses.{any, has, degree, poly_at}

abbrev pub has_above : ℕ → ℕ → List ℕ → Bool
has_above below j e = has j e && ltb below (degree e)

abbrev pub is_used : {A : Type 0} → ℕ → List (Terms A) → ℕ → ℕ → Bool
is_used below map i j = any (has_above below j) (poly_at map i)
