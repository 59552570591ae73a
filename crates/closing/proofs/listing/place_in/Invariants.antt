use Rattle.std.proofs.Common.{◌≡◌, ◌<◌, ℕ, [], get_or}
use Rattle.poly.specs.Seen.{terms_in, terms_each}
use Rattle.closing.proofs.listing.place_in.Given as goal

abbrev pub invariant-loop-place : goal.invariant-loop-place
invariant-loop-place l = (j : ℕ) → j < l.place
    → terms_in l.element ≡ get_or (terms_each l.polynomials) j [] → ⊥
