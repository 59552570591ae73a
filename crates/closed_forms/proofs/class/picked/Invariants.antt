use Rattle.std.proofs.Common.{◌≡◌, ℕ, take, map, All}
use Rattle.solvable_maps.specs.Uses.{poly_at}
use Rattle.poly.specs.Seen.{terms_each}
use Rattle.solvable.proofs.Using.{FracPoly}
use Rattle.closed_forms.proofs.class.picked.Given as goal

abbrev pub invariant-loop-variable : goal.invariant-loop-variable
invariant-loop-variable l =
    ((w : ℕ) → All (λ (p : FracPoly). p.arity ≡ w) l.state
    → All (λ (p : FracPoly). p.arity ≡ w) l.out.items)
    × (terms_each l.out.items ≡ map (poly_at (terms_each l.state)) (take l.variable-index l.group))
