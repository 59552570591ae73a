use Rattle.std.proofs.Common.{◌≡◌, take, map, All}
use Rattle.solvable_maps.specs.Uses.{poly_at}
use Rattle.poly.specs.Seen.{terms_each}
use Rattle.solvable_maps.specs.AfterIterations.{rest_of}
use Rattle.solvable.proofs.Using.{FracPoly}
use Rattle.closed_forms.specs.SquareMap.{polys_by, size_by}
use Rattle.closed_forms.proofs.square_map.SquareMap.rests.Given as goal

abbrev pub invariant-loop-variable : goal.invariant-loop-variable
invariant-loop-variable l =
    All (λ (p : FracPoly). p.arity ≡ size_by l.self) l.out.items
    × (terms_each l.out.items ≡ map (λ i. rest_of l.group (poly_at (polys_by l.self) i))
    (take l.variable-index l.group))
