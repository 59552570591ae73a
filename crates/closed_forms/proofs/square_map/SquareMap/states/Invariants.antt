use Rattle.std.proofs.Common.{◌≡◌, All, Vec, Global}
use Rattle.solvable.proofs.Using.{FracPoly}
use Rattle.closed_forms.specs.SquareMap.{polys_by, size_by}
use Rattle.closed_forms.specs.States.{states_to}
use Rattle.closed_forms.proofs.StateLists.{told}
use Rattle.closed_forms.proofs.square_map.SquareMap.states.Given as goal

abbrev pub invariant-loop-iteration : goal.invariant-loop-iteration
invariant-loop-iteration l = (told l.found.items ≡ states_to (polys_by l.self) l.iteration)
    × All (λ (v : Vec FracPoly Global). All (λ (p : FracPoly). p.arity ≡ size_by l.self) v.items)
    l.found.items
