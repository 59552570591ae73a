use Rattle.std.proofs.Common.{◌≡◌, take, map, All}
use Rattle.poly.specs.Seen.{terms_each}
use Rattle.solvable.proofs.Using.{FracPoly}
use Rattle.closed_forms.specs.SquareMap.{size_by}
use Rattle.closed_forms.proofs.StateLists.{turned}
use Rattle.closed_forms.proofs.square_map.SquareMap.next_state.Given as goal

abbrev pub invariant-loop-image : goal.invariant-loop-image
invariant-loop-image l =
    (terms_each l.out.items ≡ map (turned (size_by l.self) (terms_each l.state.items))
    (take l.image-index l.self.images.now.items))
    × All (λ (p : FracPoly). p.arity ≡ size_by l.self) l.out.items
