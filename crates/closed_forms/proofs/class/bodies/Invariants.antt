use Rattle.std.proofs.Common.{◌≡◌, ℕ, All, take}
use Rattle.poly.specs.Seen.{terms_each}
use Rattle.solvable.proofs.Using.{FracPoly}
use Rattle.expo.specs.declared.exponential.Expo.{Expo}
use Rattle.closed_forms.specs.Values.{bodies_of}
use Rattle.closed_forms.proofs.class.bodies.Given as goal

abbrev pub invariant-loop-poly : goal.invariant-loop-poly
invariant-loop-poly l =
    ((w : ℕ) → All (λ (e : Expo). e.body.arity ≡ w) l.polys
    → All (λ (p : FracPoly). p.arity ≡ w) l.out.items)
    × (terms_each l.out.items ≡ bodies_of (take l.poly-index l.polys))
