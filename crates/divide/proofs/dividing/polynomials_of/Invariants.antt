use Rattle.std.proofs.Common.{◌≡◌, map}
use Rattle.std.specs.List.{All}
use Rattle.poly.specs.Seen.{terms_each}
use Rattle.poly.specs.View.{terms_of}
use Rattle.divide.proofs.dividing.polynomials_of.Given as goal

abbrev pub invariant-loop-terms : goal.invariant-loop-terms
invariant-loop-terms g l = (terms_each l.out.items ≡ map (λ v. terms_of g.K.Ring.meaning v.items)
    l.yielded) × All (λ q. (q.order ≡ l.order) × (q.arity ≡ l.arity)) l.out.items
