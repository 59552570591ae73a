use Rattle.std.proofs.Common.{◌≡◌, [], map, replicate}
use Rattle.poly.specs.View.{terms_of}
use Rattle.divide.proofs.dividing.first_state.Given as goal

abbrev pub invariant-loop : goal.invariant-loop
invariant-loop g l = map (λ v. terms_of g.K.Ring.meaning v.items) l.cofactors.items
    ≡ replicate l.counter []
