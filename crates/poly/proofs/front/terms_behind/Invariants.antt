use Rattle.std.proofs.Common.{◌≡◌, ◌≤◌, ◌+◌, ◌-◌, ◌++◌, length, take}
use Rattle.std.specs.Vec.{vec_capacity}
use Rattle.polynomials.specs.Terms.{retold}
use Rattle.poly.specs.View.{terms_of}
use Rattle.poly.proofs.front.terms_behind.Given as goal

abbrev pub invariant-loop-term : goal.invariant-loop-term
invariant-loop-term g l = (terms_of g.K.Ring.meaning l.out.items ≡ retold (λ e. l.front ++ e)
    (terms_of g.K.Ring.meaning (take l.term-index l.terms)))
    × (length l.out.items + (length l.terms - l.term-index) ≤ vec_capacity l.out)
