use Rattle.std.proofs.Common.{map, take}
use Rattle.poly.specs.Grid.{Read}
use Rattle.poly.specs.View.{terms_of}
use Rattle.poly.proofs.grid.terms_at.Given as goal

abbrev pub invariant-loop-place : goal.invariant-loop-place
invariant-loop-place g l = Read g.K.Ring.scalars.arithmetic l.base l.arity
    (map g.K.Ring.meaning (take l.place l.grid)) (terms_of g.K.Ring.meaning l.out.items)
