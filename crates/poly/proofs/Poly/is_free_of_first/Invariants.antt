use Rattle.std.proofs.Common.{take}
use Rattle.machines.specs.Front.{IsFreeOfFirst}
use Rattle.poly.specs.View.{terms_of}
use Rattle.poly.proofs.Poly.is_free_of_first.Given as goal

abbrev pub invariant-loop-term : goal.invariant-loop-term
invariant-loop-term g l =
    IsFreeOfFirst l.count (terms_of g.K.Ring.meaning (take l.term-index l.term-items))
