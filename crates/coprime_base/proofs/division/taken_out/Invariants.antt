use Rattle.coprime_base.proofs.Dividing.{Divided}
use Rattle.coprime_base.proofs.division.taken_out.Given as goal

abbrev pub invariant-loop-left : goal.invariant-loop-left
invariant-loop-left l = Divided l.by l.times l.left l.number

abbrev pub decreases-loop-left : goal.decreases-loop-left
decreases-loop-left l = l.left
