use Rattle.loop_text.proofs.Degrees.{GreatestSoFar}
use Rattle.loop_text.proofs.family_counts.greatest_degree.Given as goal

abbrev pub invariant-loop-element : goal.invariant-loop-element
invariant-loop-element l = GreatestSoFar l.basis l.element-index l.greatest
