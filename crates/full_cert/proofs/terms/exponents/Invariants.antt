use Rattle.full_cert.proofs.SoFar.{ExponentsSoFar}
use Rattle.full_cert.proofs.terms.exponents.Given as goal

abbrev pub invariant-loop-value : goal.invariant-loop-value
invariant-loop-value l = ExponentsSoFar l.list l.value-index l.found.items
