use Rattle.full_cert.specs.Raw.{has_term_form}
use Rattle.full_cert.proofs.SoFar.{EverySoFar}
use Rattle.full_cert.proofs.raw_form.have_term_form.Given as goal

abbrev pub invariant-loop-value : goal.invariant-loop-value
invariant-loop-value l = EverySoFar has_term_form l.list l.value-index
