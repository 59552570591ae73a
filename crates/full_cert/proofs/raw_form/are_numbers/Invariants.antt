use Rattle.full_cert.specs.Raw.{is_number_value}
use Rattle.full_cert.proofs.SoFar.{EverySoFar}
use Rattle.full_cert.proofs.raw_form.are_numbers.Given as goal

abbrev pub invariant-loop-value : goal.invariant-loop-value
invariant-loop-value l = EverySoFar is_number_value l.list l.value-index
