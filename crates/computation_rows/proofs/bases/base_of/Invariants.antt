use Rattle.coprime_base.specs.Sizes.{ArePositive}
use Rattle.computation_rows.proofs.bases.base_of.Given as goal

abbrev pub invariant-loop-number : goal.invariant-loop-number
invariant-loop-number l = ArePositive l.list.items
