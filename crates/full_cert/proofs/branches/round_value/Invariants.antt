use Rattle.task_lists.specs.View.{branch_in}
use Rattle.full_cert.specs.Narrow.{IsBranchNarrow}
use Rattle.full_cert.specs.Written.{branch_data}
use Rattle.cert_form.proofs.Listed.{WrittenSoFar}
use Rattle.full_cert.proofs.branches.round_value.Given as goal

abbrev pub invariant-loop-element : goal.invariant-loop-element
invariant-loop-element l = WrittenSoFar branch_in branch_data IsBranchNarrow l.branches
    l.element-index l.values.items
