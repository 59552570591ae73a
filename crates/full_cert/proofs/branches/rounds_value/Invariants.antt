use Rattle.std.proofs.Common.{All}
use Rattle.task_lists.specs.View.{round_in}
use Rattle.full_cert.specs.Narrow.{IsBranchNarrow}
use Rattle.full_cert.specs.Written.{round_data}
use Rattle.cert_form.proofs.Listed.{WrittenSoFar}
use Rattle.full_cert.proofs.branches.rounds_value.Given as goal

abbrev pub invariant-loop-element : goal.invariant-loop-element
invariant-loop-element l = WrittenSoFar round_in round_data (All IsBranchNarrow) l.rounds
    l.element-index l.values.items
