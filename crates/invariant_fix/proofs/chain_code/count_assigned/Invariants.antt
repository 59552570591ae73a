use Rattle.std.proofs.Common.{◌≡◌, ◌≤◌}
use Rattle.loop_runs.specs.Parts.{statements_in}
use Rattle.corollaries.specs.CodeBetween.{copies}
use Rattle.invariant_fix.proofs.chain_code.count_assigned.Given as goal

abbrev pub invariant-loop-var : goal.invariant-loop-var
invariant-loop-var l =
    record { count : l.count ≡ copies l.var (statements_in l.code); few : l.count ≤ l.var }
