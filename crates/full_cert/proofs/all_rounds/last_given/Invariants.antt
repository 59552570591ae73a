use Rattle.std.proofs.Common.{◌≡◌, ◌<◌, map, drop}
use Rattle.full_cert.specs.Form.{last_given, given_bound}
use Rattle.task_lists.specs.View.{branch_in}
use Rattle.full_cert.proofs.all_rounds.last_given.Given as goal

abbrev pub invariant-loop-branch : goal.invariant-loop-branch
invariant-loop-branch l = record {
  short : l.count < given_bound;
  so_far : last_given l.before (map branch_in l.row)
      ≡ last_given l.count (map branch_in (drop l.branch-index l.row));
}
