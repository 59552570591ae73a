use Rattle.std.proofs.Common.{◌≡◌, drop, map, length}
use Rattle.loop_model.specs.Parts.{statement_of}
use Rattle.loop_runs.specs.Replay.{branch_end}
use Rattle.loop_runs.specs.Seen.{numbers_of}
use Rattle.loop_runs.proofs.steps.after_branch.Given as goal

abbrev pub invariant-loop-statement : goal.invariant-loop-statement
invariant-loop-statement l = record {
  left : branch_end l.step (map statement_of l.branch) (numbers_of l.initial.state.items)
      ≡ branch_end l.step (map statement_of (drop l.statement-index l.branch))
      (numbers_of l.state.items);
  len : length l.state.items ≡ length l.initial.state.items;
}
