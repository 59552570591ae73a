use Rattle.std.proofs.Common.{◌≡◌, ◌+◌, length, map}
use Rattle.std.specs.Iterator.Adapters.{zip_first, zip_second}
use Rattle.std.specs.Slice.Iter.{iter_rest}
use Rattle.loop_model.specs.ExpressionView.{expr_of}
use Rattle.loop_runs.specs.Replay.{values}
use Rattle.loop_runs.specs.Seen.{numbers_of}
use Rattle.loop_runs.proofs.Iterations.{ValuesLeft}
use Rattle.loop_runs.proofs.steps.values_at.Given as goal

abbrev pub invariant-loop-target : goal.invariant-loop-target
invariant-loop-target l = record {
  left : ValuesLeft l.step (numbers_of l.state) (values l.step l.targets (map expr_of l.right_sides)
      (numbers_of l.state)) (numbers_of l.found.items)
      (iter_rest (zip_first l.target-iterator))
      (map expr_of (iter_rest (zip_second l.target-iterator)));
  sizes : length (iter_rest (zip_first l.target-iterator))
      ≡ length (iter_rest (zip_second l.target-iterator));
  len : length l.found.items + length (iter_rest (zip_first l.target-iterator)) ≡ length l.targets;
}
