use Rattle.std.proofs.Common.{◌≡◌, ◌-◌, ◌≤◌, ◌++◌, suc, map}
use Rattle.loop_model.specs.ExpressionView.{expr_of}
use Rattle.loops.specs.Turning.{variables_from}
use Rattle.loop_text.proofs.sequence_nexts.push_later.Given as goal

abbrev pub invariant-loop-var : goal.invariant-loop-var
invariant-loop-var l = record {
  iteration : map expr_of l.iteration.items ≡ map expr_of l.initial.iteration.items
      ++ variables_from (suc l.first) (l.var - suc l.first);
  low : suc l.first ≤ l.var;
}
