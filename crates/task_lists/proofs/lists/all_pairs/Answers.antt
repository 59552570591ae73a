use Rattle.std.proofs.Common.{◌++◌, ap, ◌∙◌, arith}
use Rattle.task_lists.proofs.Places.{pairs_from, pairs_more}
use Rattle.task_lists.proofs.lists.all_pairs.Goals as goal

pub loop-left-preserved : goal.loop-left-preserved
loop-left-preserved c = record {
  within = omega (arith, c.loop-left-test.true);
  items = c.in_ok-push_pairs.ensures
      ∙ ap (λ ps. ps ++ pairs_from c.args.count c.loop-left.left) c.loop-left.invariant.items
      ∙ pairs_more c.args.count c.loop-left.left;
}
