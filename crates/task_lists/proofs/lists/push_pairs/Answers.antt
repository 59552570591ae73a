use Rattle.std.proofs.Common.{◌++◌, ◌∷◌, [], sym, ap, ◌∙◌, arith, append_assoc}
use Rattle.task_lists.proofs.Places.{pairs_from, one_from}
use Rattle.task_lists.proofs.lists.push_pairs.Goals as goal

pub loop-right-preserved : goal.loop-right-preserved
loop-right-preserved c = record {
  above = omega (arith, c.loop-right.invariant.above);
  within = omega (arith, c.loop-right-test.true);
  items = c.in_ok-push.ensures.items
      ∙ ap (λ ps. ps ++ (c.args.left, c.loop-right.right) ∷ []) c.loop-right.invariant.items
      ∙ append_assoc c.args.pairs.now.items (pairs_from c.loop-right.right c.args.left)
      ((c.args.left, c.loop-right.right) ∷ [])
      ∙ ap (λ ps. c.args.pairs.now.items ++ ps)
      (sym (one_from c.loop-right.right c.args.left c.loop-right.invariant.above));
}
