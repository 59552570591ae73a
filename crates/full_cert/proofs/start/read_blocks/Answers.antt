use Rattle.std.proofs.Common.{arith}
use Rattle.std.proofs.lemmas.Grind.{common_steps}
use Rattle.algebra.proofs.Lists.{have_more}
use Rattle.cert_form.proofs.Paths.{place_is}
use Rattle.task_lists.specs.Rows.{rows_of}
use Rattle.full_cert.specs.PartsForm.{block_at}
use Rattle.task_lists.specs.Images.{AreRows}
use Rattle.full_cert.proofs.Each.{each_more}
use Rattle.task_lists.proofs.Descending.{rows_over}
use Rattle.full_cert.proofs.start.read_blocks.Goals as goal

pub loop-i-preserved : goal.loop-i-preserved
loop-i-preserved c = record {
  count = grind (arith, common_steps);
  images = have_more (AreRows c.args.variables) _ _ _ c.in_ok-push.ensures.items
      c.loop-i.invariant.images
      (rows_over _ c.args.variables c.in_ok-block.block.items c.in_ok-block.ensures.images);
  so_far = each_more (λ b. rows_of b.items) (block_at c.args.variables c.args.elements) _ _ _ _
      c.loop-i.invariant.so_far c.loop-i-test.true c.index-list-i.is (place_is _ _)
      c.in_ok-block.ensures.reads c.in_ok-push.ensures.items;
}
