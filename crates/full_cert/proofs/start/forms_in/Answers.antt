use Rattle.std.proofs.Common.{arith}
use Rattle.std.proofs.lemmas.Grind.{common_steps}
use Rattle.algebra.proofs.Lists.{have_more}
use Rattle.cert_form.proofs.Paths.{place_is}
use Rattle.full_cert.specs.PartsForm.{form_at}
use Rattle.task_lists.specs.Images.{IsFormOver}
use Rattle.task_lists.specs.View.{form_in}
use Rattle.full_cert.proofs.Each.{each_more}
use Rattle.full_cert.proofs.start.forms_in.Goals as goal

pub loop-i-preserved : goal.loop-i-preserved
loop-i-preserved c = record {
  count = grind (arith, common_steps);
  images = have_more (IsFormOver c.args.variables) _ _ _ c.in_ok-push.ensures.items
      c.loop-i.invariant.images
      (record { few = c.in_ok-form.ensures.few; polys = c.in_ok-form.ensures.images });
  so_far = each_more form_in (form_at c.args.variables) _ _ _ _ c.loop-i.invariant.so_far
      c.loop-i-test.true c.index-list-i.is (place_is _ _) c.in_ok-form.ensures.reads
      c.in_ok-push.ensures.items;
}
