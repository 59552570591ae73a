use Rattle.std.proofs.Common.{arith}
use Rattle.std.specs.Prelude.{All}
use Rattle.std.proofs.lemmas.Grind.{common_steps}
use Rattle.algebra.proofs.Lists.{have_more}
use Rattle.poly.specs.Seen.{terms_each, IsImage}
use Rattle.cert_form.proofs.Paths.{place_is}
use Rattle.full_cert.specs.Tables.{raws_with}
use Rattle.full_cert.proofs.Each.{each_more}
use Rattle.full_cert.proofs.lists.read_rows.Goals as goal

pub loop-i-preserved : goal.loop-i-preserved
loop-i-preserved g c = record {
  count = grind (arith, common_steps);
  images = have_more (λ row. All (IsImage c.args.order c.args.arity) row.items) _ _ _
      c.in_ok-push.ensures.items c.loop-i.invariant.images c.in_ok-row.ensures.images;
  so_far = each_more (λ row. terms_each row.items)
      (raws_with c.args.count (g.O.Order.order c.args.order) c.args.arity) _ _ _ _
      c.loop-i.invariant.so_far c.loop-i-test.true c.index-list-i.is (place_is _ _)
      c.in_ok-row.ensures.reads c.in_ok-push.ensures.items;
}
