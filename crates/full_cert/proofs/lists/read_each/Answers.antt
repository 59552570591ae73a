use Rattle.std.proofs.Common.{arith}
use Rattle.std.proofs.lemmas.Grind.{common_steps}
use Rattle.algebra.proofs.Lists.{have_more}
use Rattle.poly.specs.Seen.{terms_in, IsImage}
use Rattle.cert_form.proofs.Each.{passed}
use Rattle.cert_form.proofs.Paths.{place_is}
use Rattle.full_cert.specs.Raw.{raw_at}
use Rattle.full_cert.proofs.Each.{each_more, each_fault}
use Rattle.full_cert.proofs.lists.read_each.Goals as goal

pub loop-i-preserved : goal.loop-i-preserved
loop-i-preserved g c = record {
  count = grind (arith, common_steps);
  images = have_more (IsImage c.args.order c.args.arity) _ _ _ c.in_ok-push.ensures.items
      c.loop-i.invariant.images c.in_ok-poly.ensures.image;
  so_far = each_more terms_in (raw_at (g.O.Order.order c.args.order) c.args.arity) _ _ _ _
      c.loop-i.invariant.so_far c.loop-i-test.true c.index-list-i.is (place_is _ _)
      c.in_ok-poly.ensures.reads c.in_ok-push.ensures.items;
}

pub returns-in_err-poly-clause-reads : goal.returns-in_err-poly-clause-reads
returns-in_err-poly-clause-reads g c = passed _ _ _ _ c.from_residual.ensures.1
    (each_fault terms_in (raw_at (g.O.Order.order c.args.order) c.args.arity) _ _ _ _
    c.loop-i.invariant.so_far c.loop-i-test.true c.index-list-i.is (place_is _ _) _
    c.in_err-poly.ensures.reads)
