use Rattle.std.proofs.Common.{◌≡◌, length, sym, ap, ◌∙◌}
use Rattle.std.proofs.lemmas.Result.{err_from_is_err_and}
use Rattle.poly.specs.Seen.{terms_in}
use Rattle.algebra.proofs.Lists.{have_more}
use Rattle.algebra.proofs.Growing.{grown, all_grown, any_mapped}
use Rattle.loop_model.specs.FracPoly.{FracPoly}
use Rattle.invariant_fix.specs.Blocked.{Blocked}
use Rattle.corollaries.specs.Order.{hidden, arity}
use Rattle.invariant_fix.proofs.Putting.{put, images_count, images_over, put_at, block_at, past_at, all_put}
use Rattle.invariant_fix.proofs.relations_ordering.ShownVariables.ordered.Goals as goal

pub moved-requires-clause-count : goal.moved-requires-clause-count
moved-requires-clause-count c =
    images_count c.args.self.now.vars c.args.self.now.shown.now c.in_ok-images.images.items
    c.in_ok-images.ensures.images c.requires.some
    ∙ sym (ap (λ (g : FracPoly). g.arity) c.element-item.is
    ∙ c.requires.basis c.loop-element.element-index c.element-item.result c.loop-element-test.true)

pub moved-requires-clause-arities : goal.moved-requires-clause-arities
moved-requires-clause-arities c =
    images_over c.args.self.now.vars c.args.self.now.shown.now c.in_ok-images.images.items
    c.in_ok-images.ensures.images c.requires.some

pub loop-element-preserved : goal.loop-element-preserved
loop-element-preserved c =
    let m = c.args.self.now.vars in
    let is = c.args.self.now.shown.now in
    let ps = c.in_ok-images.images.items in
    let a = c.in_ok-images.ensures.images in
    let k = c.in_ok-places.hidden in
    let g = c.element-item.result in
    let p = c.in_ok-moved.field-0 in
    record {
      list = grown (λ (q : Blocked). terms_in q)
          (put m is) _ _ g _ _ p c.loop-element-test.true c.element-item.is
          c.in_ok-push.ensures.items (put_at m is ps a c.requires.some k g p
          c.in_ok-places.ensures.hidden c.in_ok-moved.ensures.moved) c.loop-element.invariant.list;
      block = have_more (λ (q : Blocked). (q.order.first ≡ length
          (hidden m is)) × (q.arity ≡ arity m is)) _ _ p c.in_ok-push.ensures.items
          c.loop-element.invariant.block (block_at m is ps a c.requires.some k p
          c.in_ok-places.ensures.hidden c.in_ok-moved.ensures.block);
    }

pub returns-clause-starting : goal.returns-clause-starting
returns-clause-starting c =
    all_put c.args.self.now.vars _ c.args.basis.now _ (all_grown (λ (q : Blocked). terms_in q)
    (put c.args.self.now.vars c.args.self.now.shown.now) _ _ _ c.loop-element-test.false
    c.loop-element.invariant.list)

pub returns-in_err-moved-clause-wide : goal.returns-in_err-moved-clause-wide
returns-in_err-moved-clause-wide c =
    let m = c.args.self.now.vars in
    let is = c.args.self.now.shown.now in
    let p = err_from_is_err_and c.from_residual-in_err-moved.result
    c.from_residual-in_err-moved.ensures.1 in
    λ w. any_mapped (λ (g : FracPoly). terms_in g) _ _ _ _ c.loop-element-test.true
    c.element-item.is (past_at m is c.in_ok-images.images.items c.in_ok-images.ensures.images
    c.requires.some c.element-item.result (c.in_err-moved.ensures.wide (cc (p.1, p.2, w))))
