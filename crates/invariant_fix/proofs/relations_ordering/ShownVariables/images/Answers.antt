use Rattle.std.proofs.Common.{◌≡◌, ◌<◌, All, length, ap, sym, subst, ◌∙◌, arith}
use Rattle.std.proofs.lemmas.List.Elements.{All-nil}
use Rattle.algebra.proofs.Lists.{have_more}
use Rattle.loop_model.specs.FracPoly.{FracPoly}
use Rattle.corollaries.specs.Order.{arity, place_in}
use Rattle.invariant_fix.proofs.Places.{arity_all, order_all, place_of}
use Rattle.invariant_fix.proofs.Moving.{no_images, more_images}
use Rattle.invariant_fix.proofs.relations_ordering.ShownVariables.images.Goals as goal

pub loop-var-init : goal.loop-var-init
loop-var-init c = record {
  list = no_images _ _ c.new-images.ensures.items;
  arity = subst
      (λ ps. All (λ (p : FracPoly). p.arity ≡ arity c.args.self.now.vars c.args.self.now.shown.now)
      ps) (sym c.new-images.ensures.items) (All-nil _);
}

pub loop-var-preserved : goal.loop-var-preserved
loop-var-preserved c =
    let m = c.args.self.now.vars in
    let is = c.args.self.now.shown.now in
    let p = c.in_ok-image.field-0 in
    record {
      list =
          more_images m is c.loop-var.var c.loop-var.images.items p c.requires.order
          c.in_ok-push.ensures.items c.in_ok-image.ensures.image c.loop-var.invariant.list;
      arity =
          have_more (λ (q : FracPoly). q.arity ≡ arity m is) _ _ p c.in_ok-push.ensures.items
          c.loop-var.invariant.arity
          (c.in_ok-image.ensures.arity ∙ ap length c.requires.order ∙ order_all m is);
    }

pub image-requires-clause-few : goal.image-requires-clause-few
image-requires-clause-few c =
    let m = c.args.self.now.vars in
    let is = c.args.self.now.shown.now in
    let e = ap length c.requires.order in
    let f = order_all m is in
    let g = arity_all m is in
    let h = c.requires.few in
    omega (arith, e, f, g, h)

pub image-requires-clause-place : goal.image-requires-clause-place
image-requires-clause-place c =
    subst (λ js. place_in js c.loop-var.var < length js) (sym c.requires.order)
    (place_of _ c.args.self.now.shown.now c.loop-var.var c.loop-var-test.true)
