use Rattle.std.proofs.Common.{◌≡◌, ◌+◌, ◌<◌, All, length, ap, sym, subst, ◌∙◌, arith}
use Rattle.std.proofs.lemmas.List.Elements.{All-nil}
use Rattle.algebra.proofs.Lists.{have_more}
use Rattle.poly.specs.Seen.{terms_each}
use Rattle.loop_model.specs.FracPoly.{FracPoly}
use Rattle.corollaries.specs.CodeBetween.{variable_of}
use Rattle.invariant_fix.specs.Code.{all}
use Rattle.invariant_fix.proofs.Variables.{variable_is, variable_arity}
use Rattle.invariant_fix.proofs.Making.{more_places, all_places}
use Rattle.invariant_fix.proofs.chain_code.CodeInWork.before.Goals as goal

pub loop-var-init : goal.loop-var-init
loop-var-init c =
    let m = length c.args.self.now.values.now in
    let b = c.args.self.now.code.now in
    record {
      list = ap terms_each c.new-images.ensures.items;
      over = subst (λ ps. All (λ (p : FracPoly). p.arity ≡ all m b) ps)
          (sym c.new-images.ensures.items) (All-nil _);
    }

pub loop-var-preserved : goal.loop-var-preserved
loop-var-preserved c =
    let m = length c.args.self.now.values.now in
    let b = c.args.self.now.code.now in
    let p = c.in_ok-variable.field-0 in
    let n = c.args.self.now.copies + m in
    let size : n ≡ all m b = ap (λ k. k + m) c.requires.work.count in
    let here : c.place_before-place.result < n =
    subst (λ k. c.place_before-place.result < k) (sym size) c.place_before-place.ensures.within in
    let is = variable_is _ n _ here p c.in_ok-variable.ensures.variable in
    record {
      list = more_places m b c.loop-var.var c.loop-var.images.items p c.in_ok-push.ensures.items
          (is ∙ ap (λ k. variable_of k c.place_before-place.result) size
          ∙ ap (variable_of (all m b)) c.place_before-place.ensures.place)
          c.loop-var.invariant.list;
      over =
          have_more (λ (q : FracPoly). q.arity ≡ all m b) _ _ p c.in_ok-push.ensures.items
          c.loop-var.invariant.over (variable_arity _ n c.place_before-place.result p
          c.in_ok-variable.ensures.variable ∙ size);
    }

pub returns : goal.returns
returns c = record {
  before = let a = c.loop-var-test.false in
      let b = c.loop-var.auto.var-end in (
        all_places (length c.args.self.now.values.now) c.args.self.now.code.now c.loop-var.var
            c.loop-var.images.items (omega (arith, b)) (omega (arith, a)) c.loop-var.invariant.list,
        c.loop-var.invariant.over,
      );
}
