use Rattle.std.proofs.Common.{◌≡◌, ap, ◌∙◌}
use Rattle.std.proofs.lemmas.List.{take_all}
use Rattle.std.proofs.lemmas.List.Elements.{All-push, All-same}
use Rattle.poly.specs.Seen.{terms_in}
use Rattle.solvable.proofs.Using.{FracPoly}
use Rattle.closed_forms.specs.Values.{bodies_of}
use Rattle.closed_forms.proofs.Settling.{bodies_next, body_arity}
use Rattle.closed_forms.proofs.class.bodies.Goals as goal

pub loop-poly-preserved : goal.loop-poly-preserved
loop-poly-preserved c =
    let es = c.args.polys.now in
    let i = c.loop-poly.poly-index in
    let out = c.loop-poly.out.items in
    let p = c.in_ok-copy.field-0 in (
      λ w h. All-same (λ (p : FracPoly). p.arity ≡ w) _ _
          c.in_ok-push.ensures.items (All-push (λ (p : FracPoly). p.arity ≡ w) out p
          (c.loop-poly.invariant.0 w h) (body_arity es i w p c.loop-poly-test.true c.poly-item.is
          (c.in_ok-copy.ensures.arity ∙ ap (λ (p : FracPoly). p.arity) c.body.ensures) h)),
      bodies_next es i out p c.loop-poly-test.true
          c.poly-item.is c.in_ok-push.ensures.items (c.in_ok-copy.ensures.terms
          ∙ ap terms_in c.body.ensures) c.loop-poly.invariant.1,
    )

pub returns-clause-terms : goal.returns-clause-terms
returns-clause-terms c = c.loop-poly.invariant.1
    ∙ ap bodies_of (take_all _ _ c.loop-poly-test.false)
