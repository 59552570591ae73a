use Rattle.std.proofs.Common.{map, ap, ◌∙◌}
use Rattle.poly.specs.Seen.{terms_in, terms_each}
use Rattle.expo.specs.declared.exponential.Expo.{Expo}
use Rattle.loop_model.specs.FracPoly.{FracPoly}
use Rattle.algebra.proofs.Growing.{grown, all_grown}
use Rattle.task_lists.proofs.late_form.bodies.Goals as goal

pub loop-poly-init : goal.loop-poly-init
loop-poly-init c = record {
  terms = ap terms_each c.new-out.ensures.items;
  arity = ap (map (λ (p : FracPoly). p.arity)) c.new-out.ensures.items;
}

pub loop-poly-preserved : goal.loop-poly-preserved
loop-poly-preserved c =
    let p = c.in_ok-copy.field-0 in
    record {
      terms = grown (λ (q : FracPoly). terms_in q) (λ (e : Expo). terms_in e.body) _ _ _ _ _ p
          c.loop-poly-test.true c.poly-item.is c.in_ok-push.ensures.items
          (c.in_ok-copy.ensures.terms ∙ ap terms_in c.body.ensures) c.loop-poly.invariant.terms;
      arity = grown (λ (q : FracPoly). q.arity) (λ (e : Expo). e.body.arity) _ _ _ _ _ p
          c.loop-poly-test.true c.poly-item.is c.in_ok-push.ensures.items
          (c.in_ok-copy.ensures.arity ∙ ap (λ (q : FracPoly). q.arity) c.body.ensures)
          c.loop-poly.invariant.arity;
    }

pub returns-clause-terms : goal.returns-clause-terms
returns-clause-terms c =
    all_grown (λ (q : FracPoly). terms_in q) (λ (e : Expo). terms_in e.body) _ _ _
    c.loop-poly-test.false c.loop-poly.invariant.terms

pub returns-clause-arities : goal.returns-clause-arities
returns-clause-arities c =
    all_grown (λ (q : FracPoly). q.arity) (λ (e : Expo). e.body.arity) _ _ _ c.loop-poly-test.false
    c.loop-poly.invariant.arity
