use Rattle.std.proofs.Common.{map, ap}
use Rattle.poly.specs.Seen.{terms_in, terms_each}
use Rattle.loop_model.specs.FracPoly.{FracPoly}
use Rattle.algebra.proofs.Growing.{grown, all_grown}
use Rattle.invariant_fix.proofs.analysis.copy_list.Goals as goal

pub loop-poly-init : goal.loop-poly-init
loop-poly-init c = record {
  terms = ap terms_each c.new-out.ensures.items;
  arity = ap (map (λ (p : FracPoly). p.arity)) c.new-out.ensures.items;
}

pub loop-poly-preserved : goal.loop-poly-preserved
loop-poly-preserved c =
    let x = c.poly-item.result in
    let e = c.in_ok-copy.ensures in
    record {
      terms = grown terms_in terms_in _ _ x _ _ c.in_ok-copy.field-0
          c.loop-poly-test.true c.poly-item.is c.in_ok-push.ensures.items e.terms
          c.loop-poly.invariant.terms;
      arity =
          grown (λ (p : FracPoly). p.arity) (λ (p : FracPoly). p.arity) _ _ x _ _
          c.in_ok-copy.field-0 c.loop-poly-test.true c.poly-item.is c.in_ok-push.ensures.items
          e.arity c.loop-poly.invariant.arity;
    }

pub returns-clause-same : goal.returns-clause-same
returns-clause-same c =
    all_grown (λ (p : FracPoly). terms_in p) (λ (p : FracPoly). terms_in p) _ _ _
    c.loop-poly-test.false c.loop-poly.invariant.terms

pub returns-clause-arities : goal.returns-clause-arities
returns-clause-arities c =
    all_grown (λ (p : FracPoly). p.arity) (λ (p : FracPoly). p.arity) _ _ _ c.loop-poly-test.false
    c.loop-poly.invariant.arity
