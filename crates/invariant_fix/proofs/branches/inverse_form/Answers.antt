use Rattle.std.proofs.Common.{map, length, sym, ap, ap₂, ◌∙◌}
use Rattle.polynomials.specs.Order.{grevlex}
use Rattle.poly.specs.Seen.{terms_in, terms_each}
use Rattle.solvable_maps.specs.Iterations.{width}
use Rattle.expo.specs.View.{base_of}
use Rattle.expo.specs.declared.exponential.Expo.{Expo}
use Rattle.loop_model.specs.FracPoly.{FracPoly}
use Rattle.rounds.specs.Form.{inverse_form}
use Rattle.algebra.proofs.Growing.{grown, all_grown}
use Rattle.invariant_fix.proofs.branches.inverse_form.Goals as goal

pub loop-poly-init : goal.loop-poly-init
loop-poly-init c = record {
  terms = ap terms_each c.new-out.ensures.items;
  arity = ap (map (λ (p : FracPoly). p.arity)) c.new-out.ensures.items;
}

pub loop-poly-preserved : goal.loop-poly-preserved
loop-poly-preserved c =
    let e = c.in_ok-inverse_form.field-0 in
    let x = c.poly-item.result in
    let is = c.in_ok-inverse_form.ensures.inverse_form in
    let body = c.into_body.ensures in
    record {
      terms = grown terms_in (λ (e : Expo). inverse_form grevlex (length (base_of e))
          (terms_in e.body)) _ _ x _ _ c.into_body.result c.loop-poly-test.true c.poly-item.is
          c.in_ok-push.ensures.items (ap terms_in body ∙ is.terms) c.loop-poly.invariant.terms;
      arity =
          grown (λ (p : FracPoly). p.arity) (λ (e : Expo). e.body.arity) _ _ x _ _
          c.into_body.result c.loop-poly-test.true c.poly-item.is c.in_ok-push.ensures.items
          (ap (λ (p : FracPoly). p.arity) body ∙ e.arity ∙ ap₂ (λ bs n. width (length bs) n)
          is.over_base is.over_vars ∙ sym x.arity) c.loop-poly.invariant.arity;
    }

pub returns-clause-terms : goal.returns-clause-terms
returns-clause-terms c = all_grown (λ (p : FracPoly). terms_in p) (λ (e : Expo).
    inverse_form grevlex (length (base_of e)) (terms_in e.body)) _ _ _ c.loop-poly-test.false
    c.loop-poly.invariant.terms

pub returns-clause-arity : goal.returns-clause-arity
returns-clause-arity c =
    all_grown (λ (p : FracPoly). p.arity) (λ (e : Expo). e.body.arity) _ _ _ c.loop-poly-test.false
    c.loop-poly.invariant.arity
