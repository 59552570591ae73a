use Rattle.std.proofs.Common.{◌<◌, ◌++◌, ◌∷◌, [], length, ap, ap₂, sym, ◌∙◌, arith}
use Rattle.std.proofs.lemmas.List.{map-append}
use Rattle.algebra.specs.Fraction.{ℚ}
use Rattle.polynomials.specs.Terms.{variables}
use Rattle.loops.proofs.Maps.{length-variables}
use Rattle.poly.specs.Seen.{terms_in, terms_each}
use Rattle.poly.specs.Standing.{IsInVariables}
use Rattle.std.proofs.lemmas.List.{take_more}
use Rattle.algebra.proofs.Lists.{have_more}
use Rattle.loop_model.specs.FracPoly.{FracPoly}
use Rattle.task_lists.specs.Shapes.{width_of}
use Rattle.task_lists.proofs.graph.behind_front.Goals as goal

pub loop-place-preserved : goal.loop-place-preserved
loop-place-preserved c =
    let w = width_of c.args.shape in
    let p = c.in_ok-variable.field-0 in
    let here = c.loop-place-test.true in
    let l : c.loop-place.place < length (variables ℚ w) =
    (let e = length-variables w in omega (arith, e, here)) in
    record {
      images = ap terms_each c.in_ok-push.ensures.items
          ∙ map-append (λ (q : FracPoly). terms_in q) c.loop-place.images.items (p ∷ [])
          ∙ ap₂ (λ l t. l ++ t ∷ []) c.loop-place.invariant.images c.in_ok-variable.ensures.terms
          ∙ sym (take_more _ _ [] l);
      over = have_more (IsInVariables w) _ _ p
          c.in_ok-push.ensures.items c.loop-place.invariant.over c.in_ok-variable.ensures.arity;
    }
