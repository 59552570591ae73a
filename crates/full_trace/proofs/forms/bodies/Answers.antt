use Rattle.std.proofs.Common.{◌≡◌, sym, ap, subst, ◌∙◌, length}
use Rattle.std.specs.List.{All}
use Rattle.std.proofs.lemmas.List.{map-id}
use Rattle.std.proofs.lemmas.Iterator.Adapters.{YieldsList-from_vec}
use Rattle.std.proofs.lemmas.Iterator.Consumers.{YieldsList-end}
use Rattle.poly.specs.Seen.{terms_each}
use Rattle.solvable_maps.specs.Iterations.{width}
use Rattle.loop_model.specs.FracPoly.{FracPoly}
use Rattle.full_trace.proofs.FormsMade.{polys_of, bodies_terms, bodies_over}
use Rattle.full_trace.proofs.forms.bodies.Goals as goal

pub returns-clause-bodies : goal.returns-clause-bodies
returns-clause-bodies c =
    let gives = c.into_iter-poly-iterator.ensures.into_iter_gives in
    let e = YieldsList-end (YieldsList-from_vec {s = c.into_iter-poly-iterator.result} _ gives.0
    (gives.1 ∙ c.args.polys.ok.0)) _ _ c.loop-poly.yielded_by _ c.next.new.self c.in-None.is
    c.next.ensures.steps in
    ap terms_each (c.loop-poly.invariant ∙ ap polys_of (sym (map-id c.loop-poly.yielded) ∙ e.0))
    ∙ bodies_terms c.args.polys.items

pub returns-clause-over : goal.returns-clause-over
returns-clause-over c = λ base m a.
    let gives = c.into_iter-poly-iterator.ensures.into_iter_gives in
    let e = YieldsList-end (YieldsList-from_vec {s = c.into_iter-poly-iterator.result} _ gives.0
    (gives.1 ∙ c.args.polys.ok.0)) _ _ c.loop-poly.yielded_by _ c.next.new.self c.in-None.is
    c.next.ensures.steps in
    subst (All (λ (p : FracPoly). p.arity ≡ width (length base) m))
    (sym (c.loop-poly.invariant ∙ ap polys_of (sym (map-id c.loop-poly.yielded) ∙ e.0)))
    (bodies_over base m c.args.polys.items a)
