use Rattle.std.proofs.Common.{◌++◌, List, [], map, sym, subst, arith}
use Rattle.std.proofs.lemmas.Result.{err_from_is_err_and}
use Rattle.algebra.specs.Fraction.{ℚ}
use Rattle.polynomials.specs.Terms.{compose}
use Rattle.poly.specs.Seen.{terms_each}
use Rattle.poly.specs.Standing.{AllStandFor}
use Rattle.loop_model.specs.FracPoly.{FracPoly}
use Rattle.task_lists.specs.Shapes.{width_of}
use Rattle.task_lists.proofs.Differences.{images_count, graph_rest, past_graph}
use Rattle.task_lists.proofs.graph.graph.Goals as goal

pub push_differences-requires-clause-count : goal.push_differences-requires-clause-count
push_differences-requires-clause-count c =
    let s = c.args.shape in
    images_count s.front s.variables (width_of s) c.in_ok-images.images.items c.args.before.items
    (omega arith) c.requires.count c.in_ok-images.ensures.images

pub returns-in_err-push_differences-clause-wide : goal.returns-in_err-push_differences-clause-wide
returns-in_err-push_differences-clause-wide c =
    let s = c.args.shape in
    let p = err_from_is_err_and c.from_residual-in_err-push_differences.result
    c.from_residual-in_err-push_differences.ensures.1 in
    λ w. past_graph s.front s.copies _ _ c.in_ok-images.ensures.images (terms_each c.args.forms.now)
    (terms_each c.args.list.now) (c.in_err-push_differences.ensures.wide (cc (p.1, p.2, w)))

pub returns-clause-graph : goal.returns-clause-graph
returns-clause-graph c =
    let s = c.args.shape in
    let w = width_of s in
    let none = subst (λ (ps : List FracPoly). AllStandFor w ps []) (sym c.new-out.ensures.items)
    tt in
    let first = c.in_ok-push_composed.ensures.composed [] none in
    let both = c.in_ok-push_differences.ensures.differences _ first in
    subst (λ l. AllStandFor w c.push_differences.new.out.items (map (λ g. compose ℚ w g
    (terms_each c.args.before.items)) (terms_each c.args.list.now) ++ l)) (graph_rest s.front
    s.copies _ _ c.in_ok-images.ensures.images (terms_each c.args.forms.now)) both
