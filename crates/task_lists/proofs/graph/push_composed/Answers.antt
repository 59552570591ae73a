use Rattle.std.proofs.Common.{◌++◌, map, sym, subst, arith}
use Rattle.std.proofs.lemmas.List.{append-nil, take_all}
use Rattle.std.proofs.lemmas.Result.{err_from_is_err_and}
use Rattle.algebra.proofs.Growing.{any_mapped}
use Rattle.algebra.specs.Fraction.{ℚ}
use Rattle.polynomials.specs.Terms.{compose}
use Rattle.poly.specs.Seen.{terms_in, terms_each}
use Rattle.poly.specs.Standing.{AllStandFor}
use Rattle.task_lists.specs.Shapes.{width_of}
use Rattle.task_lists.proofs.Differences.{pushed, composed_stands, composed_next}
use Rattle.task_lists.proofs.graph.push_composed.Goals as goal

pub loop-element-init : goal.loop-element-init
loop-element-init c = λ qs a. subst (AllStandFor (width_of c.args.shape) c.args.out.now.items)
    (sym (append-nil qs)) a

pub loop-element-preserved : goal.loop-element-preserved
loop-element-preserved c = λ qs a.
    let w = width_of c.args.shape in
    let images = c.args.before.now.items in
    let i = c.loop-element.element-index in
    let g = c.element-item.result in
    let p = c.in_ok-compose.field-0 in
    subst (AllStandFor w c.push.new.self.items) (composed_next (λ t. compose ℚ w t
    (terms_each images)) c.args.list.now i g c.loop-element-test.true c.element-item.is qs)
    (pushed w _ _ _ c.in_ok-push.ensures.items (c.loop-element.invariant qs a) (composed_stands w
    images c.requires.before
    (let x = c.requires.count in let y = c.requires.some in omega (arith, x, y)) g
    c.in_ok-compose.ensures.composition))

pub returns-clause-composed : goal.returns-clause-composed
returns-clause-composed c = λ qs a.
    let w = width_of c.args.shape in
    subst (λ gs. AllStandFor w c.loop-element.out.items (qs ++ map
    (λ t. compose ℚ w t (terms_each c.args.before.now.items)) (terms_each gs)))
    (take_all _ _ c.loop-element-test.false) (c.loop-element.invariant qs a)

pub returns-in_err-compose-clause-wide : goal.returns-in_err-compose-clause-wide
returns-in_err-compose-clause-wide c =
    let p = err_from_is_err_and c.from_residual.result c.from_residual.ensures.1 in
    λ w. any_mapped terms_in _ _ _ _ c.loop-element-test.true c.element-item.is
    (c.in_err-compose.ensures.wide (cc (p.1, p.2, w)))
