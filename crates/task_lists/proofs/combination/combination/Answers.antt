use Rattle.std.proofs.Common.{sym, ◌∙◌, arith}
use Rattle.std.proofs.lemmas.Result.{err_from_is_err_and}
use Rattle.algebra.proofs.Fractions.{ℚ_ring}
use Rattle.poly.specs.Seen.{terms_in}
use Rattle.task_lists.proofs.Combinations.{combined_none, combined_step, combined_all}
use Rattle.task_lists.proofs.Combining.{product_past, sum_past, image_at, place_in, polynomial_as}
use Rattle.task_lists.proofs.combination.combination.Goals as goal

pub loop-i-init : goal.loop-i-init
loop-i-init g c = record {
  order = c.zero-sum.ensures.order;
  arity = c.zero-sum.ensures.arity;
  same = combined_none ℚ_ring terms_in c.args.cofactors.now c.args.list.now
      (terms_in c.zero-sum.result) c.zero-sum.ensures.terms;
}

pub mul-requires-clause-order : goal.mul-requires-clause-order
mul-requires-clause-order g c =
    (image_at _ _ _ c.requires.cofactors c.loop-i.i c.index-cofactors-i.result c.loop-i-test.true
    c.index-cofactors-i.is).order ∙ sym (image_at _ _ _ c.requires.list c.loop-i.i
    c.index-list-i.result (omega (arith, c.loop-i-test.true, c.requires.count))
    c.index-list-i.is).order

pub mul-requires-clause-arity : goal.mul-requires-clause-arity
mul-requires-clause-arity g c =
    (image_at _ _ _ c.requires.cofactors c.loop-i.i c.index-cofactors-i.result c.loop-i-test.true
    c.index-cofactors-i.is).arity ∙ sym (image_at _ _ _ c.requires.list c.loop-i.i
    c.index-list-i.result (omega (arith, c.loop-i-test.true, c.requires.count))
    c.index-list-i.is).arity

pub add-requires-clause-order : goal.add-requires-clause-order
add-requires-clause-order g c =
    c.loop-i.invariant.order ∙ sym (c.in_ok-mul.ensures.product.order ∙ (image_at _ _ _
    c.requires.cofactors c.loop-i.i c.index-cofactors-i.result c.loop-i-test.true
    c.index-cofactors-i.is).order)

pub add-requires-clause-arity : goal.add-requires-clause-arity
add-requires-clause-arity g c =
    c.loop-i.invariant.arity ∙ sym (c.in_ok-mul.ensures.product.arity ∙ (image_at _ _ _
    c.requires.cofactors c.loop-i.i c.index-cofactors-i.result c.loop-i-test.true
    c.index-cofactors-i.is).arity)

pub loop-i-preserved : goal.loop-i-preserved
loop-i-preserved g c = record {
  order = c.in_ok-sum.ensures.sum.order ∙ c.loop-i.invariant.order;
  arity = c.in_ok-sum.ensures.sum.arity ∙ c.loop-i.invariant.arity;
  same =
      combined_step ℚ_ring terms_in c.args.cofactors.now c.args.list.now c.loop-i.i
      c.index-list-i.result _ _ _ c.loop-i-test.true
      (omega (arith, c.loop-i-test.true, c.requires.count)) c.index-cofactors-i.is c.index-list-i.is
      c.loop-i.invariant.same c.in_ok-mul.ensures.product.same c.in_ok-sum.ensures.sum.same;
}

pub returns-clause-sum : goal.returns-clause-sum
returns-clause-sum g c = record {
  order = c.loop-i.invariant.order;
  arity = c.loop-i.invariant.arity;
  same =
      combined_all ℚ_ring terms_in c.args.cofactors.now c.args.list.now c.loop-i.i _
      (omega (arith, c.loop-i-test.false)) (omega (arith, c.loop-i-test.false, c.requires.count))
      c.loop-i.invariant.same;
}

pub returns-in_err-mul-clause-wide : goal.returns-in_err-mul-clause-wide
returns-in_err-mul-clause-wide g c =
    let p = err_from_is_err_and c.from_residual.result c.from_residual.ensures.1 in
    let within = c.loop-i-test.true in
    let inside = place_in terms_in c.args.list.now c.loop-i.i
    (omega (arith, within, c.requires.count)) in
    rw (p.1, p.2) (λ e. product_past _ _ c.loop-i.i inside.0 ((place_in terms_in
    c.args.cofactors.now c.loop-i.i within).1 c.index-cofactors-i.result c.index-cofactors-i.is)
    (inside.1 c.index-list-i.result c.index-list-i.is) (c.in_err-mul.ensures.wide e))

pub returns-in_err-sum-clause-wide : goal.returns-in_err-sum-clause-wide
returns-in_err-sum-clause-wide g c =
    let p = err_from_is_err_and c.from_residual-in_err-sum.result
    c.from_residual-in_err-sum.ensures.1 in
    let within = c.loop-i-test.true in
    let first = place_in terms_in c.args.cofactors.now c.loop-i.i within in
    let inside = place_in terms_in c.args.list.now c.loop-i.i
    (omega (arith, within, c.requires.count)) in
    let image = image_at _ _ _ c.requires.cofactors
    c.loop-i.i c.index-cofactors-i.result within c.index-cofactors-i.is in
    let product = c.in_ok-mul.ensures.product in
    rw (p.1, p.2) (λ e. sum_past _ _ c.loop-i.i inside.0
    (first.1 c.index-cofactors-i.result c.index-cofactors-i.is)
    (inside.1 c.index-list-i.result c.index-list-i.is) _ (g.met.O.Order.is_order c.args.order)
    c.args.arity (terms_in c.loop-i.sum) first.0 (polynomial_as _ _ c.loop-i.sum
    c.loop-i.invariant.order c.loop-i.invariant.arity) (polynomial_as _ _ c.in_ok-mul.field-0
    (product.order ∙ image.order) (product.arity ∙ image.arity)) c.loop-i.invariant.same
    product.same (c.in_err-sum.ensures.wide e))
