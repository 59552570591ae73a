use Rattle.std.proofs.Common.{refl, ◌^◌, ◌++◌, ◌∷◌, [], length, map, take, sym, ap, subst, ◌∙◌}
use Rattle.std.proofs.lemmas.List.{take_all, length-map}
use Rattle.std.proofs.lemmas.Result.{err_from_is_err_and}
use Rattle.polynomials.specs.Terms.{times}
use Rattle.poly.specs.Places.{IsGridFor}
use Rattle.poly.specs.Grid.{Holds, Read}
use Rattle.poly.specs.View.{term_of}
use Rattle.poly.proofs.IsLaws.{is_as}
use Rattle.algebra.proofs.Lists.{at_index, take_next}
use Rattle.poly.proofs.Halves.{same_trans}
use Rattle.poly.proofs.GridHolds.{holds-nil, product-none, read-same, arities_read}
use Rattle.poly.proofs.GridRows.{grid_for_row, past_so_far}
use Rattle.poly.proofs.GridSteps.{row_arity, all_are}
use Rattle.poly.proofs.grid.dense_product.Goals as goal

pub loop-term-init : goal.loop-term-init
loop-term-init g c =
    let S = g.K.Ring.scalars in
    let k = g.K.Ring.meaning in
    subst (Holds S.arithmetic c.args.base c.args.arity (map k c.in_ok-grid.grid.items))
    (sym (product-none S (map (term_of k) c.args.right.now)))
    (holds-nil S c.args.base c.args.arity _ (length c.in_ok-grid.grid.items)
    (all_are k S.zero c.in_ok-grid.grid.items c.in_ok-grid.ensures.ok)
    (c.in_ok-grid.ensures.count ∙ c.requires.places))

pub add_row-requires-clause-size : goal.add_row-requires-clause-size
add_row-requires-clause-size g c =
    let t = term_of g.K.Ring.meaning in
    let arity = row_arity g.K.Ring.scalars c.args.base c.args.arity _ _ _ _ _
    (at_index t _ _ _ c.loop-term-test.true c.term-item.is) c.requires.grid in
    sym (length-map c.loop-term.grid.items g.K.Ring.meaning) ∙ c.loop-term.invariant.size
    ∙ ap (λ n. c.args.base ^ n) (sym arity)

pub add_row-requires-clause-grid : goal.add_row-requires-clause-grid
add_row-requires-clause-grid g c =
    let S = g.K.Ring.scalars in
    let t = term_of g.K.Ring.meaning in
    let is = at_index t _ _ _ c.loop-term-test.true c.term-item.is in
    let arity = row_arity S c.args.base c.args.arity _ _ _ _ _ is c.requires.grid in
    subst (λ n. IsGridFor S.arithmetic c.args.base n (t c.term-item.result ∷ [])
    (map t c.args.right.now)) (sym arity) (grid_for_row S c.args.base c.args.arity _ _ _ _ _
    is c.requires.grid)

pub returns-in_err-add_row-clause-wide : goal.returns-in_err-add_row-clause-wide
returns-in_err-add_row-clause-wide g c =
    let S = g.K.Ring.scalars in
    let k = g.K.Ring.meaning in
    let t = term_of k in
    let is = at_index t _ _ _ c.loop-term-test.true c.term-item.is in
    let arity = row_arity S c.args.base c.args.arity _ _ _ _ _ is c.requires.grid in
    let p = err_from_is_err_and c.from_residual-in_err-add_row.result
    c.from_residual-in_err-add_row.ensures.1 in
    let held = subst (λ n. Holds S.arithmetic c.args.base n (map k c.loop-term.grid.items)
    (times S.arithmetic (map t (take c.loop-term.term-index c.args.left.now))
    (map t c.args.right.now))) (sym arity) c.loop-term.invariant in
    λ w. past_so_far S g.met.K.Ring.ring g.met.K.Ring.bounded _ _ _ (map t c.args.right.now) _ is
    (c.in_err-add_row.ensures.wide (cc (p.1, p.2))
    (map t (take c.loop-term.term-index c.args.left.now)) held)

pub loop-term-preserved : goal.loop-term-preserved
loop-term-preserved g c =
    let S = g.K.Ring.scalars in
    let k = g.K.Ring.meaning in
    let t = term_of k in
    let q = map t c.args.right.now in
    let is = at_index t _ _ _ c.loop-term-test.true c.term-item.is in
    let arity = row_arity S c.args.base c.args.arity _ _ _ _ _ is c.requires.grid in
    let held = subst (λ n. Holds S.arithmetic c.args.base n (map k c.loop-term.grid.items)
    (times S.arithmetic (map t (take c.loop-term.term-index c.args.left.now)) q)) (sym arity)
    c.loop-term.invariant in
    subst (λ ps. Holds S.arithmetic c.args.base c.args.arity (map k c.add_row.new.grid.items)
    (times S.arithmetic ps q)) (sym (take_next t _ _ _ c.loop-term-test.true c.term-item.is))
    (subst (λ n. Holds S.arithmetic c.args.base n (map k c.add_row.new.grid.items)
    (times S.arithmetic (map t (take c.loop-term.term-index c.args.left.now)
    ++ t c.term-item.result ∷ []) q)) arity
    (c.in_ok-add_row.ensures.ok (map t (take c.loop-term.term-index c.args.left.now)) held))

pub sum_of-requires-clause-arities : goal.sum_of-requires-clause-arities
sum_of-requires-clause-arities g c = arities_read g.K.Ring.scalars c.args.base c.args.arity
    g.K.Ring.meaning _ c.in_ok-terms.terms.items c.in_ok-terms.ensures.ok

pub returns-clause-product : goal.returns-clause-product
returns-clause-product g c =
    let S = g.K.Ring.scalars in
    let k = g.K.Ring.meaning in
    let t = term_of k in
    let q = map t c.args.right.now in
    let whole = ap (map t) (take_all _ _ c.loop-term-test.false) in
    let held =
    subst (λ ps. Holds S.arithmetic c.args.base c.args.arity (map k c.loop-term.grid.items)
    (times S.arithmetic ps q)) whole c.loop-term.invariant in
    let read = subst (λ xs. Read S.arithmetic c.args.base c.args.arity (map k xs)
    (map t c.in_ok-terms.terms.items)) c.deref.ensures.value c.in_ok-terms.ensures.ok in
    let same = read-same S c.args.base c.args.arity g.met.K.Ring.ring _ _ _ c.requires.grid.positive
    read held in
    is_as c.sum_of.result _ _ _ _ _ _ refl refl (λ p sum. same_trans S _ _ _ sum same)
    c.sum_of.ensures.sum
