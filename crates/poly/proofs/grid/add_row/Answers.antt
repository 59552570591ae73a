use Rattle.std.proofs.Common.{◌≤◌, ◌+◌, ◌^◌, length, map, refl, sym, ap, ap₂, subst, set, ◌∙◌, arith}
use Rattle.std.proofs.lemmas.List.{take_all, length-set, map-set}
use Rattle.poly.specs.View.{term_of}
use Rattle.poly.specs.Places.{place_of, IsInside}
use Rattle.algebra.proofs.Lists.{at_index, take_next}
use Rattle.poly.proofs.GridRows.{number_at, inside_own, other_inside, row_place, row_start, row_step, row_end, row_add_past, row_mul_past}
use Rattle.poly.proofs.grid.add_row.Goals as goal

pub place-row-requires-clause-inside : goal.place-row-requires-clause-inside
place-row-requires-clause-inside g c =
    subst (λ es. IsInside c.args.base (length es) es) (sym (c.as_slice.ensures
    ∙ c.exponents.ensures.exponents))
    (c.requires.grid.left 0 (term_of g.K.Ring.meaning c.args.term.now) (omega arith))

pub loop-other-init : goal.loop-other-init
loop-other-init g c = record {
  size = refl;
  row = row_start g.K.Ring.scalars c.args.base
      (length c.args.term.now.mono) (term_of g.K.Ring.meaning c.args.term.now)
      (map (term_of g.K.Ring.meaning) c.args.right.now) _ _ _ refl refl;
}

pub place-requires-clause-inside : goal.place-requires-clause-inside
place-requires-clause-inside g c =
    let t = term_of g.K.Ring.meaning in
    let is = at_index t _ _ _ c.loop-other-test.true c.other-item.is in
    let m = length c.args.term.now.mono in
    subst (λ es. IsInside c.args.base (length es) es)
    (sym (c.as_slice-in-loop-other.ensures ∙ c.exponents-in-loop-other.ensures.exponents))
    (inside_own c.args.base m _ (other_inside g.K.Ring.scalars c.args.base m (t c.args.term.now)
    (map t c.args.right.now) c.requires.grid _ _ (t c.other-item.result) is))

pub place-requires-clause-small : goal.place-requires-clause-small
place-requires-clause-small g c =
    let t = term_of g.K.Ring.meaning in
    let is = at_index t _ _ _ c.loop-other-test.true c.other-item.is in
    let m = length c.args.term.now.mono in
    let inside = other_inside g.K.Ring.scalars c.args.base m (t c.args.term.now)
    (map t c.args.right.now) c.requires.grid _ _ (t c.other-item.result) is in
    subst (λ n. c.args.base ^ n ≤ 1048576)
    (sym (ap length (c.as_slice-in-loop-other.ensures ∙ c.exponents-in-loop-other.ensures.exponents)
    ∙ inside.arity))
    c.requires.grid.small

pub overflow_add-at : goal.overflow_add-at
overflow_add-at g c =
    let t = term_of g.K.Ring.meaning in
    let is = at_index t _ _ _ c.loop-other-test.true c.other-item.is in
    let m = length c.args.term.now.mono in
    let below = row_place g.K.Ring.scalars c.args.base m (t c.args.term.now)
    (map t c.args.right.now) c.requires.grid _ _ (t c.other-item.result) is in
    let row = c.place-row.ensures ∙ ap (place_of c.args.base) (c.as_slice.ensures
    ∙ c.exponents.ensures.exponents) in
    let other = c.place.ensures
    ∙ ap (place_of c.args.base) (c.as_slice-in-loop-other.ensures
    ∙ c.exponents-in-loop-other.ensures.exponents) in
    omega (arith, below, row, other, c.requires.grid.small)

pub index-requires : goal.index-requires
index-requires g c =
    let t = term_of g.K.Ring.meaning in
    let is = at_index t _ _ _ c.loop-other-test.true c.other-item.is in
    let m = length c.args.term.now.mono in
    let below = row_place g.K.Ring.scalars c.args.base m (t c.args.term.now)
    (map t c.args.right.now) c.requires.grid _ _ (t c.other-item.result) is in
    let row = c.place-row.ensures ∙ ap (place_of c.args.base) (c.as_slice.ensures
    ∙ c.exponents.ensures.exponents) in
    let other = c.place.ensures
    ∙ ap (place_of c.args.base) (c.as_slice-in-loop-other.ensures
    ∙ c.exponents-in-loop-other.ensures.exponents) in
    omega (
      arith,
      below,
      row,
      other,
      c.loop-other.invariant.size,
      c.requires.size,
      c.loop-other.grid.ok.0,
    )

pub index_mut-requires : goal.index_mut-requires
index_mut-requires g c =
    let t = term_of g.K.Ring.meaning in
    let is = at_index t _ _ _ c.loop-other-test.true c.other-item.is in
    let m = length c.args.term.now.mono in
    let below = row_place g.K.Ring.scalars c.args.base m (t c.args.term.now)
    (map t c.args.right.now) c.requires.grid _ _ (t c.other-item.result) is in
    let row = c.place-row.ensures ∙ ap (place_of c.args.base) (c.as_slice.ensures
    ∙ c.exponents.ensures.exponents) in
    let other = c.place.ensures
    ∙ ap (place_of c.args.base) (c.as_slice-in-loop-other.ensures
    ∙ c.exponents-in-loop-other.ensures.exponents) in
    omega (
      arith,
      below,
      row,
      other,
      c.loop-other.invariant.size,
      c.requires.size,
      c.loop-other.grid.ok.0,
    )

pub returns-in_err-product-clause-wide : goal.returns-in_err-product-clause-wide
returns-in_err-product-clause-wide g c =
    let S = g.K.Ring.scalars in
    let t = term_of g.K.Ring.meaning in
    let is = at_index t _ _ _ c.loop-other-test.true c.other-item.is in
    λ _ p h. row_mul_past S c.args.base (length c.args.term.now.mono) (t c.args.term.now)
    (map t c.args.right.now) g.met.K.Ring.ring _ _ (t c.other-item.result) S.zero S.zero 0
    g.met.K.Ring.bounded is
    (c.in_err-product.ensures.wide refl) p

pub returns-in_err-grid-clause-wide : goal.returns-in_err-grid-clause-wide
returns-in_err-grid-clause-wide g c =
    let S = g.K.Ring.scalars in
    let k = g.K.Ring.meaning in
    let t = term_of k in
    let is = at_index t _ _ _ c.loop-other-test.true c.other-item.is in
    let row = c.place-row.ensures ∙ ap (place_of c.args.base) (c.as_slice.ensures
    ∙ c.exponents.ensures.exponents) in
    let other = c.place.ensures
    ∙ ap (place_of c.args.base) (c.as_slice-in-loop-other.ensures
    ∙ c.exponents-in-loop-other.ensures.exponents) in
    λ _ p h. row_add_past S c.args.base (length c.args.term.now.mono) (t c.args.term.now)
    (map t c.args.right.now) g.met.K.Ring.ring _ _ (t c.other-item.result)
    (k c.index.result.now) (k c.in_ok-product.product) (c.place-row.result + c.place.result)
    g.met.K.Ring.bounded _ _ c.requires.grid is (ap₂ ◌+◌ row other) c.in_ok-product.ensures.ok
    (number_at k c.loop-other.grid.items _ _ c.index.ensures) c.loop-other.invariant.row
    (c.in_err-grid.ensures.wide refl) p h

pub loop-other-preserved : goal.loop-other-preserved
loop-other-preserved g c =
    let S = g.K.Ring.scalars in
    let k = g.K.Ring.meaning in
    let t = term_of k in
    let at = c.place-row.result + c.place.result in
    let is = at_index t _ _ _ c.loop-other-test.true c.other-item.is in
    let row = c.place-row.ensures ∙ ap (place_of c.args.base) (c.as_slice.ensures
    ∙ c.exponents.ensures.exponents) in
    let other = c.place.ensures
    ∙ ap (place_of c.args.base) (c.as_slice-in-loop-other.ensures
    ∙ c.exponents-in-loop-other.ensures.exponents) in
    record {
      size = length-set c.loop-other.grid.items at c.in_ok-grid.field-0
          ∙ c.loop-other.invariant.size;
      row = row_step S c.args.base (length c.args.term.now.mono) (t c.args.term.now)
          (map t c.args.right.now) g.met.K.Ring.ring _ _ (t c.other-item.result)
          (k c.index.result.now) (k c.in_ok-product.product) at _ _ _ _ c.requires.grid is
          (take_next t _ _ _ c.loop-other-test.true c.other-item.is) (ap₂ ◌+◌ row other)
          c.in_ok-product.ensures.ok (number_at k c.loop-other.grid.items _ _ c.index.ensures)
          (map-set k c.loop-other.grid.items at c.in_ok-grid.field-0
          ∙ ap (set (map k c.loop-other.grid.items) at) c.in_ok-grid.ensures.ok)
          c.loop-other.invariant.row;
    }

pub returns-clause-ok : goal.returns-clause-ok
returns-clause-ok g c =
    row_end g.K.Ring.scalars c.args.base (length c.args.term.now.mono)
    (term_of g.K.Ring.meaning c.args.term.now) (map (term_of g.K.Ring.meaning) c.args.right.now)
    _ _ _ (ap (map (term_of g.K.Ring.meaning)) (take_all _ _ c.loop-other-test.false))
    c.loop-other.invariant.row
