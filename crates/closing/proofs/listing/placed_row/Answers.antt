use Rattle.std.proofs.Common.{length, refl, ap, ◌∙◌, arith}
use Rattle.loop_model.specs.FracPoly.{FracPoly}
use Rattle.closing.proofs.Listed.{set_over, filled_more, filled_done, row_placed}
use Rattle.closing.proofs.listing.placed_row.Goals as goal

pub loop-index-preserved : goal.loop-index-preserved
loop-index-preserved c =
    let ks = c.args.elements.now.places.items in
    let p = c.index-cofactors-index.result in
    let q = c.in_ok-row-2.field-0 in
    let l = c.loop-index-test.true in
    record {
      filled =
          filled_more ks _ (length c.args.elements.now.list.items)
          c.loop-index.index c.index.result.now p q c.loop-index.row.items _
          (let n = c.requires.count in omega (arith, l, n)) l c.index.ensures
          c.index-cofactors-index.is c.in_ok-row-2.ensures.terms refl
          c.loop-index.invariant.filled;
      over =
          set_over c.args.arity c.loop-index.row.items c.index.result.now q
          c.loop-index.invariant.over
          (c.in_ok-row-2.ensures.arity
          ∙ ap (λ (x : FracPoly). x.arity) c.index-cofactors-index.is
          ∙ c.requires.over c.loop-index.index p l);
    }

pub returns-clause-placed : goal.returns-clause-placed
returns-clause-placed c = λ m closure f.
    row_placed m closure c.args.elements.now f c.args.cofactors.now _ (filled_done _ _
    (length c.args.elements.now.list.items) c.loop-index.index c.loop-index.row.items
    (let n = c.requires.count in
    let l = c.loop-index-test.false in
    omega (arith, l, n)) c.loop-index.invariant.filled)
