use Rattle.std.proofs.Common.{drop, length, map, ap, arith, ◌∙◌}
use Rattle.std.proofs.lemmas.List.{take_all}
use Rattle.linear.specs.Rows.{rows_of}
use Rattle.closed_forms.proofs.Rows.{behind_is, widths_low}
use Rattle.closed_forms.proofs.matrices.FormMatrix.inverse.Goals as goal

pub split_at-requires : goal.split_at-requires
split_at-requires c =
    let low = widths_low _ _ (ap rows_of c.deref-row-items.ensures.value ∙ c.rows.ensures)
    c.in_ok-echelon.ensures.echelon.widths c.loop-row.row-index c.row-item.result
    c.loop-row-test.true in
    let n = ap length c.as_slice.ensures.value ∙ ap (λ v. length v.items) c.row-item.is in
    omega (arith, low, n)

pub returns-clause-inverse : goal.returns-clause-inverse
returns-clause-inverse c = behind_is _ c.in_ok-echelon.ensures.echelon (c.loop-row.invariant
    ∙ ap (map (drop (length c.args.self.now.forms.now))) (ap rows_of (take_all _ _
    c.loop-row-test.false ∙ c.deref-row-items.ensures.value) ∙ c.rows.ensures))
