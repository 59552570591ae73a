use Rattle.std.proofs.Common.{◌++◌, ◌∷◌, [], take, length, Err, sym, ap, subst, ◌∙◌}
use Rattle.vectors.specs.Adding.{IsEchelonOf}
use Rattle.linear.specs.Rows.{fractions_of, rows_of}
use Rattle.solvable_maps.specs.Inverse.{unit_list, beside}
use Rattle.closed_forms.proofs.Rows.{beside-width, past_inverse, echelon_next}
use Rattle.closed_forms.proofs.matrices.FormMatrix.echelon_beside.Goals as goal

pub add_row-requires : goal.add_row-requires
add_row-requires c =
    beside-width c.loop-place.place _ _ (ap (λ v. length v.items) c.index-forms-place.is
    ∙ c.args.self.now.square c.loop-place.place c.index-forms-place.result c.loop-place-test.true)
    (c.in_ok-row.ensures ∙ ap (λ f. fractions_of f ++ unit_list (length c.args.self.now.forms.now)
    c.loop-place.place) c.as_slice.ensures.value) ∙ sym c.loop-place.invariant.0

pub returns-in-Err-Wide-clause-wide : goal.returns-in-Err-Wide-clause-wide
returns-in-Err-Wide-clause-wide c = λ h.
    past_inverse _ c.loop-place.place _ c.loop-place-test.true c.index-forms-place.is
    (c.in_ok-row.ensures ∙ ap (λ f. fractions_of f ++ unit_list (length c.args.self.now.forms.now)
    c.loop-place.place) c.as_slice.ensures.value) c.loop-place.invariant.1
    (c.in-Err-Wide.ensures.wide c.in-Err-Wide.field-0-0 (ap Err c.in-Err-Wide.field-0-is))

pub loop-place-preserved : goal.loop-place-preserved
loop-place-preserved c =
    let n = length c.args.self.now.forms.now in (
      c.in-Ok.ensures.width ∙ c.loop-place.invariant.0,
      echelon_next n _ c.loop-place.place _ c.loop-place-test.true
          c.index-forms-place.is
          (c.in_ok-row.ensures ∙ ap (λ f. fractions_of f ++ unit_list n c.loop-place.place)
          c.as_slice.ensures.value)
          (subst (λ w.
          IsEchelonOf w (beside n 0 (rows_of (take c.loop-place.place c.args.self.now.forms.now))
          ++ fractions_of c.in_ok-row.row.items ∷ []) c.add_row.new.self.rows)
          c.loop-place.invariant.0
          (c.in-Ok.ensures.rows
          (beside n 0 (rows_of (take c.loop-place.place c.args.self.now.forms.now)))
          (subst (λ w.
          IsEchelonOf w (beside n 0 (rows_of (take c.loop-place.place c.args.self.now.forms.now)))
          c.loop-place.echelon.rows) (sym c.loop-place.invariant.0)
          c.loop-place.invariant.1))),
    )
