use Rattle.std.proofs.Common.{◌++◌, [], ◌∷◌, suc, ap, refl, ◌∙◌, Ok}
use Rattle.loop_model.specs.ExpressionView.{expr_of}
use Rattle.poly_text.specs.CursorView.{rest}
use Rattle.loop_text.specs.Seqs.{in_values, sums_in_values, no_sum_value, variable_name, last}
use Rattle.loop_text.proofs.SeqChecked.{values_embedded}
use Rattle.loop_text.specs.SequenceStates.{in_first}
use Rattle.loop_text.proofs.SequenceSumReads.{error_within, error_told}
use Rattle.loop_text.proofs.SequenceValueReads.{full_here, room_here, value_goes, value_fails, value_given}
use Rattle.loop_text.proofs.sequence_firsts.read_value.Goals as goal

pub returns-then-variables-ge-MOST_NAMES-clause-reads :
    goal.returns-then-variables-ge-MOST_NAMES-clause-reads
returns-then-variables-ge-MOST_NAMES-clause-reads c = λ ws vs rs es own e.
    c.too_many.ensures (in_first ws vs rs es own)
    (full_here _ c.args.variables e c.if-variables-ge-MOST_NAMES.true)

pub returns-in-Ok-clause-reads : goal.returns-in-Ok-clause-reads
returns-in-Ok-clause-reads c = λ ws vs rs es own l.
    ap (λ e. Ok (
      in_first ws (vs ++ variable_name (last ws) own ∷ []) rs (es ++ expr_of e ∷ [])
          (suc own),
      rest c.in-Ok.end,
    )) c.into_inner.ensures
    ∙ value_goes ws vs rs es own (expr_of c.in-Ok.sum.value.value) c.in-Ok.sum.operators
    c.args.cursor
    c.in-Ok.end (room_here _ c.args.variables l c.if-variables-ge-MOST_NAMES.false)
    (rw c.empty-none.ensures at c.in-Ok.ensures.reads [] no_sum_value)

pub returns-in-Ok-clause-given : goal.returns-in-Ok-clause-given
returns-in-Ok-clause-given c = rw c.into_inner.ensures
    (value_given [] (expr_of c.in-Ok.sum.value.value) c.in-Ok.sum.operators c.args.cursor
    c.in-Ok.end
    refl (rw c.empty-none.ensures at c.in-Ok.ensures.reads [] no_sum_value))

pub in_values-requires : goal.in_values-requires
in_values-requires c =
    error_within in_values (λ x. refl) sums_in_values values_embedded (in_first [] [] [] [] 0)
    (rest c.args.cursor) c.args.text.now c.requires.tokens c.in-Err.error
    (rw c.empty-none.ensures at c.in-Err.ensures.reads [] no_sum_value)

pub returns-clause-reads : goal.returns-clause-reads
returns-clause-reads c = λ ws vs rs es own l.
    value_fails (in_first ws vs rs es own) (rest c.args.cursor)
    (room_here _ c.args.variables l c.if-variables-ge-MOST_NAMES.false) c.in_values.result
    (error_told in_values (λ x. refl) sums_in_values values_embedded (in_first ws vs rs es own)
    (rest c.args.cursor) c.args.text.now c.requires.tokens c.in-Err.error c.in_values.result
    (rw c.empty-none.ensures at c.in-Err.ensures.reads [] no_sum_value) c.in_values.ensures)
