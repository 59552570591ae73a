use Rattle.std.proofs.Common.{◌∙◌, refl, sym, ap, Some}
use Rattle.std.proofs.lemmas.Result.{err_from_is_err_and}
use Rattle.loops.specs.WellFormed.{Uses}
use Rattle.loop_model.specs.ExpressionView.{expr_of}
use Rattle.loop_model.proofs.ExprSize.{seen_unary, seen_binary}
use Rattle.loop_runs.specs.Seen.{numbers_of}
use Rattle.loop_runs.proofs.CheckedValues.{value-variable, unary_done, binary_done, unary_wide, first_wide, second_wide}
use Rattle.loop_runs.proofs.Operations.{number_read}
use Rattle.loop_runs.proofs.values.+put_value.Goals as goal

pub returns-in-Variable : goal.returns-in-Variable
unfolding expr_of Uses
returns-in-Variable t c =
    let within = rw c.in-Variable.is at c.requires in
    rw c.in-Variable.is
    (ap Some (number_read c.args.state.now c.in-Variable.index c.index-state-index.result within
    c.index-state-index.is)
    ∙ sym (value-variable _ (numbers_of c.args.state.now) c.in-Variable.index))

-- ---- one operand
pub returns-in_err-put_value-in-Unary : goal.returns-in_err-put_value-in-Unary
returns-in_err-put_value-in-Unary t c =
    let s = numbers_of c.args.state.now in
    let o = c.in-Unary.operator in
    let is = seen_unary _ _ c.in-Unary.of _ c.deref.ensures o c.in-Unary.is in
    rw (err_from_is_err_and c.from_residual.result c.from_residual.ensures.1).1 (rw is
    (unary_wide s o _ (expr_of c.deref.result.now) c.in_err-put_value-in-Unary.ensures))

pub returns-in_err-value-in-Unary : goal.returns-in_err-value-in-Unary
returns-in_err-value-in-Unary t c =
    let s = numbers_of c.args.state.now in
    let o = c.in-Unary.operator in
    let is = seen_unary _ _ c.in-Unary.of _ c.deref.ensures o c.in-Unary.is in
    rw (err_from_is_err_and c.from_residual-in_err-value-in-Unary.result
    c.from_residual-in_err-value-in-Unary.ensures.1).1 (rw is
    (unary_done s o _ (expr_of c.deref.result.now) _ _ c.in_ok-put_value-in-Unary.ensures
    c.in_err-value-in-Unary.ensures))

pub returns-in_ok-value-in-Unary : goal.returns-in_ok-value-in-Unary
returns-in_ok-value-in-Unary t c =
    let s = numbers_of c.args.state.now in
    let o = c.in-Unary.operator in
    let is = seen_unary _ _ c.in-Unary.of _ c.deref.ensures o c.in-Unary.is in
    rw is (unary_done s o _ (expr_of c.deref.result.now) _ _ c.in_ok-put_value-in-Unary.ensures
    c.in_ok-value-in-Unary.ensures)

-- ---- two operands
pub returns-in_err-put_value-in-Binary : goal.returns-in_err-put_value-in-Binary
returns-in_err-put_value-in-Binary t c =
    let s = numbers_of c.args.state.now in
    let o = c.in-Binary.operator in
    let is = seen_binary _ _ c.in-Binary.left _ c.deref-in-Binary.ensures c.in-Binary.right _ refl o
    c.in-Binary.is in
    rw (err_from_is_err_and c.from_residual-in_err-put_value-in-Binary.result
    c.from_residual-in_err-put_value-in-Binary.ensures.1).1 (rw is
    (first_wide s o _ (expr_of c.deref-in-Binary.result.now) (expr_of c.in-Binary.right.value)
    c.in_err-put_value-in-Binary.ensures))

pub returns-in_err-put_value-in-Binary-2 : goal.returns-in_err-put_value-in-Binary-2
returns-in_err-put_value-in-Binary-2 t c =
    let s = numbers_of c.args.state.now in
    let o = c.in-Binary.operator in
    let is = seen_binary _ _ c.in-Binary.left _ c.deref-in-Binary.ensures c.in-Binary.right _
    c.deref-in-Binary-2.ensures o c.in-Binary.is in
    rw (err_from_is_err_and c.from_residual-in_err-put_value-in-Binary-2.result
    c.from_residual-in_err-put_value-in-Binary-2.ensures.1).1 (rw is
    (second_wide s o _ (expr_of c.deref-in-Binary.result.now)
    (expr_of c.deref-in-Binary-2.result.now)
    _ c.in_ok-put_value-in-Binary.ensures c.in_err-put_value-in-Binary-2.ensures))

pub returns-in_err-value-in-Binary : goal.returns-in_err-value-in-Binary
returns-in_err-value-in-Binary t c =
    let s = numbers_of c.args.state.now in
    let o = c.in-Binary.operator in
    let is = seen_binary _ _ c.in-Binary.left _ c.deref-in-Binary.ensures c.in-Binary.right _
    c.deref-in-Binary-2.ensures o c.in-Binary.is in
    rw (err_from_is_err_and c.from_residual-in_err-value-in-Binary.result
    c.from_residual-in_err-value-in-Binary.ensures.1).1 (rw is
    (binary_done s o _ (expr_of c.deref-in-Binary.result.now)
    (expr_of c.deref-in-Binary-2.result.now)
    _ _ _ c.in_ok-put_value-in-Binary.ensures c.in_ok-put_value-in-Binary-2.ensures
    c.in_err-value-in-Binary.ensures))

pub returns-in_ok-value-in-Binary : goal.returns-in_ok-value-in-Binary
returns-in_ok-value-in-Binary t c =
    let s = numbers_of c.args.state.now in
    let o = c.in-Binary.operator in
    let is = seen_binary _ _ c.in-Binary.left _ c.deref-in-Binary.ensures c.in-Binary.right _
    c.deref-in-Binary-2.ensures o c.in-Binary.is in
    rw is (binary_done s o _ (expr_of c.deref-in-Binary.result.now)
    (expr_of c.deref-in-Binary-2.result.now) _ _ _ c.in_ok-put_value-in-Binary.ensures
    c.in_ok-put_value-in-Binary-2.ensures c.in_ok-value-in-Binary.ensures)
