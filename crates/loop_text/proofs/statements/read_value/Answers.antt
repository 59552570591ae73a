use Rattle.std.proofs.Common.{ap, [], ◌∷◌, ◌++◌, ◌∙◌, map, Ok}
use Rattle.loop_text.proofs.Answering.{map_push, err_from_is_err_and, expr_of, rest, start, stops_going, sum_fault, right_side_read, no_sum_value, loop_language, in_statement}
use Rattle.loop_text.proofs.statements.read_value.Goals as goal

pub returns-in_err-sum-clause-goes : goal.returns-in_err-sum-clause-goes
returns-in_err-sum-clause-goes c = λ n b is.
    let s = in_statement c.args.names.now c.args.unset.now n b is
    (map expr_of c.args.values.now.items) in
    stops_going (start loop_language _ _ _) _ (err_from_is_err_and c.from_residual.result
    c.from_residual.ensures.1) (sum_fault s (rest c.args.cursor) c.in_err-sum.field-0.0
    (c.in_err-sum.ensures.reads [] no_sum_value))

pub returns-clause-goes : goal.returns-clause-goes
returns-clause-goes c = λ n b is.
    let names = c.args.names.now in
    let part = c.in_ok-sum.sum in
    let before = c.args.values.now.items in
    ap (λ es. Ok (in_statement names c.args.unset.now n b is es, rest c.in_ok-sum.end))
    (ap (map expr_of) c.in_ok-push.ensures.items ∙ map_push expr_of before c.into_inner.result)
    ∙ ap (λ e. Ok (
      in_statement names c.args.unset.now n b is (map expr_of before ++ expr_of e ∷ []),
      rest c.in_ok-sum.end,
    )) c.into_inner.ensures
    ∙ right_side_read names (expr_of part.value.value) part.operators c.args.cursor c.in_ok-sum.end
    c.args.unset.now n b is (map expr_of before) (c.in_ok-sum.ensures.reads [] no_sum_value)
