use Rattle.std.proofs.Common.{ap, [], ◌∷◌, ◌++◌, ◌∙◌, map, Ok}
use Rattle.program_text.specs.Reads.{progress_of}
use Rattle.program_text.proofs.Answering.{err_from_is_err_and, map_push, expr_of, divisor_of, rest, in_set, stops, sum_fault, side_begins, right_side_read}
use Rattle.program_text.proofs.assignments.Reader.right_side.Goals as goal

pub returns-in_err-sum-clause-reads : goal.returns-in_err-sum-clause-reads
returns-in_err-sum-clause-reads c = λ n d w is.
    let names = c.args.self.now.names.now in
    let es = map expr_of c.args.values.now.items in
    let ds = map divisor_of c.args.divisors.items in
    stops (side_begins names n d w is es ds c.args.cursor) _
    (err_from_is_err_and c.from_residual.result c.from_residual.ensures.1)
    (sum_fault _ (rest c.args.cursor) c.in_err-sum.field-0.0 (c.in_err-sum.ensures.reads w.sum))

pub returns-clause-reads : goal.returns-clause-reads
returns-clause-reads c = λ n d w is.
    let names = c.args.self.now.names.now in
    let part = c.in_ok-sum.sum in
    let m = progress_of part.progress in
    let before = c.args.values.now.items in
    ap (λ es. Ok (in_set names n d w is es m.divisors, rest c.in_ok-sum.end))
    (ap (map expr_of) c.in_ok-push.ensures.items ∙ map_push expr_of before c.into_inner.result)
    ∙ ap (λ e. Ok (
      in_set names n d w is (map expr_of before ++ expr_of e ∷ []) m.divisors,
      rest c.in_ok-sum.end,
    )) c.into_inner.ensures
    ∙ right_side_read names n d w is (map expr_of before) (map divisor_of c.args.divisors.items)
    c.args.cursor (expr_of part.value.value) m c.in_ok-sum.end (c.in_ok-sum.ensures.reads w.sum)
