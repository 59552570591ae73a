use Rattle.std.proofs.Common.{◌≡◌, ◌+◌, refl, ap, ◌∙◌, Ok, pos}
use Rattle.std.proofs.lemmas.Result.{err_from_is_err_and}
use Rattle.loop_model.specs.ExpressionView.{expr_of}
use Rattle.loops.specs.Program.{divide}
use Rattle.poly_text.specs.CursorView.{rest}
use Rattle.poly_text.specs.Sums.{sum_language, over, divisor_token, note, push}
use Rattle.poly_text.specs.Reads.{around, used_by, state_in, state_behind, behind_expr}
use Rattle.poly_text.proofs.CursorReads.{sign_here}
use Rattle.poly_text.proofs.Paths.{start, on, ends, stops_last}
use Rattle.poly_text.proofs.ReaderSteps.{uncounted}
use Rattle.poly_text.proofs.sums.SumReader.over.Goals as goal

pub returns-in_err-next-clause-reads : goal.returns-in_err-next-clause-reads
returns-in_err-next-clause-reads c = uncounted c.args.self.now c.args.depth c.args.product
    c.args.cursor 47 refl (sign_here c.args.cursor 47 c.requires) divisor_token
    c.in_err-next.ensures.goes (err_from_is_err_and c.from_residual.result
    c.from_residual.ensures.1)

pub returns-in_err-divisor-clause-reads : goal.returns-in_err-divisor-clause-reads
returns-in_err-divisor-clause-reads c = λ us v.
    let a = around c.args.self.now c.args.depth us v in
    let p = expr_of c.args.product.value.value in
    let k = c.args.cursor in
    stops_last (on (start sum_language over (state_behind a c.args.product) (rest k))
    (c.in_ok-next.ensures.goes (behind_expr a p) 47 refl (sign_here k 47 c.requires)))
    (state_behind a)
    (err_from_is_err_and c.from_residual-in_err-divisor.result
    c.from_residual-in_err-divisor.ensures.1) (c.in_err-divisor.ensures.reads (used_by p us)
    (note k.token.at (push p v)))

pub returns-clause-reads : goal.returns-clause-reads
unfolding expr_of used_by
returns-clause-reads c = λ us v.
    let a = around c.args.self.now c.args.depth us v in
    let p = expr_of c.args.product.value.value in
    let k = c.args.cursor in
    let n = c.args.product.operators + 1 in
    let end = c.in_ok-divisor.end in
    let value : expr_of c.in_ok-value.value.value ≡ divide k.token.at p
    (pos c.in_ok-divisor.divisor) =
    ap expr_of c.in_ok-value.ensures.ok ∙ ap (divide k.token.at p) c.whole-by.ensures in
    ap (λ e. Ok (state_in (behind_expr a e) n, rest end)) value
    ∙ ends (on (start sum_language over (state_behind a c.args.product) (rest k))
    (c.in_ok-next.ensures.goes (behind_expr a p) 47 refl (sign_here k 47 c.requires)))
    (c.in_ok-divisor.ensures.reads (used_by p us) (note k.token.at (push p v)))
