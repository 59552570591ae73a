use Rattle.std.proofs.Common.{◌≡◌, refl, ap, ◌∙◌, Ok, pos}
use Rattle.std.proofs.lemmas.Result.{err_from_is_err_and}
use Rattle.loop_model.specs.ExpressionView.{expr_of}
use Rattle.loops.specs.Program.{divide}
use Rattle.grammars.specs.Grammar.{rule}
use Rattle.program_text.specs.CursorView.{rest}
use Rattle.program_text.specs.Sums.{sum_language, a_divisor, divisor_token, note, push}
use Rattle.program_text.specs.Reads.{around, progress_of, state_in, state_behind, behind_expr, with_operator}
use Rattle.program_text.proofs.Paths.{start, over, ends, stops_last}
use Rattle.program_text.proofs.PartSteps.{over_number}
use Rattle.program_text.proofs.sums.SumReader.over_number.Goals as goal

pub returns-in_err-divisor-clause-reads : goal.returns-in_err-divisor-clause-reads
returns-in_err-divisor-clause-reads c = λ v.
    let a = around c.args.self.now c.args.depth v in
    let p = expr_of c.args.product.value in
    let k = c.args.cursor in
    let n = progress_of c.args.progress in
    let s = state_in (with_operator (behind_expr a p) c.args.at) n in
    stops_last (over (start sum_language (rule a_divisor) s (rest k)) divisor_token s (rest k)
    (over_number s k c.requires)) (state_behind a)
    (err_from_is_err_and c.from_residual.result c.from_residual.ensures.1)
    (c.in_err-divisor.ensures.reads n (note c.args.at (push p v)) refl)

pub returns-clause-reads : goal.returns-clause-reads
unfolding expr_of
returns-clause-reads c = λ v.
    let a = around c.args.self.now c.args.depth v in
    let p = expr_of c.args.product.value in
    let k = c.args.cursor in
    let n = progress_of c.args.progress in
    let end = c.in_ok-divisor.end in
    let s = state_in (with_operator (behind_expr a p) c.args.at) n in
    let value : expr_of c.in_ok-value.value.value ≡ divide c.args.at p
    (pos c.in_ok-divisor.divisor) =
    ap expr_of c.in_ok-value.ensures.ok ∙ ap (divide c.args.at p) c.whole-by.ensures in
    ap (λ e. Ok (state_in (behind_expr a e) n, rest end)) value
    ∙ ends (over (start sum_language (rule a_divisor) s (rest k)) divisor_token s (rest k)
    (over_number s k c.requires)) (c.in_ok-divisor.ensures.reads n (note c.args.at (push p v)) refl)
