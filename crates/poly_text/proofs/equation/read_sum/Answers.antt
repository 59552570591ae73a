use Rattle.std.proofs.Common.{◌<◌, length, ap, sym, subst, ◌∙◌, Ok}
use Rattle.std.proofs.lemmas.Result.{err_from_is_err_and}
use Rattle.loops.specs.WellFormed.{Uses}
use Rattle.loop_model.specs.ExpressionView.{expr_of}
use Rattle.poly_text.specs.Lexemes.{tokens}
use Rattle.poly_text.specs.CursorView.{rest}
use Rattle.poly_text.proofs.EquationLaws.{on, sum_begins, said_told, refused, refused_last, uses_part}
use Rattle.poly_text.proofs.equation.read_sum.Goals as goal

pub returns-in_err-sum-clause-reads : goal.returns-in_err-sum-clause-reads
returns-in_err-sum-clause-reads c = refused (sum_begins c.args.names.now (tokens c.args.text.now)
    c.new.result c.new.ensures) (c.in_err-sum.ensures.reads _ _)
    (err_from_is_err_and c.from_residual.result c.from_residual.ensures.1)

pub returns-in_err-expect_end-clause-reads : goal.returns-in_err-expect_end-clause-reads
returns-in_err-expect_end-clause-reads c =
    refused_last (on (sum_begins c.args.names.now (tokens c.args.text.now) c.new.result
    c.new.ensures) (c.in_ok-sum.ensures.reads _ _))
    (c.in_err-expect_end.ensures _) (err_from_is_err_and c.from_residual-in_err-expect_end.result
    c.from_residual-in_err-expect_end.ensures.1)

pub returns-clause-reads : goal.returns-clause-reads
returns-clause-reads c =
    ap (λ e. Ok (expr_of e)) c.into_inner.ensures ∙ ap said_told (c.in_ok-expect_end.ensures _)
    ∙ sym (on (sum_begins c.args.names.now (tokens c.args.text.now) c.new.result c.new.ensures)
    (c.in_ok-sum.ensures.reads _ _)).same

pub returns-clause-uses : goal.returns-clause-uses
returns-clause-uses c =
    let names = c.args.names.now in
    subst (λ e. Uses (λ i. i < length names) (expr_of e)) (sym c.into_inner.ensures)
    (uses_part names c.in_ok-sum.sum (rest c.new.result) (rest c.in_ok-sum.end)
    (c.in_ok-sum.ensures.reads _ _))
