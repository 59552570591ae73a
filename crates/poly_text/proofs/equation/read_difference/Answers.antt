use Rattle.std.proofs.Common.{refl, ap, sym, ◌∙◌}
use Rattle.std.proofs.lemmas.Result.{err_from_is_err_and}
use Rattle.loops.specs.WellFormed.{Uses}
use Rattle.loop_model.specs.ExpressionView.{expr_of}
use Rattle.poly_text.specs.Lexemes.{tokens}
use Rattle.poly_text.specs.CursorView.{rest}
use Rattle.poly_text.specs.Sums.{sum_language, equals}
use Rattle.poly_text.specs.NextToken.{seen_lexeme}
use Rattle.poly_text.proofs.KindTests.{no_sign}
use Rattle.poly_text.proofs.CursorReads.{no_first, token_barred}
use Rattle.poly_text.specs.Reads.{state_behind}
use Rattle.poly_text.proofs.EquationLaws.{equation_begins, behind_left, behind_equals, behind_right, said_told, refused, refused_last, outside, uses_part}
use Rattle.poly_text.proofs.equation.read_difference.Goals as goal

pub returns-in_err-left-clause-reads : goal.returns-in_err-left-clause-reads
returns-in_err-left-clause-reads c =
    refused (equation_begins c.args.names.now (tokens c.args.text.now) c.new.result c.new.ensures)
    (c.in_err-left.ensures.reads _ _) (err_from_is_err_and c.from_residual.result
    c.from_residual.ensures.1)

pub returns-then-not-is_sign-clause-reads : goal.returns-then-not-is_sign-clause-reads
returns-then-not-is_sign-clause-reads c =
    let t = state_behind (outside c.args.names.now) c.in_ok-left.left in
    let k = c.in_ok-left.middle in
    ap said_told (no_first sum_language equals _ t (rest k) _ (token_barred sum_language equals refl
    t k (no_sign 61 (seen_lexeme k.token.lexeme) (sym c.if-not-is_sign.ensures))))
    ∙ sym (behind_left c.args.names.now (tokens c.args.text.now) c.new.result c.new.ensures
    c.in_ok-left.left k (c.in_ok-left.ensures.reads _ _)).same

pub returns-in_err-right-clause-reads : goal.returns-in_err-right-clause-reads
returns-in_err-right-clause-reads c =
    refused (behind_equals c.args.names.now (tokens c.args.text.now) c.new.result c.new.ensures
    c.in_ok-left.left c.in_ok-left.middle (c.in_ok-left.ensures.reads _ _)
    (sym c.if-not-is_sign.ensures) c.next.result c.next.ensures.tokens)
    (c.in_err-right.ensures.reads _ _) (err_from_is_err_and c.from_residual-in_err-right.result
    c.from_residual-in_err-right.ensures.1)

pub returns-in_err-expect_end-clause-reads : goal.returns-in_err-expect_end-clause-reads
returns-in_err-expect_end-clause-reads c =
    refused_last (behind_right c.args.names.now (tokens c.args.text.now) c.new.result c.new.ensures
    c.in_ok-left.left c.in_ok-left.middle (c.in_ok-left.ensures.reads _ _)
    (sym c.if-not-is_sign.ensures) c.next.result c.next.ensures.tokens
    c.in_ok-right.right c.in_ok-right.end (c.in_ok-right.ensures.reads _ _))
    (c.in_err-expect_end.ensures _) (err_from_is_err_and c.from_residual-in_err-expect_end.result
    c.from_residual-in_err-expect_end.ensures.1)

pub returns-clause-reads : goal.returns-clause-reads
unfolding expr_of
returns-clause-reads c =
    ap said_told (c.in_ok-expect_end.ensures _)
    ∙ sym (behind_right c.args.names.now (tokens c.args.text.now) c.new.result c.new.ensures
    c.in_ok-left.left c.in_ok-left.middle (c.in_ok-left.ensures.reads _ _)
    (sym c.if-not-is_sign.ensures) c.next.result c.next.ensures.tokens
    c.in_ok-right.right c.in_ok-right.end (c.in_ok-right.ensures.reads _ _)).same

pub returns-clause-uses : goal.returns-clause-uses
unfolding expr_of Uses
returns-clause-uses c = (
  uses_part c.args.names.now c.in_ok-left.left (rest c.new.result) (rest c.in_ok-left.middle)
      (c.in_ok-left.ensures.reads _ _),
  uses_part c.args.names.now c.in_ok-right.right (rest c.next.result) (rest c.in_ok-right.end)
      (c.in_ok-right.ensures.reads _ _),
)
