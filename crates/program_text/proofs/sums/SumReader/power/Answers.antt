use Rattle.std.proofs.Common.{◌≡◌, refl, ap, sym, ◌∙◌, Ok, true}
use Rattle.std.proofs.lemmas.Result.{err_from_is_err_and}
use Rattle.loop_model.specs.ExpressionView.{expr_of}
use Rattle.loops.specs.Program.{power}
use Rattle.grammars.specs.Grammar.{sequence}
use Rattle.program_text.specs.CursorView.{rest}
use Rattle.program_text.specs.Lexemes.{is_sign_of}
use Rattle.program_text.specs.NextToken.{seen_lexeme}
use Rattle.program_text.specs.Sums.{SumState, sum_language, raising, operator, exponent}
use Rattle.program_text.specs.Reads.{progress_of, counted, state_in, state_behind, behind_expr}
use Rattle.program_text.specs.declared.cursor.Cursor.{Cursor}
use Rattle.program_text.proofs.CursorReads.{sign_here}
use Rattle.program_text.proofs.Paths.{GoesOn, start, on, over, ends, stops, stops_last}
use Rattle.program_text.proofs.PartSteps.{raising_none, raising_some}
use Rattle.program_text.proofs.ReaderSteps.{operand}
use Rattle.program_text.proofs.sums.SumReader.power.Goals as goal

raises : (s : SumState) (k : Cursor) → is_sign_of (seen_lexeme k.token.lexeme) 94 ≡ true
    → GoesOn sum_language raising s (rest k) (sequence (operator 94) exponent) s (rest k)
raises s k is = over (start sum_language raising s (rest k)) (sequence (operator 94) exponent) s
    (rest k) (raising_some s k (sign_here k 94 is))

pub returns-then-not-is_sign-clause-reads : goal.returns-then-not-is_sign-clause-reads
returns-then-not-is_sign-clause-reads c = λ a. raising_none (state_behind a c.args.atom)
    c.args.cursor (sym c.if-not-is_sign.ensures)

pub returns-in_err-next-clause-reads : goal.returns-in_err-next-clause-reads
returns-in_err-next-clause-reads c = λ a.
    let is = sym c.if-not-is_sign.ensures in
    stops (raises (state_behind a c.args.atom) c.args.cursor is) (state_behind a)
    (err_from_is_err_and c.from_residual.result c.from_residual.ensures.1)
    (c.in_err-next.ensures.goes (behind_expr a (expr_of c.args.atom.value.value))
    (progress_of c.args.atom.progress).divisors 94 refl
    (sign_here c.args.cursor 94 is))

pub returns-in_err-exponent-clause-reads : goal.returns-in_err-exponent-clause-reads
returns-in_err-exponent-clause-reads c = λ a.
    let k = c.args.cursor in
    let is = sym c.if-not-is_sign.ensures in
    let n = progress_of c.args.atom.progress in
    stops_last (on (raises (state_behind a c.args.atom) k is)
    (c.in_ok-next.ensures.goes (behind_expr a (expr_of c.args.atom.value.value)) n.divisors 94 refl
    (sign_here k 94 is))) (state_behind a)
    (err_from_is_err_and c.from_residual-in_err-exponent.result
    c.from_residual-in_err-exponent.ensures.1) (c.in_err-exponent.ensures.reads
    (state_in (operand c.args.atom k a) (counted n)))

pub returns-clause-reads : goal.returns-clause-reads
unfolding expr_of
returns-clause-reads c = λ a.
    let p = expr_of c.args.atom.value.value in
    let k = c.args.cursor in
    let n = progress_of c.args.atom.progress in
    let m = c.in_ok-exponent.exponent in
    let end = c.in_ok-exponent.end in
    let is = sym c.if-not-is_sign.ensures in
    let value : expr_of c.in_ok-value.value.value ≡ power k.token.at p m =
    ap expr_of c.in_ok-value.ensures.ok in
    ap (λ e. Ok (state_in (behind_expr a e) (counted n), rest end)) value
    ∙ ends (on (raises (state_behind a c.args.atom) k is)
    (c.in_ok-next.ensures.goes (behind_expr a p) n.divisors 94 refl (sign_here k 94 is)))
    (c.in_ok-exponent.ensures.reads (state_in (operand c.args.atom k a) (counted n)))
