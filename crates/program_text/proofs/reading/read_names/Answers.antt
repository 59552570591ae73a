use Rattle.std.proofs.Common.{refl, sym, None, arith}
use Rattle.program_text.specs.Words.{vars_word}
use Rattle.program_text.specs.Programs.{declared_name, nothing}
use Rattle.program_text.proofs.Answering.{err_from_is_err_and, sequence, rest, no_first, start, on, ends, stops, stops_last, comma_list, each, next_one, last_one, keyword_read, keyword_barred, sign_no_end, keyword_no_end, keep, keyword, sign, program_language}
use Rattle.program_text.proofs.reading.read_names.Goals as goal

pub returns-then-not-is_keyword-clause-reads : goal.returns-then-not-is_keyword-clause-reads
returns-then-not-is_keyword-clause-reads c =
    rw c.syntax_fault.ensures
    (no_first program_language (keyword vars_word) (sequence (comma_list declared_name) (sign 59))
    nothing (rest c.args.cursor) _ (keyword_barred vars_word c.args.cursor (λ c. None)
    (λ c. c) keep nothing (sym c.if-not-is_keyword.ensures)))

pub loop-names-init : goal.loop-names-init
loop-names-init c = record {
  falls = let fallen = c.next-at.ensures.falls (keyword_no_end c.args.cursor.token.lexeme vars_word
      (sym c.if-not-is_keyword.ensures)) in omega (arith, fallen);
  goes = rw c.empty-names.ensures
      (on (start program_language _ _ _) (keyword_read vars_word c.args.cursor (λ c. None) (λ c. c)
      keep nothing (sym c.if-not-is_keyword.ensures) refl (rest c.next-at.result)
      c.next-at.ensures.tokens));
}

pub returns-in_err-end-clause-reads : goal.returns-in_err-end-clause-reads
returns-in_err-end-clause-reads c = stops (each c.loop-names.invariant.goes) _
    (err_from_is_err_and c.from_residual.result c.from_residual.ensures.1)
    c.in_err-end.ensures.goes

pub returns-in_err-end-2-clause-reads : goal.returns-in_err-end-2-clause-reads
returns-in_err-end-2-clause-reads c =
    stops_last (last_one c.loop-names.invariant.goes c.in_ok-end.end c.in_ok-end.ensures.goes
    (sym c.if-not-is_sign.ensures)) _ (err_from_is_err_and c.from_residual-in_err-end-2.result
    c.from_residual-in_err-end-2.ensures.1)
    (c.in_err-end-2.ensures.goes (λ c. c) keep _)

pub returns-then-not-is_sign-clause-reads : goal.returns-then-not-is_sign-clause-reads
returns-then-not-is_sign-clause-reads c =
    ends (last_one c.loop-names.invariant.goes c.in_ok-end.end c.in_ok-end.ensures.goes
    (sym c.if-not-is_sign.ensures)) (c.in_ok-end-2.ensures.goes (λ c. c) keep _)

pub loop-names-preserved : goal.loop-names-preserved
loop-names-preserved c = record {
  falls = omega (
    arith,
    c.next-at-in-loop-names.ensures.falls (sign_no_end c.in_ok-end.end.token.lexeme 44
        (sym c.if-not-is_sign.ensures)),
    c.in_ok-end.ensures.falls,
    c.loop-names.invariant.falls,
  );
  goes = next_one c.loop-names.invariant.goes c.in_ok-end.end c.in_ok-end.ensures.goes
      (sym c.if-not-is_sign.ensures) c.next-at-in-loop-names.result
      c.next-at-in-loop-names.ensures.tokens;
}
