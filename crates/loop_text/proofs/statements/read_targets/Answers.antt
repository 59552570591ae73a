use Rattle.std.proofs.Common.{sym, arith}
use Rattle.loop_text.proofs.Answering.{err_from_is_err_and, start, on, ends, stops, stops_last, each, next_one, last_one, sign_no_end, keep, loop_language}
use Rattle.loop_text.proofs.statements.read_targets.Goals as goal

pub returns-in_err-behind-clause-reads : goal.returns-in_err-behind-clause-reads
returns-in_err-behind-clause-reads c = λ us n b.
    stops (start loop_language _ _ _) _ (err_from_is_err_and c.from_residual.result
    c.from_residual.ensures.1) (rw c.new-targets.ensures.items at c.in_err-behind.ensures.goes
    us n b)

pub returns-in_err-at-clause-reads : goal.returns-in_err-at-clause-reads
returns-in_err-at-clause-reads c = λ us n b.
    let first = on (start loop_language _ _ _) (rw c.new-targets.ensures.items at
    c.in_ok-behind.ensures.goes us n b) in
    stops first _ (err_from_is_err_and c.from_residual-in_err-at.result
    c.from_residual-in_err-at.ensures.1) (c.in_err-at.ensures.goes (λ c. c) keep _)

pub loop-targets-init : goal.loop-targets-init
loop-targets-init c = record {
  falls = omega (arith, c.in_ok-behind.ensures.falls, c.in_ok-at.ensures.falls);
  goes = λ us n b.
      on (on (start loop_language _ _ _) (rw c.new-targets.ensures.items at
      c.in_ok-behind.ensures.goes us n b))
      (c.in_ok-at.ensures.goes (λ c. c) keep _);
}

pub returns-in_err-end-clause-reads : goal.returns-in_err-end-clause-reads
returns-in_err-end-clause-reads c = λ us n b. stops (each (c.loop-targets.invariant.goes us n b)) _
    (err_from_is_err_and c.from_residual-in_err-end.result c.from_residual-in_err-end.ensures.1)
    (c.in_err-end.ensures.goes us n b)

pub returns-in_err-end-2-clause-reads : goal.returns-in_err-end-2-clause-reads
returns-in_err-end-2-clause-reads c = λ us n b.
    stops_last (last_one (c.loop-targets.invariant.goes us n b) c.in_ok-end.end
    (c.in_ok-end.ensures.goes us n b) (sym c.if-not-is_sign.ensures)) _
    (err_from_is_err_and c.from_residual-in_err-end-2.result
    c.from_residual-in_err-end-2.ensures.1)
    (c.in_err-end-2.ensures.goes (λ c. c) keep _)

pub returns-then-not-is_sign-clause-reads : goal.returns-then-not-is_sign-clause-reads
returns-then-not-is_sign-clause-reads c = λ us n b.
    ends (last_one (c.loop-targets.invariant.goes us n b) c.in_ok-end.end
    (c.in_ok-end.ensures.goes us n b) (sym c.if-not-is_sign.ensures))
    (c.in_ok-end-2.ensures.goes (λ c. c) keep _)

pub loop-targets-preserved : goal.loop-targets-preserved
loop-targets-preserved c = record {
  falls = omega (
    arith,
    c.next-at.ensures.falls (sign_no_end c.in_ok-end.end.token.lexeme 44
        (sym c.if-not-is_sign.ensures)),
    c.in_ok-end.ensures.falls,
    c.loop-targets.invariant.falls,
  );
  goes = λ us n b. next_one (c.loop-targets.invariant.goes us n b) c.in_ok-end.end
      (c.in_ok-end.ensures.goes us n b) (sym c.if-not-is_sign.ensures) c.next-at.result
      c.next-at.ensures.tokens;
}
