use Rattle.std.proofs.Common.{sym, arith}
use Rattle.program_text.proofs.Answering.{err_from_is_err_and, start, on, ends, stops, stops_last, each, next_one, last_one, sign_no_end, keep, program_language}
use Rattle.program_text.proofs.assignments.Reader.targets.Goals as goal

pub returns-in_err-behind-clause-reads : goal.returns-in_err-behind-clause-reads
returns-in_err-behind-clause-reads c = λ n d w.
    stops (start program_language _ _ _) _ (err_from_is_err_and c.from_residual.result
    c.from_residual.ensures.1) (rw c.new-targets.ensures.items at c.in_err-behind.ensures.goes
    n d w)

pub returns-in_err-at-clause-reads : goal.returns-in_err-at-clause-reads
returns-in_err-at-clause-reads c = λ n d w.
    let first = on (start program_language _ _ _) (rw c.new-targets.ensures.items at
    c.in_ok-behind.ensures.goes n d w) in
    stops first _ (err_from_is_err_and c.from_residual-in_err-at.result
    c.from_residual-in_err-at.ensures.1) (c.in_err-at.ensures.goes (λ c. c) keep _)

pub loop-targets-init : goal.loop-targets-init
loop-targets-init c = record {
  falls = omega (arith, c.in_ok-behind.ensures.falls, c.in_ok-at.ensures.falls);
  goes = λ n d w.
      on (on (start program_language _ _ _) (rw c.new-targets.ensures.items at
      c.in_ok-behind.ensures.goes n d w))
      (c.in_ok-at.ensures.goes (λ c. c) keep _);
}

pub returns-in_err-end-clause-reads : goal.returns-in_err-end-clause-reads
returns-in_err-end-clause-reads c = λ n d w. stops (each (c.loop-targets.invariant.goes n d w)) _
    (err_from_is_err_and c.from_residual-in_err-end.result c.from_residual-in_err-end.ensures.1)
    (c.in_err-end.ensures.goes n d w)

pub returns-in_err-end-2-clause-reads : goal.returns-in_err-end-2-clause-reads
returns-in_err-end-2-clause-reads c = λ n d w.
    stops_last (last_one (c.loop-targets.invariant.goes n d w) c.in_ok-end.end
    (c.in_ok-end.ensures.goes n d w) (sym c.if-not-is_sign.ensures)) _
    (err_from_is_err_and c.from_residual-in_err-end-2.result
    c.from_residual-in_err-end-2.ensures.1)
    (c.in_err-end-2.ensures.goes (λ c. c) keep _)

pub returns-then-not-is_sign-clause-reads : goal.returns-then-not-is_sign-clause-reads
returns-then-not-is_sign-clause-reads c = λ n d w.
    ends (last_one (c.loop-targets.invariant.goes n d w) c.in_ok-end.end
    (c.in_ok-end.ensures.goes n d w) (sym c.if-not-is_sign.ensures))
    (c.in_ok-end-2.ensures.goes (λ c. c) keep _)

pub loop-targets-preserved : goal.loop-targets-preserved
loop-targets-preserved c = record {
  falls = omega (
    arith,
    c.next-at.ensures.falls (sign_no_end c.in_ok-end.end.token.lexeme 44
        (sym c.if-not-is_sign.ensures)),
    c.in_ok-end.ensures.falls,
    c.loop-targets.invariant.falls,
  );
  goes = λ n d w. next_one (c.loop-targets.invariant.goes n d w) c.in_ok-end.end
      (c.in_ok-end.ensures.goes n d w) (sym c.if-not-is_sign.ensures) c.next-at.result
      c.next-at.ensures.tokens;
}
