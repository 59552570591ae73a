use Rattle.std.proofs.Common.{sym}
use Rattle.loop_text.proofs.Answering.{err_from_is_err_and, ends, stops, stops_last, each, next_one, last_one, keep, end_sum}
use Rattle.loop_text.proofs.init.read_equations.Goals as goal

pub returns-in_err-end : goal.returns-in_err-end
returns-in_err-end c = stops (each c.loop-set.invariant) _
    (err_from_is_err_and c.from_residual.result c.from_residual.ensures.1) c.in_err-end.ensures.goes

pub returns-in_err-end-2 : goal.returns-in_err-end-2
returns-in_err-end-2 c =
    stops_last (last_one c.loop-set.invariant c.in_ok-end.end c.in_ok-end.ensures.goes
    (sym c.if-not-is_sign.ensures)) _ (err_from_is_err_and c.from_residual-in_err-end-2.result
    c.from_residual-in_err-end-2.ensures.1) (c.in_err-end-2.ensures.goes end_sum keep _)

pub returns-then-not-is_sign : goal.returns-then-not-is_sign
returns-then-not-is_sign c =
    ends (last_one c.loop-set.invariant c.in_ok-end.end c.in_ok-end.ensures.goes
    (sym c.if-not-is_sign.ensures)) (c.in_ok-end-2.ensures.goes end_sum keep _)

pub loop-set-preserved : goal.loop-set-preserved
loop-set-preserved c = next_one c.loop-set.invariant c.in_ok-end.end c.in_ok-end.ensures.goes
    (sym c.if-not-is_sign.ensures) c.next-at.result c.next-at.ensures.tokens
