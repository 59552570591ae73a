use Rattle.std.proofs.Common.{map, arith}
use Rattle.loop_text.proofs.ValueReads.{more_values_due, no_values_due}
use Rattle.loop_text.proofs.Answering.{length-map, err_from_is_err_and, expr_of, rest, start, on, over, ends, stops, stops_last, keep, loop_language, in_statement, in_parts, rule, right_side, more_values, sign}
use Rattle.loop_text.proofs.statements.read_values.Goals as goal

pub returns-in_err-opening-clause-reads : goal.returns-in_err-opening-clause-reads
returns-in_err-opening-clause-reads c = λ n b is e.
    stops (start loop_language _ _ _) _ (err_from_is_err_and c.from_residual.result
    c.from_residual.ensures.1) (c.in_err-opening.ensures.goes (λ c. c) keep _)

pub returns-in_err-at-clause-reads : goal.returns-in_err-at-clause-reads
returns-in_err-at-clause-reads c = λ n b is e.
    stops (on (start loop_language _ _ _) (c.in_ok-opening.ensures.goes (λ c. c) keep _)) _
    (err_from_is_err_and c.from_residual-in_err-at.result c.from_residual-in_err-at.ensures.1)
    (c.in_err-at.ensures.goes (λ c. c) keep _)

pub loop-values-init : goal.loop-values-init
loop-values-init c = record {
  falls = omega (arith, c.in_ok-opening.ensures.falls, c.in_ok-at.ensures.falls);
  goes = λ n b is e.
      rw c.new-values.ensures.items
      (on (on (start loop_language _ _ _) (c.in_ok-opening.ensures.goes (λ c. c) keep _))
      (c.in_ok-at.ensures.goes (λ c. c) keep _));
}

pub returns-in_err-at-2-clause-reads : goal.returns-in_err-at-2-clause-reads
returns-in_err-at-2-clause-reads c = λ n b is e. stops (c.loop-values.invariant.goes n b is e) _
    (err_from_is_err_and c.from_residual-in_err-at-2.result c.from_residual-in_err-at-2.ensures.1)
    (c.in_err-at-2.ensures.goes n b is)

pub returns-in_err-end-clause-reads : goal.returns-in_err-end-clause-reads
returns-in_err-end-clause-reads c = λ n b is e.
    let vs = c.read_value.new.values in
    let value = on (c.loop-values.invariant.goes n b is e) (c.in_ok-at-2.ensures.goes n b is) in
    stops_last (no_values_due c.args.names.now c.args.unset.now n b is (map expr_of vs.items)
    c.in_ok-at-2.at value (omega (
      arith,
      length-map vs.items expr_of,
      vs.ok,
      e,
      c.len.ensures,
      c.if-len-count.true,
    ))) _
    (err_from_is_err_and c.from_residual-in_err-end.result c.from_residual-in_err-end.ensures.1)
    (c.in_err-end.ensures.goes (λ c. c) keep _)

pub returns-then-len-count-clause-reads : goal.returns-then-len-count-clause-reads
returns-then-len-count-clause-reads c = λ n b is e.
    let vs = c.read_value.new.values in
    let value = on (c.loop-values.invariant.goes n b is e) (c.in_ok-at-2.ensures.goes n b is) in
    ends (no_values_due c.args.names.now c.args.unset.now n b is (map expr_of vs.items)
    c.in_ok-at-2.at
    value (omega (
      arith,
      length-map vs.items expr_of,
      vs.ok,
      e,
      c.len.ensures,
      c.if-len-count.true,
    ))) (c.in_ok-end.ensures.goes (λ c. c) keep _)

pub returns-in_err-at-3-clause-reads : goal.returns-in_err-at-3-clause-reads
returns-in_err-at-3-clause-reads c = λ n b is e.
    let vs = c.read_value.new.values in
    let value = on (c.loop-values.invariant.goes n b is e) (c.in_ok-at-2.ensures.goes n b is) in
    stops (more_values_due c.args.names.now c.args.unset.now n b is (map expr_of vs.items)
    c.in_ok-at-2.at value (omega (
      arith,
      length-map vs.items expr_of,
      vs.ok,
      e,
      c.len.ensures,
      c.if-len-count.false,
    ))) _
    (err_from_is_err_and c.from_residual-in_err-at-3.result c.from_residual-in_err-at-3.ensures.1)
    (c.in_err-at-3.ensures.goes (λ c. c) keep _)

pub loop-values-preserved : goal.loop-values-preserved
loop-values-preserved c = record {
  falls = omega (
    arith,
    c.in_ok-at-2.ensures.falls,
    c.in_ok-at-3.ensures.falls,
    c.loop-values.invariant.falls,
  );
  goes = λ n b is e.
      let vs = c.read_value.new.values in
      let value = on (c.loop-values.invariant.goes n b is e) (c.in_ok-at-2.ensures.goes n b is) in
      let due = more_values_due c.args.names.now c.args.unset.now n b is (map expr_of vs.items)
      c.in_ok-at-2.at value (omega (
        arith,
        length-map vs.items expr_of,
        vs.ok,
        e,
        c.len.ensures,
        c.if-len-count.false,
      )) in
      over (on due (c.in_ok-at-3.ensures.goes (λ c. c) keep _)) _ _ _
      (in_parts loop_language right_side (rule more_values) (in_statement c.args.names.now
      c.args.unset.now n b is (map expr_of vs.items)) (rest c.in_ok-at-3.at) (sign 41));
}
