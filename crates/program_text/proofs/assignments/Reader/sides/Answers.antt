use Rattle.std.proofs.Common.{map, arith}
use Rattle.program_text.proofs.ValueReads.{more_values_due, no_values_due}
use Rattle.program_text.proofs.Answering.{length-map, err_from_is_err_and, expr_of, divisor_of, rest, start, on, over, ends, stops, stops_last, keep, program_language, in_set, in_parts, rule, right_side, more_values, sign}
use Rattle.program_text.proofs.assignments.Reader.sides.Goals as goal

pub returns-in_err-opening-clause-reads : goal.returns-in_err-opening-clause-reads
returns-in_err-opening-clause-reads c = λ n d w is e.
    stops (start program_language _ _ _) _ (err_from_is_err_and c.from_residual.result
    c.from_residual.ensures.1) (c.in_err-opening.ensures.goes (λ c. c) keep _)

pub returns-in_err-at-clause-reads : goal.returns-in_err-at-clause-reads
returns-in_err-at-clause-reads c = λ n d w is e.
    stops (on (start program_language _ _ _) (c.in_ok-opening.ensures.goes (λ c. c) keep _)) _
    (err_from_is_err_and c.from_residual-in_err-at.result c.from_residual-in_err-at.ensures.1)
    (c.in_err-at.ensures.goes (λ c. c) keep _)

pub loop-values-init : goal.loop-values-init
loop-values-init c = record {
  falls = omega (arith, c.in_ok-opening.ensures.falls, c.in_ok-at.ensures.falls);
  goes = λ n d w is e.
      rw (c.new-values.ensures.items, c.new-divisors.ensures.items)
      (on (on (start program_language _ _ _) (c.in_ok-opening.ensures.goes (λ c. c) keep _))
      (c.in_ok-at.ensures.goes (λ c. c) keep _));
}

pub returns-in_err-more-clause-reads : goal.returns-in_err-more-clause-reads
returns-in_err-more-clause-reads c = λ n d w is e. stops (c.loop-values.invariant.goes n d w is e) _
    (err_from_is_err_and c.from_residual-in_err-more.result c.from_residual-in_err-more.ensures.1)
    (c.in_err-more.ensures.reads n d w is)

pub returns-in_err-end-clause-reads : goal.returns-in_err-end-clause-reads
returns-in_err-end-clause-reads c = λ n d w is e.
    let vs = c.right_side.new.values in
    let value = on (c.loop-values.invariant.goes n d w is e) (c.in_ok-more.ensures.reads n d w
    is) in
    stops_last (no_values_due c.args.self.now.names.now n d w is (map expr_of vs.items)
    (map divisor_of c.in_ok-more.more.items) c.in_ok-more.end value (omega (
      arith,
      length-map vs.items expr_of,
      vs.ok,
      e,
      c.len.ensures,
      c.if-len-count.true,
    ))) _
    (err_from_is_err_and c.from_residual-in_err-end.result c.from_residual-in_err-end.ensures.1)
    (c.in_err-end.ensures.goes (λ c. c) keep _)

pub returns-then-len-count-clause-reads : goal.returns-then-len-count-clause-reads
returns-then-len-count-clause-reads c = λ n d w is e.
    let vs = c.right_side.new.values in
    let value = on (c.loop-values.invariant.goes n d w is e) (c.in_ok-more.ensures.reads n d w
    is) in
    ends (no_values_due c.args.self.now.names.now n d w is (map expr_of vs.items)
    (map divisor_of c.in_ok-more.more.items) c.in_ok-more.end
    value (omega (
      arith,
      length-map vs.items expr_of,
      vs.ok,
      e,
      c.len.ensures,
      c.if-len-count.true,
    ))) (c.in_ok-end.ensures.goes (λ c. c) keep _)

pub returns-in_err-at-2-clause-reads : goal.returns-in_err-at-2-clause-reads
returns-in_err-at-2-clause-reads c = λ n d w is e.
    let vs = c.right_side.new.values in
    let value = on (c.loop-values.invariant.goes n d w is e) (c.in_ok-more.ensures.reads n d w
    is) in
    stops (more_values_due c.args.self.now.names.now n d w is (map expr_of vs.items)
    (map divisor_of c.in_ok-more.more.items) c.in_ok-more.end value (omega (
      arith,
      length-map vs.items expr_of,
      vs.ok,
      e,
      c.len.ensures,
      c.if-len-count.false,
    ))) _
    (err_from_is_err_and c.from_residual-in_err-at-2.result c.from_residual-in_err-at-2.ensures.1)
    (c.in_err-at-2.ensures.goes (λ c. c) keep _)

pub loop-values-preserved : goal.loop-values-preserved
loop-values-preserved c = record {
  falls = omega (
    arith,
    c.in_ok-more.ensures.falls,
    c.in_ok-at-2.ensures.falls,
    c.loop-values.invariant.falls,
  );
  goes = λ n d w is e.
      let names = c.args.self.now.names.now in
      let vs = c.right_side.new.values in
      let ds = map divisor_of c.in_ok-more.more.items in
      let value = on (c.loop-values.invariant.goes n d w is e) (c.in_ok-more.ensures.reads n d w
      is) in
      let due = more_values_due names n d w is (map expr_of vs.items) ds c.in_ok-more.end value
      (omega (arith, length-map vs.items expr_of, vs.ok, e, c.len.ensures, c.if-len-count.false)) in
      over (on due (c.in_ok-at-2.ensures.goes (λ c. c) keep _)) _ _ _
      (in_parts program_language right_side (rule more_values) (in_set names n d w is
      (map expr_of vs.items) ds) (rest c.in_ok-at-2.at) (sign 41));
}
