use Rattle.poly.specs.Seen.{terms_in}
use Rattle.loop_model.proofs.OperationLaws.{handed_on}
use Rattle.counter_run.proofs.Compositions.{multiply_arity, multiply_more, multiply_stop, multiply_all}
use Rattle.counter_run.proofs.composition.times_power.Goals as goal

pub returns-in_err-total : goal.returns-in_err-total
returns-in_err-total c =
    let q = terms_in c.args.polynomial in
    let f = terms_in c.args.image.now in
    handed_on c.args.polynomial.arity _ _ c.in_err-total.field-0.0 c.from_residual.result
    c.from_residual.ensures.1
    (multiply_stop c.args.polynomial.arity q f c.args.times c.loop-time._time c.loop-time-test.true
    c.loop-time.total c.loop-time.invariant.arity c.loop-time.invariant.goes
    c.in_err-total.field-0.0 c.in_err-total.ensures)

pub loop-time-preserved : goal.loop-time-preserved
loop-time-preserved c =
    let q = terms_in c.args.polynomial in
    let f = terms_in c.args.image.now in
    record {
      arity =
          multiply_arity c.args.polynomial.arity q f c.args.times c.loop-time._time
          c.loop-time-test.true c.loop-time.total c.loop-time.invariant.arity
          c.loop-time.invariant.goes c.in_ok-total.total c.in_ok-total.ensures;
      goes =
          multiply_more c.args.polynomial.arity q f c.args.times c.loop-time._time
          c.loop-time-test.true c.loop-time.total c.loop-time.invariant.arity
          c.loop-time.invariant.goes c.in_ok-total.total c.in_ok-total.ensures;
    }

pub returns : goal.returns
returns c =
    multiply_all c.args.polynomial.arity (terms_in c.args.polynomial)
    (terms_in c.args.image.now) c.args.times c.loop-time._time c.loop-time.total
    c.loop-time-test.false c.loop-time.invariant.arity c.loop-time.invariant.goes
