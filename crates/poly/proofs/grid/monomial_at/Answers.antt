use Rattle.std.proofs.Common.{◌∙◌, ap, length, length-append, arith}
use Rattle.std.proofs.lemmas.Result.{IfOk-weaker}
use Rattle.poly.proofs.GridSteps.{digits_more, digits_whole}
use Rattle.poly.proofs.grid.monomial_at.Goals as goal

pub loop-exponents-preserved : goal.loop-exponents-preserved
loop-exponents-preserved c = record {
  so_far = digits_more c.args.base c.args.arity c.loop-exponents.rest
      c.loop-exponents.exponents.items _ _ (omega (
        arith,
        c.loop-exponents-test.true,
        c.len.ensures,
        c.loop-exponents.exponents.ok.0,
      )) c.in_ok-push.ensures.items
      c.loop-exponents.invariant.so_far;
  count = omega (
    arith,
    ap length c.in_ok-push.ensures.items
        ∙ length-append c.loop-exponents.exponents.items _,
    c.loop-exponents-test.true,
    c.len.ensures,
    c.loop-exponents.exponents.ok.0,
  );
}

pub returns : goal.returns
returns c = record {
  ok = IfOk-weaker c.new.result _ _ (λ mono e. e
      ∙ digits_whole c.args.base c.args.arity c.loop-exponents.rest _ _
      (omega (arith, c.loop-exponents-test.false, c.len.ensures, c.loop-exponents.exponents.ok.0))
      c.loop-exponents.invariant.so_far) c.new.ensures.ok;
}
