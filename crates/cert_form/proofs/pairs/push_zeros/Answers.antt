use Rattle.std.proofs.Common.{arith}
use Rattle.cert_form.proofs.PairSteps.{zeros_start, zeros_more, stands_for_zero}
use Rattle.cert_form.proofs.pairs.push_zeros.Goals as goal

pub loop-alloc-init : goal.loop-alloc-init
loop-alloc-init c = record {
  within = c.requires.count;
  from = omega arith;
  zeroed = zeros_start c.args.arity c.args.found.now;
}

pub loop-alloc-preserved : goal.loop-alloc-preserved
loop-alloc-preserved c =
    let inv = c.loop-alloc.invariant in
    let long = c.in_ok-push.ensures.len in
    let from = inv.from in
    record {
      within = omega (arith, long, c.len.ensures, c.loop-alloc-test.true);
      from = omega (arith, long, from);
      zeroed = zeros_more c.args.arity c.args.found.now c.loop-alloc.found c.push.new.self
          c.zero.result inv.zeroed inv.from (stands_for_zero c.args.arity c.zero.result
          c.zero.ensures.arity c.zero.ensures.terms)
          c.in_ok-push.ensures.items c.in_ok-push.ensures.len;
    }
