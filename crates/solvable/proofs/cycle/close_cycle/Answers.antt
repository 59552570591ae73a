use Rattle.std.proofs.Common.{length, arith, rules, subst}
use Rattle.solvable.specs.Tables.{at}
use Rattle.solvable.proofs.Walks.{iteration, no_iteration, going_first, going_done, Going}
use Rattle.solvable.proofs.cycle.close_cycle.Goals as goal

pub loop-left-init : goal.loop-left-init
loop-left-init c = record {
  below = (let n = c.args.walks.now.ok.0 in let e = c.len-left.ensures in let s = c.requires.some in
      omega (arith, n, e, s));
  from = c.requires.second;
  going = λ k e.
      subst (λ n. Going (at c.args.used.now.items) k c.args.first c.args.second n c.args.second
      c.push-2.new.self.items) (let n = c.args.walks.now.ok.0 in let f = c.len-left.ensures in
      omega (arith, n, f, e))
      (going_first (at c.args.used.now.items) k c.args.first c.args.second c.push-2.new.self.items
      (search rules) (c.requires.walk k e));
}

pub loop-left-preserved-in-Some : goal.loop-left-preserved-in-Some
loop-left-preserved-in-Some c = record {
  below = (let b = c.loop-left.invariant.below in omega (arith, b));
  from = (let f = c.in-Some.ensures.some in let e = c.requires.used.size in search rules);
  going = λ k e.
      iteration (length c.args.used.now.items) c.args.first c.args.second c.args.used.now.items
      c.args.walks.now.items c.requires.used c.requires.first c.requires.walks c.loop-left.left
      c.loop-left.from c.loop-left.invariant.below c.loop-left-test.true
      c.index.result.now c.index.ensures k c.in-Some.next c.loop-left.cycle.items
      c.push-in-Some.new.self.items c.in-Some.ensures.some c.in_ok-push-3.ensures.items
      (c.loop-left.invariant.going k e);
}

pub loop-left-preserved : goal.loop-left-preserved
loop-left-preserved c = record {
  below = (let b = c.loop-left.invariant.below in omega (arith, b));
  from = c.loop-left.invariant.from;
  going = λ k e.
      absurd (no_iteration (length c.args.used.now.items) c.args.first c.args.second
      c.args.used.now.items c.args.walks.now.items c.requires.used c.requires.first
      c.requires.walks c.loop-left.left c.loop-left.from c.loop-left.invariant.below
      c.loop-left-test.true
      c.index.result.now c.index.ensures k c.loop-left.cycle.items c.in_default.ensures.none
      (c.loop-left.invariant.going k e));
}

pub returns : goal.returns
returns c = λ k e. going_done (at c.args.used.now.items) k c.args.first c.args.second
    c.loop-left.left c.loop-left.from c.loop-left.cycle.items (omega arith)
    (c.loop-left.invariant.going k e)
