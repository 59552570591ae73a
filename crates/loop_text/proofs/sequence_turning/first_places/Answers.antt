use Rattle.std.proofs.Common.{refl, arith}
use Rattle.loops.specs.Limits.{most_names}
use Rattle.loop_text.specs.LoopLayout.{total, starts}
use Rattle.loop_text.proofs.IterationReads.{starts_step, total_step, total_within}
use Rattle.loop_text.proofs.sequence_turning.first_places.Goals as goal

pub loop-order-init : goal.loop-order-init
unfolding starts total
loop-order-init c = record { places = c.new-places.ensures.items; var = refl }

pub overflow_add-var : goal.overflow_add-var
unfolding most_names
overflow_add-var c =
    let a = total_within c.args.orders.now c.loop-order.order-index c.loop-order-test.true
    c.loop-order.var c.loop-order.invariant.var in
    let b = c.requires in
    omega (arith, a, b)

pub loop-order-preserved : goal.loop-order-preserved
loop-order-preserved c =
    let rs = c.args.orders.now in
    let i = c.loop-order.order-index in
    let l = c.loop-order-test.true in
    record {
      places = starts_step rs i l c.loop-order.places.items _ c.loop-order.var
          c.loop-order.invariant.places c.loop-order.invariant.var c.in_ok-push.ensures.items;
      var = total_step rs i l c.loop-order.var c.loop-order.invariant.var;
    }
