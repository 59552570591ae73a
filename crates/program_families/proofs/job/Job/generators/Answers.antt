use Rattle.std.proofs.Common.{map}
use Rattle.machines.specs.Elimination.{in_front}
use Rattle.poly.specs.Seen.{terms_each}
use Rattle.loop_model.proofs.Items.{item_has}
use Rattle.poly.specs.Standing.{IsInVariables}
use Rattle.program_families.specs.Views.{arity_in}
use Rattle.program_families.proofs.Fronts.{IsFront, front_is, front_more, front_over, copy_more, copy_over}
use Rattle.program_families.proofs.job.Job.generators.Goals as goal

pub loop-element-preserved : goal.loop-element-preserved
loop-element-preserved c =
    let self = c.args.self.now in
    let k = self.transition.now.unknowns in
    let n = self.variables in
    let source = self.source.now.items in
    let l = c.loop-element in
    let over = item_has source _ c.deref-element-items.ensures.value l.element-index
    (IsInVariables n) c.element-item.result c.requires.source c.loop-element-test.true
    c.element-item.is in
    let f : IsFront k n c.element-item.result c.in_ok-behind.field-0 =
    front_is k n c.element-item.result c.in_ok-behind.field-0 _ _ c.in_ok-front.ensures.ok over
    c.in_ok-behind.ensures.product in
    record {
      terms = front_more l.generators.items c.push.new.self.items source _
          c.deref-element-items.ensures.value l.element-index c.element-item.result
          c.in_ok-behind.field-0 c.loop-element-test.true c.element-item.is
          c.in_ok-push.ensures.items k n f l.invariant.terms;
      over = front_over l.generators.items c.push.new.self.items source _
          c.deref-element-items.ensures.value l.element-index c.element-item.result
          c.in_ok-behind.field-0 c.loop-element-test.true c.element-item.is
          c.in_ok-push.ensures.items k n f l.invariant.over;
    }

pub loop-zero-preserved : goal.loop-zero-preserved
loop-zero-preserved c =
    let self = c.args.self.now in
    let k = self.transition.now.unknowns in
    let zeros = self.transition.now.zeros.items in
    let l = c.loop-zero in
    record {
      terms = copy_more l.generators.items c.push-in-loop-zero.new.self.items zeros _
          c.deref-zero-items.ensures.value l.zero-index c.zero-item.result
          c.in_ok-copy.field-0 c.loop-zero-test.true c.zero-item.is
          c.in_ok-push-2.ensures.items (map (in_front k) (terms_each self.source.now.items))
          c.in_ok-copy.ensures.terms l.invariant.terms;
      over = copy_over l.generators.items c.push-in-loop-zero.new.self.items zeros _
          c.deref-zero-items.ensures.value l.zero-index c.zero-item.result
          c.in_ok-copy.field-0 c.loop-zero-test.true c.zero-item.is
          c.in_ok-push-2.ensures.items (arity_in self) c.requires.zeros
          c.in_ok-copy.ensures.arity l.invariant.over;
    }
