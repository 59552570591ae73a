use Rattle.std.proofs.Common.{sym, arith}
use Rattle.std.proofs.lemmas.List.{append-nil, length-map}
use Rattle.poly.specs.Seen.{terms_in, terms_each}
use Rattle.program_families.specs.Views.{arity_in}
use Rattle.program_families.proofs.Fronts.{copy_more, copy_over}
use Rattle.program_families.proofs.job.Job.images_behind.Goals as goal

pub loop-image-init : goal.loop-image-init
loop-image-init c =
    let l = c.loop-unknown in
    let a = length-map l.images.items terms_in in
    let b = l.invariant.count in
    let d = c.loop-unknown-test.false in
    let e = l.auto._unknown-end in
    record {
      first = terms_each l.images.items;
      count = omega (arith, a, b, d, e);
      terms = sym (append-nil (terms_each l.images.items));
      over = l.invariant.over;
    }

pub loop-image-preserved : goal.loop-image-preserved
loop-image-preserved c =
    let self = c.args.self.now in
    let l = c.loop-image in
    record {
      first = l.invariant.first;
      count = l.invariant.count;
      terms = copy_more l.images.items c.push-in-loop-image.new.self.items
          self.transition.now.images.items _ c.deref-image-items.ensures.value l.image-index
          c.image-item.result c.in_ok-copy.field-0 c.loop-image-test.true c.image-item.is
          c.in_ok-push-2.ensures.items l.invariant.first c.in_ok-copy.ensures.terms
          l.invariant.terms;
      over = copy_over l.images.items c.push-in-loop-image.new.self.items
          self.transition.now.images.items _ c.deref-image-items.ensures.value l.image-index
          c.image-item.result c.in_ok-copy.field-0 c.loop-image-test.true c.image-item.is
          c.in_ok-push-2.ensures.items (arity_in self) c.requires.images
          c.in_ok-copy.ensures.arity l.invariant.over;
    }
