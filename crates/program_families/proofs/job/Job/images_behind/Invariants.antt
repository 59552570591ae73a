use Rattle.std.proofs.Common.{◌≡◌, ◌++◌, List, length, take}
use Rattle.algebra.specs.Fraction.{Fraction}
use Rattle.polynomials.specs.Terms.{Terms}
use Rattle.poly.specs.Seen.{terms_each}
use Rattle.ideal_ops.specs.Calls.{AreOver}
use Rattle.program_families.specs.Views.{arity_in}
use Rattle.program_families.proofs.job.Job.images_behind.Given as goal

abbrev pub invariant-loop-unknown : goal.invariant-loop-unknown
invariant-loop-unknown l = record {
  count : length l.images.items ≡ l._unknown;
  over : AreOver (arity_in l.self) l.images.items;
}

abbrev pub invariant-loop-image : goal.invariant-loop-image
invariant-loop-image l = record {
  first : List (Terms Fraction);
  count : length first ≡ l.self.transition.now.unknowns;
  terms : terms_each l.images.items
      ≡ first ++ terms_each (take l.image-index l.self.transition.now.images.items);
  over : AreOver (arity_in l.self) l.images.items;
}
