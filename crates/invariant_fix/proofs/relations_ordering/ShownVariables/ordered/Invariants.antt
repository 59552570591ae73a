use Rattle.std.proofs.Common.{◌≡◌, map, take}
use Rattle.algebra.specs.Fraction.{rationals}
use Rattle.machines.specs.Collect.{collect}
use Rattle.poly.specs.Seen.{terms_in, terms_each}
use Rattle.loop_model.specs.FracPoly.{FracPoly}
use Rattle.corollaries.specs.Order.{block_order, in_order}
use Rattle.invariant_fix.specs.Ordering.{HaveHidden}
use Rattle.invariant_fix.proofs.relations_ordering.ShownVariables.ordered.Given as goal

abbrev pub invariant-loop-element : goal.invariant-loop-element
invariant-loop-element l = record {
  list : terms_each l.gens.items ≡ map
      (λ (g : FracPoly). collect rationals (block_order l.self.vars l.self.shown.now)
      (in_order l.self.vars l.self.shown.now (terms_in g))) (take l.element-index l.basis);
  block : HaveHidden l.self.vars l.self.shown.now l.gens.items;
}
