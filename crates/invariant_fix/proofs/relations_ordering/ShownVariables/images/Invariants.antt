use Rattle.std.proofs.Common.{◌≡◌, map, get_or, []}
use Rattle.algebra.specs.Fraction.{ℚ}
use Rattle.polynomials.specs.Terms.{variables}
use Rattle.poly.specs.Seen.{terms_each}
use Rattle.ideal_ops.specs.Calls.{AreOver}
use Rattle.loops.specs.Turning.{places}
use Rattle.corollaries.specs.Order.{arity, order, place_in}
use Rattle.invariant_fix.proofs.relations_ordering.ShownVariables.images.Given as goal

abbrev pub invariant-loop-var : goal.invariant-loop-var
invariant-loop-var l = record {
  list : terms_each l.images.items ≡ map
      (λ i. get_or (variables ℚ (arity l.self.vars l.self.shown.now))
      (place_in (order l.self.vars l.self.shown.now) i) []) (places 0 l.var);
  arity : AreOver (arity l.self.vars l.self.shown.now) l.images.items;
}
