use Rattle.std.proofs.Common.{ap, ◌∙◌}
use Rattle.algebra.specs.Fraction.{ℚ}
use Rattle.polynomials.proofs.Arity.{arity-compose}
use Rattle.polynomials.proofs.Same.{Same-trans}
use Rattle.poly.specs.Seen.{terms_in}
use Rattle.poly.proofs.Standing.{arities_over}
use Rattle.invariant_fix.proofs.Variables.{in_blocks}
use Rattle.invariant_fix.proofs.relations_ordering.moved.Goals as goal

pub returns-clause-block : goal.returns-clause-block
returns-clause-block c =
    let i = c.in_ok-reorder.ensures.same in
    (ap (λ o. o.first) i.order, i.arity ∙ c.in_ok-composed.ensures.composition.arity)

pub returns-clause-moved : goal.returns-clause-moved
returns-clause-moved c =
    let images = c.args.images.now.items in
    let block = returns-clause-block c in
    let g = terms_in c.args.element.now in
    in_blocks _ (arity-compose _ ℚ g _ (arities_over _ images c.requires.arities))
    c.in_ok-reorder.field-0 block.0 block.1
    (Same-trans ℚ c.in_ok-reorder.ensures.same.same c.in_ok-composed.ensures.composition.same)
