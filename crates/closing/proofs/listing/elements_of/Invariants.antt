use Rattle.closing.proofs.Listed.{ElementsTo}
use Rattle.closing.proofs.listing.elements_of.Given as goal

abbrev pub invariant-loop-element : goal.invariant-loop-element
invariant-loop-element l =
    ElementsTo l.polynomials l.closure l.element-index l.list.items l.places.items
