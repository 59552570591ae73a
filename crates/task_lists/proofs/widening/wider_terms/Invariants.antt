use Rattle.std.proofs.Common.{◌≡◌, take}
use Rattle.polynomials.specs.Terms.{retold}
use Rattle.frac128.specs.FracMeaning.{fraction_of}
use Rattle.poly.specs.View.{terms_of}
use Rattle.task_lists.specs.Shapes.{wider}
use Rattle.task_lists.proofs.widening.wider_terms.Given as goal

abbrev pub invariant-loop-term : goal.invariant-loop-term
invariant-loop-term l = terms_of fraction_of l.out.items
    ≡ retold (wider l.shape.front l.shape.copies) (terms_of fraction_of (take l.term-index l.terms))
