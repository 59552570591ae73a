use Rattle.std.proofs.Common.{◌≡◌, List, map, drop}
use Rattle.algebra.specs.Scalars.{field}
use Rattle.polynomials.specs.Terms.{Terms}
use Rattle.machines.specs.Cut.{lead_of, find_cut}
use Rattle.machines.specs.Tidying.{others}
use Rattle.poly.specs.View.{terms_of}
use Rattle.reduced_basis.proofs.tails.divided_term.Given as goal

abbrev pub invariant-loop-term : goal.invariant-loop-term
invariant-loop-term g l = (gs : List (Terms g.K.Ring.scalars.Elem)) → l.leads ≡ map lead_of gs
    → find_cut (field g.K.Ring.scalars) (others l.at) gs (terms_of g.K.Ring.meaning l.terms)
    ≡ find_cut (field g.K.Ring.scalars) (others l.at) gs
    (drop l.term (terms_of g.K.Ring.meaning l.terms))
