use Rattle.std.proofs.Common.{◌≡◌, List, map, take, drop}
use Rattle.algebra.specs.Scalars.{field}
use Rattle.polynomials.specs.Terms.{Terms}
use Rattle.machines.specs.Cut.{lead_of, find_cut, all_places}
use Rattle.poly.specs.Seen.{terms_in}
use Rattle.divide.specs.Current.{AreUndivided}
use Rattle.divide.proofs.current.Current.find.Given as goal

abbrev pub invariant-loop-term : goal.invariant-loop-term
invariant-loop-term g l =
    let F = field g.K.Ring.scalars in
    let p = terms_in l.self.rest in
    ((gs : List (Terms g.K.Ring.scalars.Elem)) → l.leads ≡ map lead_of gs
    → find_cut F all_places gs p ≡ find_cut F all_places gs (drop l.term p))
    × AreUndivided l.leads (take l.term p)
