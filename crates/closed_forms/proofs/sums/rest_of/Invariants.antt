use Rattle.std.proofs.Common.{◌≡◌, ◌++◌, drop}
use Rattle.poly.specs.Seen.{terms_in}
use Rattle.solvable_maps.specs.AfterIterations.{rest_of}
use Rattle.closed_forms.proofs.Mixing.{tell}
use Rattle.closed_forms.proofs.sums.rest_of.Given as goal

abbrev pub invariant-loop-term : goal.invariant-loop-term
invariant-loop-term l =
    tell l.rest.items ++ rest_of l.group (tell (drop l.term-index l.poly.terms.items))
    ≡ rest_of l.group (terms_in l.poly)
