use Rattle.std.proofs.Common.{◌≡◌, drop}
use Rattle.solvable_maps.specs.Uses.{any}
use Rattle.poly.specs.Seen.{terms_in}
use Rattle.poly.specs.View.{terms_of}
use Rattle.frac128.specs.FracMeaning.{fraction_of}
use Rattle.solvable.specs.Terms.{has_above}
use Rattle.solvable.proofs.variables.has_term.Given as goal

abbrev pub invariant-loop-term : goal.invariant-loop-term
invariant-loop-term l = any (has_above l.below l.variable) (terms_in l.polynomial)
    ≡ any (has_above l.below l.variable) (terms_of fraction_of (drop l.term-index l.term-items))
