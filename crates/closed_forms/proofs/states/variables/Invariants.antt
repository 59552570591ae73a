use Rattle.std.proofs.Common.{◌≡◌, ◌++◌, drop, All}
use Rattle.algebra.specs.Fraction.{ℚ}
use Rattle.polynomials.specs.Terms.{variables}
use Rattle.poly.specs.Seen.{terms_each}
use Rattle.solvable.proofs.Using.{FracPoly}
use Rattle.closed_forms.proofs.states.variables.Given as goal

abbrev pub invariant-loop-variable : goal.invariant-loop-variable
invariant-loop-variable l =
    (terms_each l.out.items ++ drop l.variable (variables ℚ l.count) ≡ variables ℚ l.count)
    × All (λ (p : FracPoly). p.arity ≡ l.count) l.out.items
