-- What is told of a map.
--   AreClassesOf map groups          its classes, in their order
--   IsSolvable map                   it has no cycle
--   IsAnswer uses strongly found     the least cycle, or none where there is no cycle
--   IfClassesRefused map e                  what an error tells of the map
use Rattle.std.specs.Prelude.{ℕ, Bool, List, [], map as each, length, Option, MatchOption}
use Rattle.std.specs.declared.alloc.Global.{Global}
use Rattle.std.specs.declared.vec.Vec.{Vec}
use Rattle.algebra.specs.Fraction.{Fraction}
use Rattle.polynomials.specs.Terms.{Terms}
use Rattle.solvable_maps.specs.Dependency.{IsNonlinearCycle, IsLeastCycle}
use Rattle.solvable_maps.specs.Class.{AreClasses}
use Rattle.solvable_maps.specs.Uses.{uses, strongly}
use Rattle.solvable.specs.declared.SolvableError.{SolvableError}
use Rattle.solvable.specs.declared.SolvableError.TheVariants.{NotSolvable, Memory}

abbrev pub IsAnswer : (uses strongly : ℕ → ℕ → Bool) → Option (Vec ℕ Global) → Type 0
IsAnswer uses strongly found = MatchOption found ((vs : List ℕ)
    → ¬ (IsNonlinearCycle uses strongly vs))
    (λ cycle. IsLeastCycle uses strongly cycle.items)

abbrev pub AreClassesOf : List (Terms Fraction) → List (Vec ℕ Global) → Type 0
AreClassesOf map groups = AreClasses (uses map) (length map) [] (each (λ g. g.items) groups)

abbrev pub IsSolvable : List (Terms Fraction) → Type 0
IsSolvable map = (vs : List ℕ) → ¬ (IsNonlinearCycle (uses map) (strongly map) vs)

abbrev pub IfClassesRefused : List (Terms Fraction) → SolvableError → Type 0
IfClassesRefused map (NotSolvable cycle) = IsLeastCycle (uses map) (strongly map) cycle.items
IfClassesRefused map Memory = Unit {0}
