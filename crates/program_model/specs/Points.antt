-- What forming gives of the points of a program.
--   IsGoal n k g            of n variables, there is a polynomial g where a comparison k is asserted, its left side less its right side
--   IsPoint n m p           the point p of the code is the point m of the program, with its goal;  ArePoints n ms ps: of each
use Rattle.std.specs.Prelude.{◌≡◌, ℕ, List, Option, Some, None}
use Rattle.std.specs.List.{AllZip}
use Rattle.flows.specs.Sides.{difference}
use Rattle.poly.specs.Standing.{StandsFor}
use Rattle.loop_model.specs.FracPoly.{FracPoly}
use Rattle.program_model.specs.Program.{Comparison, Mark}
use Rattle.program_model.specs.PathEvents.{E}
use Rattle.program_model.specs.declared.graph.Point.{Point}

abbrev pub IsGoal : ℕ → Option (Comparison E) → Option FracPoly → Type 0
IsGoal n None None = Unit {0}
IsGoal n None (Some g) = ⊥
IsGoal n (Some k) None = ⊥
IsGoal n (Some k) (Some g) = StandsFor n g (difference n k.left k.right)

pub record IsPoint (n : ℕ) (m : Mark E) (p : Point) : Type 0 where
  pub at : p.at ≡ m.at
  pub goal : IsGoal n m.asserted p.goal

abbrev pub ArePoints : ℕ → List (Mark E) → List Point → Type 0
ArePoints n ms ps = AllZip (IsPoint n) ms ps
