-- What a replay needs of the equations of a loop with m variables.
--   IsEquation m e         its variable and those of its right side are among them, and no divisor is 0
use Rattle.std.specs.Prelude.{ℕ, ◌<◌}
use Rattle.loops.specs.Program.{Expr, Equation}
use Rattle.loops.specs.WellFormed.{Uses}

abbrev pub IsEquation : {At : Type 0} → ℕ → Equation (Expr At) → Type 0
IsEquation m e = (e.name < m) × Uses (λ i. i < m) e.value
