-- Which variables stand in an expression.
--   uses e i            whether the variable i stands in e
use Rattle.std.specs.Prelude.{ℕ, Bool, false, ◌||◌, ◌==◌}
use Rattle.loops.specs.Program.{Expr, number, variable, neg, add, sub, mul, divide, power}

unfoldable pub uses : {At : Type 0} → Expr At → ℕ → Bool
uses (number n) i = false
uses (variable j) i = j == i
uses (neg at e) i = uses e i
uses (add at e f) i = uses e i || uses f i
uses (sub at e f) i = uses e i || uses f i
uses (mul at e f) i = uses e i || uses f i
uses (divide at e n) i = uses e i
uses (power at e n) i = uses e i
