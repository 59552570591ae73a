-- The program's budgets.
--   units_of b      how many units the budget allows
use Rattle.std.specs.Prelude.{ℕ}
use Rattle.command_parts.specs.declared.budget.Budget.{Budget}

abbrev pub units_of : Budget → ℕ
units_of b = b.units
