-- How much the analysis of a chain takes on.
--   budget_limit      the greatest budget of a loop
--   elements_limit    how many elements the list of the loops before may have
use Rattle.std.specs.Prelude.{ℕ, ◌^◌}

abbrev pub budget_limit : ℕ
budget_limit = 2 ^ 24

abbrev pub elements_limit : ℕ
elements_limit = 2 ^ 27
