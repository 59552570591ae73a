use Rattle.loops.proofs.Solved.{solution, one_solution}
use Rattle.loops.proofs.recurrence_laws.recurrences_give_one_solution.Goals as goal

pub returns : goal.returns
returns c s = record { some = solution; one = one_solution }
