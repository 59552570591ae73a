-- The course of `basis` and `cert` up to a degree: LOOP is read, the meter is opened with the budget for the search, and the answer is one to how it ends.
use Rattle.io_edge.specs.Course.{Course, ends}
use Rattle.command_parts.specs.LoopReading.{with_loop}
use Rattle.closing_commands.specs.Degrees.{Searches, HasSearched}
use Rattle.closing_commands.specs.DegreeArguments.{Request}

abbrev pub course : Request → Course
course request = with_loop request.file (λ l.
    ends (λ m. HasSearched l request.degree m request.evidence request.budget)
    (λ m a. Searches l request.degree m request.evidence request.budget a))
