-- The course of `decide` and `prove`: LOOP is read, and the answer is to what the equation is for the loop. Where it has a polynomial the meter is opened with the budget for its closing, and else left alone.
use Rattle.machines.specs.Journal.{Journal}
use Rattle.io_edge.specs.Course.{Course, ends}
use Rattle.command_parts.specs.LoopReading.{with_loop}
use Rattle.command_parts.specs.Equations.{equation_in}
use Rattle.closing_commands.specs.Deciding.{Answers, Leaves}
use Rattle.closing_commands.specs.DecideArguments.{Request}

-- where the meter has the journal `before` at the beginning
abbrev pub course : Journal → Request → Course
course before request = with_loop request.file (λ l.
    let reading = equation_in l.names request.equation in
    ends (Leaves request.evidence l reading request.budget)
    (Answers request.evidence l reading request.budget before))
