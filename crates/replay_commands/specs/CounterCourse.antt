-- The course of `counter`: LOOP is read, and the answer is to what the equation is for the loop. It
-- leaves the meter alone.
use Rattle.io_edge.specs.Course.{Course, silent}
use Rattle.command_parts.specs.LoopReading.{with_loop}
use Rattle.command_parts.specs.Equations.{equation_in}
use Rattle.replay_commands.specs.CounterSeeking.{Answers}
use Rattle.replay_commands.specs.CounterArguments.{Request}

abbrev pub course : Request → Course
course request = with_loop request.file (λ l.
    silent (λ a. Answers l (equation_in l.names request.equation) request.most a))
