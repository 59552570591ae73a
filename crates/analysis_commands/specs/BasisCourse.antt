-- The course of `basis` and `cert`: LOOP is read, the meter is opened for the analysis of the loop, and the answer is one to how it ends.
use Rattle.analysis_commands.specs.Analyses.{Analyses, HasAnalysed}
use Rattle.io_edge.specs.Course.{Course, ends}
use Rattle.command_parts.specs.LoopReading.{with_loop}
use Rattle.analysis_commands.specs.BasisArguments.{Request}

abbrev pub course : Request → Course
course request = with_loop request.file
    (λ l. ends (HasAnalysed l request.budget) (Analyses request.kind l request.budget))
