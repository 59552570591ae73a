-- The course of `full`: LOOP is read, the meter is opened for the analysis of the loop and then for the trace, and the answer is one to how they end.
use Rattle.io_edge.specs.Course.{Course, ends}
use Rattle.command_parts.specs.LoopReading.{with_loop}
use Rattle.command_parts.specs.FileRequests.{FileRequest}
use Rattle.certificate_commands.specs.FullCertified.{Certifies, HasWorked}

abbrev pub course : FileRequest → Course
course request = with_loop request.file
    (λ l. ends (HasWorked l request.budget) (Certifies l request.budget))
