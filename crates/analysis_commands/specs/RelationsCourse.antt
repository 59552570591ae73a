-- The course of `relations`: FILE is read, the meter is opened for the journal of relations, and the answer is one to how it ends.
use Rattle.io_edge.specs.Course.{Course, ends}
use Rattle.analysis_commands.specs.RelationsAnswers.{Relates, HasRelated}
use Rattle.analysis_commands.specs.RelationsReading.{with_sequences}
use Rattle.command_parts.specs.FileRequests.{FileRequest}

abbrev pub course : FileRequest → Course
course request = with_sequences request.file
    (λ qs. ends (HasRelated qs request.budget) (Relates qs request.budget))
