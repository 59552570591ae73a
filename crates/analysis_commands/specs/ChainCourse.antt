-- The course of `chain`: CHAIN is read, the meter is opened for each loop in turn, and the answer is one to how the analysis of the chain ends.
use Rattle.io_edge.specs.Course.{Course, ends}
use Rattle.analysis_commands.specs.ChainAnalyses.{Analyses, HasAnalysed}
use Rattle.command_parts.specs.ChainReading.{with_chain}
use Rattle.command_parts.specs.FileRequests.{FileRequest}

abbrev pub course : FileRequest → Course
course request = with_chain request.file
    (λ c. ends (HasAnalysed c request.budget) (Analyses c request.budget))
