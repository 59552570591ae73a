-- The numbers of the statuses.
--   code_of s             the number
use Rattle.std.specs.Prelude.{ℕ}
use Rattle.io_edge.specs.declared.answer.Status.{Status}
use Rattle.io_edge.specs.declared.answer.Status.TheVariants.{Yes, No, Usage, Fault, Wide, Budget, Memory, ReadFault, WriteFault}

abbrev pub code_of : Status → ℕ
code_of Yes = 0
code_of No = 1
code_of Usage = 2
code_of Fault = 3
code_of Wide = 4
code_of Budget = 5
code_of Memory = 6
code_of ReadFault = 7
code_of WriteFault = 8
