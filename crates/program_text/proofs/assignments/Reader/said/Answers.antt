use Rattle.std.proofs.Common.{sym}
use Rattle.program_text.specs.Sums.{no_value}
use Rattle.program_text.proofs.Answering.{comparison_of}
use Rattle.program_text.proofs.SaidReads.{said_end, said_more, said_fault}
use Rattle.program_text.proofs.assignments.Reader.said.Goals as goal

pub returns-in-End : goal.returns-in-End
returns-in-End c = record {
  says = said_end c.args.self.now.names.now c.args.text.now c.args.part c.from.result c.from.ensures
      (comparison_of c.in-Ok.comparison) c.in-Ok.end (c.in-Ok.ensures.reads no_value) c.in-End.is;
  memory = tt;
}

pub returns-in_default : goal.returns-in_default
returns-in_default c = record {
  says = said_more c.args.self.now.names.now c.args.text.now c.args.part c.from.result
      c.from.ensures (comparison_of c.in-Ok.comparison) c.in-Ok.end
      (c.in-Ok.ensures.reads no_value) c.in_default.not-End;
  memory = tt;
}

pub returns-else-is_memory : goal.returns-else-is_memory
returns-else-is_memory c = record {
  says = said_fault c.args.self.now.names.now c.args.text.now c.args.part c.from.result
      c.from.ensures c.in-Err.error (sym c.if-is_memory.ensures)
      (c.in-Err.ensures.reads no_value);
  memory = tt;
}
