-- Courses that read CHAIN and then end.
--   reading_chain         CHAIN is read, a fault of it is told, and behind a chain the course ends so
use Rattle.std.proofs.Common.{ℕ, List}
use Rattle.machines.specs.Journal.{Journal}
use Rattle.poly_text.specs.Reasons.{Fault}
use Rattle.loops.specs.Program.{Expr}
use Rattle.loops.specs.Chain.{Chain}
use Rattle.loop_text.specs.ChainReader.{chain_of}
use Rattle.io_edge.specs.Texts.{Answer}
use Rattle.io_edge.proofs.OneFile.{OneFile}
use Rattle.command_parts.specs.FaultTexts.{loop_refusal}
use Rattle.command_parts.specs.LoopReading.{loop_at}
use Rattle.command_parts.proofs.LoopCourses.{loop_refuses}

abbrev pub reading_chain : List ℕ → (Chain (Expr ℕ) → Journal → Type 0)
    → (Chain (Expr ℕ) → Journal → Answer → Type 0) → OneFile (Chain (Expr ℕ)) Fault
reading_chain name Leaves Answers = record {
  reading = chain_of;
  refusal_of = loop_refusal;
  refuses = loop_refuses;
  file = loop_at name;
  Leaves = Leaves;
  Answers = Answers;
}
