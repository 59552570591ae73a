-- Courses that read LOOP and then end.
--   text_refuses          a fault of a text refuses;  loop_refuses: one of LOOP
--   reading_loop          LOOP is read, a fault of it is told, and behind a loop the course ends so
use Rattle.std.proofs.Common.{◌≡◌, ℕ, List, refl, sym, subst}
use Rattle.std.specs.Prelude.{codes}
use Rattle.machines.specs.Journal.{Journal}
use Rattle.poly_text.specs.Reasons.{Reason, syntax, limit, wide, twice, unknown, init_uses, unset, divisor, Fault}
use Rattle.loops.specs.Program.{Expr, Program}
use Rattle.loop_text.specs.LoopReader.{loop_of}
use Rattle.io_edge.specs.Texts.{Answer}
use Rattle.io_edge.specs.Settled.{IsRefusing}
use Rattle.io_edge.proofs.OfStatuses.{status_of, refusing_fault, refusing_wide}
use Rattle.io_edge.proofs.OneFile.{OneFile}
use Rattle.command_parts.specs.FaultTexts.{text_refusal, loop_refusal}
use Rattle.command_parts.specs.LoopReading.{loop_at}

by_reason : (part : List ℕ) (reason : Reason) (at : ℕ)
    → IsRefusing (text_refusal part (record { reason = reason; at = at })).status
by_reason part syntax at = refusing_fault _ refl
by_reason part limit at = refusing_fault _ refl
by_reason part wide at = refusing_wide _ refl
by_reason part twice at = refusing_fault _ refl
by_reason part unknown at = refusing_fault _ refl
by_reason part init_uses at = refusing_fault _ refl
by_reason part unset at = refusing_fault _ refl
by_reason part divisor at = refusing_fault _ refl

pub text_refuses : (part : List ℕ) (fault : Fault) (a : Answer) → a ≡ text_refusal part fault
    → IsRefusing a.status
text_refuses part fault a e =
    subst IsRefusing (sym (status_of e)) (by_reason part fault.reason fault.at)

pub loop_refuses : (fault : Fault) (a : Answer) → a ≡ loop_refusal fault → IsRefusing a.status
loop_refuses = text_refuses (codes "loop: ")

abbrev pub reading_loop : List ℕ → (Program (Expr ℕ) → Journal → Type 0)
    → (Program (Expr ℕ) → Journal → Answer → Type 0) → OneFile (Program (Expr ℕ)) Fault
reading_loop name Leaves Answers = record {
  reading = loop_of;
  refusal_of = loop_refusal;
  refuses = loop_refuses;
  file = loop_at name;
  Leaves = Leaves;
  Answers = Answers;
}
