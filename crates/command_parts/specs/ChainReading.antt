-- Commands that begin by reading CHAIN.
--   with_chain name next      CHAIN is read, a file as LOOP is, and so it goes on
--   IsChainFault text a       a tells the first fault of the text
--   HasReadChain name c files       CHAIN was read, and it is the chain c
--   IsChainOr name files result     CHAIN was read into this chain, or refused so
--   ReadsChain call name reading    the bytes of CHAIN are told, and this is what they say: a chain, or a first fault
use Rattle.std.specs.Prelude.{ℕ, List, Result, Ok, Err}
use Rattle.poly_text.specs.Reasons.{Fault}
use Rattle.loops.specs.Program.{Expr}
use Rattle.loops.specs.Chain.{Chain}
use Rattle.loop_runs.specs.ChainSeen.{chain_in}
use Rattle.loop_runs.specs.declared.chain.Chain as code
use Rattle.loop_text.specs.ChainReader.{chain_of}
use Rattle.io_edge.specs.declared.refusal.Refusal.{Refusal}
use Rattle.io_edge.specs.Texts.{Answer}
use Rattle.io_edge.specs.Course.{Course}
use Rattle.io_edge.specs.Change.{Change}
use Rattle.io_edge.specs.Outcome.{Call}
use Rattle.io_edge.specs.Reading.{with_file, IsFaultOf, HasReadAs, IsRefusedAt, SaysOf}
use Rattle.io_edge.specs.Outside.{FilesView}
use Rattle.command_parts.specs.FaultTexts.{loop_refusal}
use Rattle.command_parts.specs.LoopReading.{loop_at}

abbrev pub with_chain : List ℕ → (Chain (Expr ℕ) → Course) → Course
with_chain name next = with_file chain_of loop_refusal (loop_at name) next

abbrev pub IsChainFault : List ℕ → Answer → Type 0
IsChainFault text a = IsFaultOf chain_of loop_refusal text a

abbrev pub HasReadChain : List ℕ → Chain (Expr ℕ) → Change FilesView → Type 0
HasReadChain name c files = HasReadAs chain_of (loop_at name) c files

abbrev pub IsChainOr : List ℕ → Change FilesView → Result code.Chain Refusal → Type 0
IsChainOr name files (Ok c) = HasReadChain name (chain_in c) files
IsChainOr name files (Err refusal) = IsRefusedAt chain_of loop_refusal (loop_at name) files refusal

abbrev pub ReadsChain : Call → List ℕ → Result (Chain (Expr ℕ)) Fault → Type 0
ReadsChain call name said = SaysOf chain_of call (loop_at name) said
