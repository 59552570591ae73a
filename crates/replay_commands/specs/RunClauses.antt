-- What `run` promises.
--   ShowsRun text request said     the bytes are a loop, the values are one of its starts, the letters are numbers of its branches, and the states of this run are said, one a line
--   IsRunFault text request a      they are a loop, and a tells the first refusal of the run
--   Refuses call request a         a tells the first fault of LOOP or of the run
--   Runs request call              the clauses
use Rattle.std.specs.Prelude.{◌≡◌, ◌≢◌, ◌⊎◌, ℕ, List, Some, Ok, Err}
use Rattle.algebra.specs.Fraction.{Fraction}
use Rattle.poly_text.specs.Reasons.{Fault}
use Rattle.loops.specs.Program.{Expr, Program}
use Rattle.loops.specs.Run.{IsStart, run_end, states}
use Rattle.loop_text.specs.LoopReader.{loop_of}
use Rattle.loop_runs.specs.Replay.{RunFault, replay_of}
use Rattle.io_edge.specs.declared.answer.Status.TheVariants as status
use Rattle.io_edge.specs.Texts.{Answer}
use Rattle.io_edge.specs.Outcome.{Call}
use Rattle.io_edge.specs.Clauses.{Wrote, TellsWhy, IfTold, Ends, EndsTooLong, IsLonger}
use Rattle.command_parts.specs.FaultTexts.{loop_refusal}
use Rattle.command_parts.specs.LoopReading.{loop_at, IsLoopFault, ReadsLoop}
use Rattle.command_parts.specs.StateTexts.{states_text}
use Rattle.replay_commands.specs.RunTexts.{run_answer}
use Rattle.replay_commands.specs.RunArguments.{Request}

pub record ShowsRun (text : List ℕ) (request : Request) (said : List ℕ) : Type 0 where
  pub loop : Program (Expr ℕ)
  pub is_loop : loop_of text ≡ Ok loop
  pub is_start : IsStart loop request.values
  pub end : List Fraction
  pub is_end : run_end loop request.word request.values ≡ Some end
  pub says : said ≡ states_text loop.names (states loop request.word request.values)

pub record IsRunFault (text : List ℕ) (request : Request) (a : Answer) : Type 0 where
  pub loop : Program (Expr ℕ)
  pub is_loop : loop_of text ≡ Ok loop
  pub fault : RunFault
  pub is : replay_of loop request.values request.word ≡ Err fault
  pub says : a ≡ run_answer loop.names loop.locals (Err fault)

abbrev pub Refuses : Call → Request → Answer → Type 0
Refuses call request a =
    IfTold call.files.before request.file (λ text. IsLoopFault text a ⊎ IsRunFault text request a)

pub record Runs (request : Request) (call : Call) : Type 0 where
  -- yes: the values are a start, the letters are numbers of branches, and the text is the states of
  -- this run
  pub states : call.status ≡ status.Yes
      → IfTold call.files.before request.file (λ text. Wrote call.sink (ShowsRun text request))
  -- a fault, or a number that doesn't fit: the text tells the first fault of LOOP or of the run
  pub why : TellsWhy call (Refuses call request)
  -- never no, nor an exhausted budget; and the meter is left alone
  pub no : call.status ≢ status.No
  pub exhausted : call.status ≢ status.Budget
  pub journal : call.meter.after ≡ call.meter.before
  -- where the bytes are told, but for want of memory and faults of the outside
  pub loop_fault : (fault : Fault) → ReadsLoop call request.file (Err fault)
      → Ends call (loop_refusal fault)
  pub ends : (l : Program (Expr ℕ)) → ReadsLoop call request.file (Ok l)
      → Ends call (run_answer l.names l.locals (replay_of l request.values request.word))
  pub long : IsLonger call.files.before (loop_at request.file) → EndsTooLong call request.file
