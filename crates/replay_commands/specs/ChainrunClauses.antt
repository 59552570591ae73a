-- What `chainrun` promises.
--   ShowsChainRun text request said     the bytes are a chain, the values are one of its starts, there is a word for each loop, the letters of each are numbers of branches of its loop, and the states of this run are said, one a line
--   IsMiscounted text request a         they are a chain, there isn't a word for each loop, and a tells so
--   IsChainRunFault text request a      they are a chain, there is a word for each loop, and a tells the first refusal of the run
--   Refuses call request a              a tells the first fault of CHAIN or of the run
--   ReplaysChain request call           the clauses
use Rattle.std.specs.Prelude.{◌≡◌, ◌≢◌, ◌⊎◌, ℕ, List, length, Ok, Err}
use Rattle.poly_text.specs.Reasons.{Fault}
use Rattle.loops.specs.Program.{Expr}
use Rattle.loops.specs.Chain.{Chain, ChainRun, stages_of, chain_states}
use Rattle.loop_text.specs.ChainReader.{chain_of}
use Rattle.loop_runs.specs.Replay.{RunFault}
use Rattle.loop_runs.specs.ChainReplay.{chain_replay_of}
use Rattle.io_edge.specs.declared.answer.Status.TheVariants as status
use Rattle.io_edge.specs.Texts.{Answer}
use Rattle.io_edge.specs.Outcome.{Call}
use Rattle.io_edge.specs.Clauses.{Wrote, TellsWhy, IfTold, Ends, EndsTooLong, IsLonger}
use Rattle.command_parts.specs.FaultTexts.{loop_refusal}
use Rattle.command_parts.specs.LoopReading.{loop_at as chain_at}
use Rattle.command_parts.specs.ChainReading.{IsChainFault, ReadsChain}
use Rattle.command_parts.specs.StateTexts.{states_text}
use Rattle.replay_commands.specs.RunTexts.{run_answer}
use Rattle.replay_commands.specs.ChainrunTexts.{IsOfWords, count_answer}
use Rattle.replay_commands.specs.ChainrunArguments.{Request}

pub record ShowsChainRun (text : List ℕ) (request : Request) (said : List ℕ) : Type 0 where
  pub chain : Chain (Expr ℕ)
  pub is_chain : chain_of text ≡ Ok chain
  pub run : ChainRun chain
  pub is_from : run.start ≡ request.values
  pub is_along : run.words ≡ request.words
  pub says : said ≡ states_text chain.first.names
      (chain_states chain.first (stages_of chain) request.words request.values)

pub record IsMiscounted (text : List ℕ) (request : Request) (a : Answer) : Type 0 where
  pub chain : Chain (Expr ℕ)
  pub is_chain : chain_of text ≡ Ok chain
  pub other : ¬ (IsOfWords chain request.words)
  pub says : a ≡ count_answer (length request.words) (length (stages_of chain))

pub record IsChainRunFault (text : List ℕ) (request : Request) (a : Answer) : Type 0 where
  pub chain : Chain (Expr ℕ)
  pub is_chain : chain_of text ≡ Ok chain
  pub of_words : IsOfWords chain request.words
  pub fault : RunFault
  pub is : chain_replay_of chain request.values request.words ≡ Err fault
  pub says : a ≡ run_answer chain.first.names chain.first.locals (Err fault)

abbrev pub Refuses : Call → Request → Answer → Type 0
Refuses call request a = IfTold call.files.before request.file
    (λ text. IsChainFault text a ⊎ (IsMiscounted text request a ⊎ IsChainRunFault text request a))

pub record ReplaysChain (request : Request) (call : Call) : Type 0 where
  -- yes: the values are a start of the first loop, each letter is the number of a branch of its own
  -- loop, and the text is the states of this run of the chain
  pub states : call.status ≡ status.Yes → IfTold call.files.before request.file
      (λ text. Wrote call.sink (ShowsChainRun text request))
  -- a fault, or a number that doesn't fit: the text tells the first fault of CHAIN, that there
  -- isn't a word for each loop, or the first refusal of the run
  pub why : TellsWhy call (Refuses call request)
  -- never no, nor an exhausted budget; and the meter is left alone
  pub no : call.status ≢ status.No
  pub exhausted : call.status ≢ status.Budget
  pub journal : call.meter.after ≡ call.meter.before
  -- where the bytes are told, but for want of memory and faults of the outside
  pub chain_fault : (fault : Fault) → ReadsChain call request.file (Err fault)
      → Ends call (loop_refusal fault)
  pub miscounted : (c : Chain (Expr ℕ)) → ReadsChain call request.file (Ok c)
      → ¬ (IsOfWords c request.words)
      → Ends call (count_answer (length request.words) (length (stages_of c)))
  pub ends : (c : Chain (Expr ℕ)) → ReadsChain call request.file (Ok c)
      → IsOfWords c request.words
      → Ends call (run_answer c.first.names c.first.locals
      (chain_replay_of c request.values request.words))
  pub long : IsLonger call.files.before (chain_at request.file) → EndsTooLong call request.file
