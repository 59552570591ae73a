-- How an analysis of a chain ends, over the bytes of CHAIN.
--   HasFinished text budget m        the bytes are a chain, and the journal m is that of the finished analysis of its last loop, from what is given to it, with what is left of the budget
--   IsExhausted text budget m said       they are a chain; of one of its loops no operation of the maps, nor of the code before it, passes a limit and each branch has a closed form; the entries of m follow it from what is given to it, or the elimination of its code, as many of them are units as are left or allowed, what comes next is a unit, and the budget is said of this loop
--   IsAnalysed text budget m         they are a chain, and the meter was opened for the analysis of one of its loops, or for the code before one
--   IsUnanalysed text budget m a     they are a chain, and a tells why the analysis of one of its loops, which left m, has no basis
--   limit_text_in j place            the text that tells this place, said of the loop at j
--   IfLimitIn said T                 where this is what is said, T of the two
--   IsToldLong text budget m j place the bytes are a chain, and a loop of it, whose number is told as that of j, is formed; the entries of m follow it from what is given to it up to the task at this place, which is too long
--   IsNeverLongAt c budget j         no task that the analysis of loop j comes to, from what is given, is too long
--   AreFormedBefore c budget j       the loops before the place j are formed, and none of their tasks is too long
--   IsWithinBudget c budget          each loop has a finished journal of at most as many units as the budget, with that of the code before it
--   IsNeverRefusedAt c budget j      no operation of the code or of the maps passes a limit or is past, no branch is refused, no state of the analysis from what is given is past and no task is too long, and none of the code's elimination
--   IsNeverRefused c budget          so it is for each loop of c
use Rattle.std.specs.Prelude.{◌≡◌, ◌⊎◌, ◌<◌, ◌≤◌, ℕ, suc, List, ◌++◌, length, Option, Some, None, Ok, codes, decimal, ◌+◌}
use Rattle.algebra.specs.Fraction.{Fraction}
use Rattle.polynomials.specs.Terms.{Terms}
use Rattle.machines.specs.Journal.{Journal, Entry as Made}
use Rattle.loops.specs.Program.{Expr}
use Rattle.loop_model.specs.Operations.{IsFree, IsWide}
use Rattle.rounds.specs.Analysis.{State}
use Rattle.rounds.specs.BranchMap.{map_of}
use Rattle.rounds.specs.Journal.{setting_from, FollowsFrom, IsFinishedBy, IsOutFrom}
use Rattle.rounds.specs.Past.{IsPast}
use Rattle.closed_forms.specs.Refusal.{Refusal, IfFormRefused}
use Rattle.corollaries.specs.Between.{IsExhaustedLeading, IsPastLeading}
use Rattle.loops.specs.Chain.{Chain, code_at, loop_at}
use Rattle.corollaries.specs.Analysed.{Analysed, GivenTo}
use Rattle.loop_text.specs.ChainReader.{chain_of}
use Rattle.invariant_fix.specs.Bases.{IsFormed, InLoop, InCode, operations_at, IsRefusedIn}
use Rattle.journal.specs.View as view
use Rattle.journal.specs.declared.Task.{Task}
use Rattle.invariant_fix.specs.Long.{IsLong}
use Rattle.invariant_fix.specs.Refusals.{HasLongFrom}
use Rattle.invariant_fix.specs.declared.refused.Refused.{Refused}
use Rattle.io_edge.specs.Texts.{Answer, line}
use Rattle.analysis_commands.specs.RefusalTexts.{place_text}
use Rattle.analysis_commands.specs.LongTasks.{limit_text}
use Rattle.analysis_commands.specs.ChainAnalyses.{HasAnalysed, refused_answer}

pub record HasFinished (text : List ℕ) (budget : ℕ) (m : Journal) : Type 0 where
  pub chain : Chain (Expr ℕ)
  pub is_chain : chain_of text ≡ Ok chain
  pub rounds : ℕ
  pub list : List (Terms Fraction)
  pub done : InLoop chain budget m (length chain.further) (λ left given.
      IsFinishedBy (loop_at chain (length chain.further)) given m.entries rounds list)

pub record IsExhausted (text : List ℕ) (budget : ℕ) (m : Journal) (said : List ℕ) : Type 0 where
  pub chain : Chain (Expr ℕ)
  pub is_chain : chain_of text ≡ Ok chain
  pub place : ℕ
  pub within : place ≤ length chain.further
  pub formed : IsFormed chain place
  pub out : InLoop chain budget m place (λ left given.
      IsOutFrom (loop_at chain place) given None left m.entries)
      ⊎ InCode chain budget m place (λ gs.
      IsExhaustedLeading chain.first (code_at chain place) gs budget m.entries)
  pub says : said ≡ codes "loop " ++ decimal (place + 1) ++ codes ": "
      ++ line (codes "budget: " ++ decimal budget)

pub record IsAnalysed (text : List ℕ) (budget : ℕ) (m : Journal) : Type 0 where
  pub chain : Chain (Expr ℕ)
  pub is_chain : chain_of text ≡ Ok chain
  pub analysed : HasAnalysed chain budget m

pub record IsUnanalysed (text : List ℕ) (budget : ℕ) (m : Journal) (a : Answer) : Type 0 where
  pub chain : Chain (Expr ℕ)
  pub is_chain : chain_of text ≡ Ok chain
  pub refused : Refused
  pub ends : IsRefusedIn chain budget m refused
  pub says : refused_answer chain.first.names budget refused ≡ Some a

abbrev pub limit_text_in : ℕ → List ℕ → List ℕ
limit_text_in j place = codes "loop " ++ decimal (j + 1) ++ codes ": " ++ limit_text place

abbrev pub IfLimitIn : List ℕ → (ℕ → List ℕ → Type 0) → Type 0
IfLimitIn said T = (j : ℕ) (place : List ℕ) → said ≡ limit_text_in j place → T j place

pub record IsToldLong (text : List ℕ) (budget : ℕ) (m : Journal) (j : ℕ) (place : List ℕ)
    : Type 0 where
  pub chain : Chain (Expr ℕ)
  pub is_chain : chain_of text ≡ Ok chain
  pub loop : ℕ
  pub within : loop ≤ length chain.further
  pub number : decimal (loop + 1) ≡ decimal (j + 1)
  pub formed : IsFormed chain loop
  pub task : Task
  pub at : place ≡ place_text task
  pub long : InLoop chain budget m loop (λ left given.
      HasLongFrom (loop_at chain loop) given (view.task_of task) m.entries)

abbrev pub IsNeverLongAt : Chain (Expr ℕ) → (budget j : ℕ) → Type 0
IsNeverLongAt c budget j = (left : ℕ) (given : Option (List (Terms Fraction)))
    → GivenTo c budget j left given → (es : List Made) (s : State)
    (f : FollowsFrom (loop_at c j) given None es s)
    → IsLong (setting_from (loop_at c j) given f.forms None) s → ⊥

abbrev pub AreFormedBefore : Chain (Expr ℕ) → (budget j : ℕ) → Type 0
AreFormedBefore c budget j = (i : ℕ) → i < j → IsFormed c i × IsNeverLongAt c budget i

pub record IsWithinBudget (c : Chain (Expr ℕ)) (budget : ℕ) : Type 0 where
  pub list : List (Terms Fraction)
  pub analysed : Analysed c budget (length c.further) list

pub record IsNeverRefusedAt (c : Chain (Expr ℕ)) (budget j : ℕ) : Type 0 where
  pub free : IsFree (length c.first.names) (operations_at c j)
  pub maps : (at : ℕ) → IsWide (length c.first.names) (operations_at c j) at → ⊥
  pub branches : (b : ℕ) (r : Refusal) → b < length (loop_at c j).branches
      → ¬ (IfFormRefused (map_of (loop_at c j) (suc b)) r)
  pub states : (left : ℕ) (given : Option (List (Terms Fraction))) → GivenTo c budget j left given
      → (es : List Made) (s : State) (f : FollowsFrom (loop_at c j) given None es s)
      → IsPast (setting_from (loop_at c j) given f.forms None) s → ⊥
  pub short : IsNeverLongAt c budget j
  pub code : (i : ℕ) (gs : List (Terms Fraction)) → j ≡ suc i → Analysed c budget i gs
      → (es : List Made) → IsPastLeading c.first (code_at c j) gs es → ⊥

abbrev pub IsNeverRefused : Chain (Expr ℕ) → ℕ → Type 0
IsNeverRefused c budget = (j : ℕ) → j ≤ length c.further → IsNeverRefusedAt c budget j
