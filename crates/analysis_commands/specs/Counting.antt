-- What `gen` counts: the bases of the first loops of a family, which are numbered from 1, each analysed with the usual budget.
--   IsCounted l m before after   the journal m, with the usual budget, is that of the finished analysis of l, and `after` are the counts with its basis
--   IsNext j m before after      so of the loop that the text of loop j is
--   AreCounted n m c             the first n loops have bases so, the last of them with the journal m, and c are the counts over these bases
--   ShowsCounts n m said         the counts over the first n loops are said
--   StopsAt n m a                a tells why the analysis of one of the first n loops, which left m, has no basis; those before it are counted
--   IsLongAt n m place           the analysis of one of the first n loops, with the entries of m, comes to the task at this place, which is too long
--   IsExhaustedAt n m said           so, and its analysis with the usual budget is exhausted
--   AnswersFamily n m a          a answers `gen` of n loops, one way or the other
--   HasOpenedFor j m             the meter was opened with the usual budget for loop j, and its entries are none or follow its analysis
--   HasCounted n m               so, for one of the first n loops
--   IsFamily n P                 P of each of the first n loops
use Rattle.std.specs.Prelude.{◌≡◌, ◌⊎◌, ◌<◌, ◌≤◌, ℕ, zero, suc, List, Ok}
use Rattle.algebra.specs.Fraction.{Fraction}
use Rattle.polynomials.specs.Terms.{Terms}
use Rattle.machines.specs.Journal.{Journal, units_of}
use Rattle.loops.specs.Program.{Expr, Program}
use Rattle.loop_text.specs.LoopReader.{loop_of}
use Rattle.loop_text.specs.Family.{Counts, loop_text, nothing, with_basis, summary}
use Rattle.command_parts.specs.Numerals.{usual_budget}
use Rattle.io_edge.specs.declared.answer.Status.TheVariants.{Yes}
use Rattle.io_edge.specs.Texts.{Answer}
use Rattle.analysis_commands.specs.Analyses.{HasFound, HasAnalysed}
use Rattle.analysis_commands.specs.Causes.{IsExhausted, IsUnanalysed}
use Rattle.analysis_commands.specs.LongTasks.{IsToldLong}

pub record IsCounted (l : Program (Expr ℕ)) (m : Journal) (before after : Counts) : Type 0 where
  pub list : List (Terms Fraction)
  pub limit : m.limit ≡ usual_budget
  pub within : units_of m.entries ≤ usual_budget
  pub finds : HasFound l m list
  pub adds : after ≡ with_basis list before

pub record IsNext (j : ℕ) (m : Journal) (before after : Counts) : Type 0 where
  pub loop : Program (Expr ℕ)
  pub is_loop : loop_of (loop_text j) ≡ Ok loop
  pub counted : IsCounted loop m before after

abbrev pub AreCounted : ℕ → Journal → Counts → Type 0
AreCounted zero m c = c ≡ nothing
AreCounted (suc n) m c =
    (before : Counts) × (last : Journal) × AreCounted n last before × IsNext (suc n) m before c

pub record ShowsCounts (n : ℕ) (m : Journal) (said : List ℕ) : Type 0 where
  pub counts : Counts
  pub counted : AreCounted n m counts
  pub says : said ≡ summary counts

pub record StopsAt (n : ℕ) (m : Journal) (a : Answer) : Type 0 where
  pub place : ℕ
  pub within : place < n
  pub counts : Counts
  pub last : Journal
  pub counted : AreCounted place last counts
  pub refused : IsUnanalysed (loop_text (suc place)) usual_budget m a

pub record IsExhaustedAt (n : ℕ) (m : Journal) (said : List ℕ) : Type 0 where
  pub place : ℕ
  pub within : place < n
  pub counts : Counts
  pub last : Journal
  pub counted : AreCounted place last counts
  pub exhausted : IsExhausted (loop_text (suc place)) usual_budget m said

pub record IsLongAt (n : ℕ) (m : Journal) (place : List ℕ) : Type 0 where
  pub number : ℕ
  pub within : number < n
  pub told : IsToldLong (loop_text (suc number)) m place

abbrev pub AnswersFamily : ℕ → Journal → Answer → Type 0
AnswersFamily n m a = ((a.status ≡ Yes) × ShowsCounts n m a.text) ⊎ StopsAt n m a

pub record HasOpenedFor (j : ℕ) (m : Journal) : Type 0 where
  pub loop : Program (Expr ℕ)
  pub is_loop : loop_of (loop_text j) ≡ Ok loop
  pub analysed : HasAnalysed loop usual_budget m

pub record HasCounted (n : ℕ) (m : Journal) : Type 0 where
  pub place : ℕ
  pub within : place < n
  pub opened : HasOpenedFor (suc place) m

abbrev pub IsFamily : ℕ → (Program (Expr ℕ) → Type 0) → Type 0
IsFamily n P = (place : ℕ) (l : Program (Expr ℕ)) → place < n
    → loop_of (loop_text (suc place)) ≡ Ok l → P l
