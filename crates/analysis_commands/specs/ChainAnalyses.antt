-- How the analysis of a chain ends, and what `chain` answers then.
--   HaveFound c budget m bases       each loop of c is formed and has a finished journal within the budget, from what is given to it, and the bases are their lists; m is the journal of the last loop
--   Ending                           found: the bases; refused: why a loop has none
--   EndsWith c budget m e            the analysis of c with this budget ends with e, and leaves the journal m; what is told of the bases can be read back
--   between_answer                   that the weight of making the list of code, or of what comes next in its elimination, is past
--   AreNamedIn m e                   the variables that the refusal e tells are among m
--   answer_of names budget e         what is answered; to want of memory nothing is
--   Analyses c budget m a            a is the answer to an ending that leaves m
--   HasAnalysed c budget m           the meter was opened for a loop of c, with what is left of the budget, and its entries are none or follow this loop from what is given to it; or with the budget for the code before the loop, and they are a beginning of those of its elimination
use Rattle.std.specs.Prelude.{◌≡◌, ℕ, suc, ◌≤◌, List, [], get_or, length, Option, Some, option_map, codes, ⊤}
use Rattle.algebra.specs.Fraction.{Fraction}
use Rattle.polynomials.specs.Terms.{Terms}
use Rattle.machines.specs.Journal.{Journal}
use Rattle.loops.specs.Program.{Expr}
use Rattle.rounds.specs.Journal.{IsFinishedBy}
use Rattle.loops.specs.Chain.{Chain, loop_at}
use Rattle.corollaries.specs.Analysed.{Analysed}
use Rattle.invariant_fix.specs.Bases.{IsFormed, InLoop, HasWorked, IsRefusedIn}
use Rattle.invariant_fix.specs.declared.refused.LoopError.{LoopError}
use Rattle.invariant_fix.specs.declared.refused.LoopError.TheVariants as loop_error
use Rattle.invariant_fix.specs.declared.refused.Refused.{Refused}
use Rattle.io_edge.specs.declared.answer.Status.TheVariants as status
use Rattle.io_edge.specs.Texts.{Answer, with_text, line}
use Rattle.analysis_commands.specs.Naming.{AreNamed}
use Rattle.analysis_commands.specs.RefusalTexts.{refusal_answer}
use Rattle.analysis_commands.specs.ChainTexts.{bases_text, in_loop}
use Rattle.analysis_commands.specs.ChainHeadline.{AreReadBack}

pub record HaveFound (c : Chain (Expr ℕ)) (budget : ℕ) (m : Journal)
    (bases : List (List (Terms Fraction))) : Type 0 where
  pub count : length bases ≡ suc (length c.further)
  pub formed : (j : ℕ) → j ≤ length c.further → IsFormed c j
  pub analysed : (j : ℕ) → j ≤ length c.further → Analysed c budget j (get_or bases j [])
  pub rounds : ℕ
  pub done : InLoop c budget m (length c.further) (λ left given.
      IsFinishedBy (loop_at c (length c.further)) given m.entries rounds
      (get_or bases (length c.further) []))

pub data Ending : Type 0 where
  found : List (List (Terms Fraction)) → Ending
  refused : Refused → Ending

module _ (c : Chain (Expr ℕ)) (budget : ℕ) (m : Journal) where
  abbrev pub EndsWith : Ending → Type 0
  EndsWith (found bases) = HaveFound c budget m bases × AreReadBack c.first.names bases
  EndsWith (refused r) = IsRefusedIn c budget m r

abbrev pub between_answer : Answer
between_answer = with_text status.Wide (line (codes "wide: between"))

-- the variables that a refusal tells are among so many
abbrev pub AreNamedIn : ℕ → LoopError → Type 0
AreNamedIn m (loop_error.Analysis e) = AreNamed m e
AreNamedIn m loop_error.Between = ⊤

abbrev pub error_answer : List (List ℕ) → ℕ → LoopError → Option Answer
error_answer names budget (loop_error.Analysis e) = refusal_answer names budget e
error_answer names budget loop_error.Between = Some between_answer

abbrev pub refused_answer : List (List ℕ) → ℕ → Refused → Option Answer
refused_answer names budget r = option_map (in_loop r.place) (error_answer names budget r.error)

abbrev pub answer_of : List (List ℕ) → ℕ → Ending → Option Answer
answer_of names budget (found bases) = Some (with_text status.Yes (bases_text names 0 bases))
answer_of names budget (refused r) = refused_answer names budget r

pub record Analyses (c : Chain (Expr ℕ)) (budget : ℕ) (m : Journal) (a : Answer) : Type 0 where
  pub ending : Ending
  pub ends : EndsWith c budget m ending
  pub says : answer_of c.first.names budget ending ≡ Some a

pub record HasAnalysed (c : Chain (Expr ℕ)) (budget : ℕ) (m : Journal) : Type 0 where
  pub place : ℕ
  pub within : place ≤ length c.further
  pub worked : HasWorked c budget m place
