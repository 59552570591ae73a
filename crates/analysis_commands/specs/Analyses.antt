-- How the analysis of a loop ends, and what `basis` and `cert` answer then.
--   empty_journal budget            the meter with which an analysis begins
--   HasFound l m gs             the journal m is that of the finished analysis of l, which ended with the list gs: the reduced basis of the invariants of l, after as few rounds as have them all; no task on the way is too long
--   HasClosed l m c            so, with the list of c, whose cofactors are those of the divisions that closed the analysis
--   IsUnfound l budget m e   the analysis of l with this budget has no basis for this reason, and leaves the journal m
--   Ending                   found: a certificate with the list; refused: why there is none
--   EndsWith kind l budget m e   the analysis of l with this budget ends with e, and leaves the journal m; the certificate is valid too, and what is told of it can be read back
--   answer_of kind names budget e     what is answered; to want of memory nothing is
--   Analyses kind l budget m a    a is the answer to an ending that leaves m
--   AnswersRefusal l budget m a   a tells why the analysis of l, which left m, has no basis
--   HasAnalysed l budget m   the meter was opened with this budget, and its entries are none or follow the analysis of l
use Rattle.std.specs.Prelude.{◌≡◌, ℕ, List, [], length, Option, Some, None}
use Rattle.algebra.specs.Fraction.{Fraction}
use Rattle.polynomials.specs.Terms.{Terms}
use Rattle.machines.specs.Journal.{Journal}
use Rattle.loops.specs.Certificate.{Certificate, IsValid}
use Rattle.loops.specs.Program.{Expr, Program}
use Rattle.loop_model.specs.Maps.{AreFree}
use Rattle.rounds.specs.Journal.{setting_of, IsFinished}
use Rattle.invariant_fix.specs.Answers.{AreShortFrom, IsLeastLevel}
use Rattle.invariant_fix.specs.Closing.{AreSteps}
use Rattle.invariant_fix.specs.Refusals.{AllHaveForms, HasFollowed, IsRefused}
use Rattle.invariant_fix.specs.declared.errors.AnalyseError.{AnalyseError}
use Rattle.analysis_commands.specs.declared.kind.Kind.{Kind}
use Rattle.analysis_commands.specs.Headline.{IsBasisOf, IsToldBack}
use Rattle.io_edge.specs.Texts.{Answer}
use Rattle.analysis_commands.specs.Texts.{found_answer}
use Rattle.analysis_commands.specs.RefusalTexts.{refusal_answer}

abbrev pub empty_journal : ℕ → Journal
empty_journal budget = record { limit = budget; entries = [] }

pub record HasFound (l : Program (Expr ℕ)) (m : Journal) (gs : List (Terms Fraction)) : Type 0 where
  pub free : AreFree l
  pub forms : AllHaveForms l
  pub rounds : ℕ
  pub finished : IsFinished l m.entries rounds gs
  pub least : IsLeastLevel l rounds
  pub basis : IsBasisOf l gs
  pub short : AreShortFrom l None m.entries

pub record HasClosed (l : Program (Expr ℕ)) (m : Journal) (c : Certificate) : Type 0 where
  pub ended : HasFound l m c.basis
  pub steps : AreSteps (setting_of l ended.finished.follows.forms None) c.basis c.steps

pub data Ending : Type 0 where
  found : Certificate → Ending
  refused : AnalyseError → Ending

module _ (l : Program (Expr ℕ)) (budget : ℕ) (m : Journal) where
  abbrev pub IsUnfound : AnalyseError → Type 0
  IsUnfound e = (m.limit ≡ budget) × IsRefused l (empty_journal budget) m e

  abbrev pub EndsWith : Kind → Ending → Type 0
  EndsWith kind (found c) =
      (m.limit ≡ budget) × HasClosed l m c
      × IsValid l c × IsToldBack kind l.names (length l.branches) c
  EndsWith kind (refused e) = IsUnfound e

abbrev pub answer_of : Kind → List (List ℕ) → ℕ → Ending → Option Answer
answer_of kind names budget (found c) = Some (found_answer kind names c)
answer_of kind names budget (refused e) = refusal_answer names budget e

pub record Analyses (kind : Kind) (l : Program (Expr ℕ)) (budget : ℕ) (m : Journal) (a : Answer)
    : Type 0 where
  pub ending : Ending
  pub ends : EndsWith l budget m kind ending
  pub says : answer_of kind l.names budget ending ≡ Some a

pub record AnswersRefusal (l : Program (Expr ℕ)) (budget : ℕ) (m : Journal) (a : Answer)
    : Type 0 where
  pub error : AnalyseError
  pub ends : IsUnfound l budget m error
  pub says : refusal_answer l.names budget error ≡ Some a

pub record HasAnalysed (l : Program (Expr ℕ)) (budget : ℕ) (m : Journal) : Type 0 where
  pub limit : m.limit ≡ budget
  pub follows : HasFollowed l m.entries
