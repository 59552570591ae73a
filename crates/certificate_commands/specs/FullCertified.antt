-- How the analysis of a loop and the trace behind it end, and what `full` answers then.
--   IsAnalysed l budget         l is formed, and its analysis has ended within the budget, after as few rounds as have all its invariants, with no task that is too long
--   IsCertified l budget m c    and the trace of as many rounds has ended, with the journal m; c is the full certificate of both, with the cofactors of the divisions that closed the list; all parts
--                               of it hold, and it is read back from its text
--   IsLate l budget m b         the maps of l are free and its branches have closed forms, that of the branch b, which counts from 0, is the first that begins later than at 0,
--                               and the meter was opened and nothing was done
--   HasNoBasis l budget m e     the analysis has no basis for the reason e, and left m; a map or a branch is refused, or all branches begin at 0
--   Ending                      certified: the certificate; first_late: the first branch that begins later than at 0; unanalysed: why the analysis has no basis; untraced: why there is no trace behind it
--   IsUntraced l budget m e     the analysis has ended within the budget, and the trace was refused so, and left m
--   EndsWith l budget m e       they end with e, each with this budget, and leave the journal m
--   answer_of names budget e    what is answered; to want of memory nothing is
--   Certifies l budget m a      a is the answer to an ending that leaves m
--   IsTracing l budget m        the analysis has ended within the budget, and the entries of m are none or follow the trace behind it
--   HasWorked l budget m        the meter was opened for the analysis of l, or behind an analysis that has ended for the trace, and its entries are none or follow it
use Rattle.std.specs.Prelude.{◌≡◌, ◌⊎◌, ℕ, ◌≤◌, List, Option, Some, None, Ok}
use Rattle.algebra.specs.Fraction.{Fraction}
use Rattle.polynomials.specs.Terms.{Terms}
use Rattle.machines.specs.Journal.{Journal, Entry, units_of}
use Rattle.loops.specs.Program.{Expr, Program}
use Rattle.loop_model.specs.Maps.{AreFree}
use Rattle.rounds.specs.Journal as analysis
use Rattle.rounds.specs.Journal.{setting_of}
use Rattle.invariant_fix.specs.Answers.{AreShortFrom, IsLeastLevel}
use Rattle.invariant_fix.specs.Closing.{AreSteps}
use Rattle.invariant_fix.specs.Refusals.{AllHaveForms, HasFollowed, IfUnformedLoop}
use Rattle.invariant_fix.specs.declared.errors.AnalyseError.{AnalyseError}
use Rattle.corollaries.specs.Full.{FullCertificate}
use Rattle.corollaries.specs.Parts.{AllHold}
use Rattle.corollaries.specs.Trace.{Results}
use Rattle.corollaries.specs.Followed.{IsFinished}
use Rattle.corollaries.specs.Certified.{full_from}
use Rattle.full_cert.specs.Form.{full_in}
use Rattle.full_trace.specs.Late.{AllBeginAtZero, IsFirstLate}
use Rattle.full_trace.specs.Traced as trace
use Rattle.io_edge.specs.Texts.{Answer}
use Rattle.analysis_commands.specs.Analyses.{empty_journal, IsUnfound}
use Rattle.analysis_commands.specs.Headline.{IsBasisOf}
use Rattle.analysis_commands.specs.RefusalTexts.{refusal_answer}
use Rattle.certificate_commands.specs.FullTexts.{certificate_answer, late_answer}

pub record IsAnalysed (l : Program (Expr ℕ)) (budget : ℕ) : Type 0 where
  pub free : AreFree l
  pub forms : AllHaveForms l
  pub entries : List Entry
  pub rounds : ℕ
  pub list : List (Terms Fraction)
  pub finished : analysis.IsFinished l entries rounds list
  pub few : units_of entries ≤ budget
  pub least : IsLeastLevel l rounds
  pub short : AreShortFrom l None entries

pub record IsCertified (l : Program (Expr ℕ)) (budget : ℕ) (m : Journal) (c : FullCertificate)
    : Type 0 where
  pub analysed : IsAnalysed l budget
  pub given : Results
  pub finished : IsFinished l analysed.rounds m.entries given
  pub is : c ≡ full_from analysed.list c.steps finished.follows.forms given
  pub steps : AreSteps (setting_of l analysed.finished.follows.forms None) analysed.list c.steps
  pub holds : AllHold l c
  pub is_basis : IsBasisOf l c.basis
  pub reads_back : full_in l (certificate_answer l.names c).text ≡ Ok c

pub record IsUntraced (l : Program (Expr ℕ)) (budget : ℕ) (m : Journal) (e : AnalyseError) : Type
    0 where
  pub analysed : IsAnalysed l budget
  pub limit : m.limit ≡ budget
  pub stopped : trace.IsStopped l analysed.rounds m e

pub record HasNoBasis (l : Program (Expr ℕ)) (budget : ℕ) (m : Journal) (e : AnalyseError) : Type
    0 where
  pub unfound : IsUnfound l budget m e
  pub before : IfUnformedLoop l e ⊎ AllBeginAtZero l

pub record IsLate (l : Program (Expr ℕ)) (budget : ℕ) (m : Journal) (b : ℕ) : Type 0 where
  pub free : AreFree l
  pub forms : AllHaveForms l
  pub first : IsFirstLate l b
  pub unbegun : m ≡ empty_journal budget

pub data Ending : Type 0 where
  certified : FullCertificate → Ending
  first_late : ℕ → Ending
  unanalysed : AnalyseError → Ending
  untraced : AnalyseError → Ending

module _ (l : Program (Expr ℕ)) (budget : ℕ) (m : Journal) where
  abbrev pub EndsWith : Ending → Type 0
  EndsWith (certified c) = (m.limit ≡ budget) × IsCertified l budget m c
  EndsWith (first_late b) = IsLate l budget m b
  EndsWith (unanalysed e) = HasNoBasis l budget m e
  EndsWith (untraced e) = IsUntraced l budget m e

abbrev pub answer_of : List (List ℕ) → ℕ → Ending → Option Answer
answer_of names budget (certified c) = Some (certificate_answer names c)
answer_of names budget (first_late b) = Some (late_answer b)
answer_of names budget (unanalysed e) = refusal_answer names budget e
answer_of names budget (untraced e) = refusal_answer names budget e

pub record Certifies (l : Program (Expr ℕ)) (budget : ℕ) (m : Journal) (a : Answer) : Type 0 where
  pub ending : Ending
  pub ends : EndsWith l budget m ending
  pub says : answer_of l.names budget ending ≡ Some a

pub record IsTracing (l : Program (Expr ℕ)) (budget : ℕ) (m : Journal) : Type 0 where
  pub analysed : IsAnalysed l budget
  pub follows : trace.HasFollowed l analysed.rounds m.entries

pub record HasWorked (l : Program (Expr ℕ)) (budget : ℕ) (m : Journal) : Type 0 where
  pub limit : m.limit ≡ budget
  pub follows : HasFollowed l m.entries ⊎ IsTracing l budget m
