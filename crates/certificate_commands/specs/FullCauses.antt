-- How `full` ends, over the bytes of LOOP.
--   HasFinished text budget m        the bytes are a loop whose maps are free, and the journal m, with this budget, is that of its finished trace of as few rounds as have all its invariants
--   IsCertificateOf text budget m said     they are a loop, and what is said is the full certificate of its analysis, which has ended within the budget, and of the finished trace behind it, with the journal m
--   IsExhaustedTracing l budget m        the analysis has ended within the budget, and the trace behind it is out of units
--   IsExhausted text budget m said       they are a loop whose maps are free and whose branches have closed forms; the entries of m follow its analysis, or behind an analysis that has ended within the budget its trace,
--                                    as many of them are units as the budget, what comes next is a unit, and the budget is said
--   IsToldLate text budget m a       they are a loop whose maps are free and whose branches have closed forms, and a tells the first that begins later than at 0; m was opened, and nothing was done
--   HasBegun text budget m           they are a loop, and the meter was opened for its analysis or for the trace behind it
--   IsRefusedTrace text budget m a   they are a loop whose analysis has ended within the budget, and a tells why the trace behind it, which left m, was refused
--   IsNeverRefused l k               nothing refuses the analysis of l, and no state of its trace of k rounds is past
--   IsWithinBudget l budget          some finished journal of the loop, and the finished trace of as many rounds, have at most as many units as the budget
use Rattle.std.specs.Prelude.{◌≡◌, ◌⊎◌, ◌≤◌, ℕ, List, ◌++◌, map, None, Some, Ok, codes, decimal}
use Rattle.machines.specs.Journal.{Journal, Entry, units_of}
use Rattle.loops.specs.Program.{Expr, Program}
use Rattle.loop_model.specs.Maps.{AreFree}
use Rattle.loop_text.specs.LoopReader.{loop_of}
use Rattle.rounds.specs.Journal as journal
use Rattle.rounds.specs.Journal.{setting_of}
use Rattle.invariant_fix.specs.Answers.{IsLeastLevel}
use Rattle.invariant_fix.specs.Refusals.{AllHaveForms}
use Rattle.invariant_fix.specs.declared.errors.AnalyseError.{AnalyseError}
use Rattle.corollaries.specs.Full.{FullCertificate, as_form}
use Rattle.corollaries.specs.Trace.{Results, State}
use Rattle.corollaries.specs.Followed.{Follows, IsFinished, IsOut, IsPast}
use Rattle.io_edge.specs.Texts.{Answer, line}
use Rattle.analysis_commands.specs.Causes as causes
use Rattle.analysis_commands.specs.RefusalTexts.{refusal_answer}
use Rattle.certificate_commands.specs.FullCertified.{IsAnalysed, IsCertified, IsLate, IsUntraced, HasWorked}
use Rattle.certificate_commands.specs.FullTexts.{certificate_answer, late_answer}

pub record HasFinished (text : List ℕ) (budget : ℕ) (m : Journal) : Type 0 where
  pub loop : Program (Expr ℕ)
  pub is_loop : loop_of text ≡ Ok loop
  pub free : AreFree loop
  pub limit : m.limit ≡ budget
  pub rounds : ℕ
  pub least : IsLeastLevel loop rounds
  pub given : Results
  pub finished : IsFinished loop rounds m.entries given

pub record IsCertificateOf (text : List ℕ) (budget : ℕ) (m : Journal) (said : List ℕ) : Type
    0 where
  pub loop : Program (Expr ℕ)
  pub is_loop : loop_of text ≡ Ok loop
  pub certificate : FullCertificate
  pub certified : IsCertified loop budget m certificate
  pub says : said ≡ (certificate_answer loop.names certificate).text

pub record IsExhaustedTracing (l : Program (Expr ℕ)) (budget : ℕ) (m : Journal) : Type 0 where
  pub analysed : IsAnalysed l budget
  pub out : IsOut l analysed.rounds budget m.entries

pub record IsExhausted (text : List ℕ) (budget : ℕ) (m : Journal) (said : List ℕ) : Type 0 where
  pub loop : Program (Expr ℕ)
  pub is_loop : loop_of text ≡ Ok loop
  pub free : AreFree loop
  pub forms : AllHaveForms loop
  pub limit : m.limit ≡ budget
  pub out : journal.IsOut loop None budget m.entries ⊎ IsExhaustedTracing loop budget m
  pub says : said ≡ line (codes "budget: " ++ decimal budget)

pub record IsToldLate (text : List ℕ) (budget : ℕ) (m : Journal) (a : Answer) : Type 0 where
  pub loop : Program (Expr ℕ)
  pub is_loop : loop_of text ≡ Ok loop
  pub branch : ℕ
  pub late : IsLate loop budget m branch
  pub says : a ≡ late_answer branch

pub record HasBegun (text : List ℕ) (budget : ℕ) (m : Journal) : Type 0 where
  pub loop : Program (Expr ℕ)
  pub is_loop : loop_of text ≡ Ok loop
  pub worked : HasWorked loop budget m

pub record IsRefusedTrace (text : List ℕ) (budget : ℕ) (m : Journal) (a : Answer) : Type 0 where
  pub loop : Program (Expr ℕ)
  pub is_loop : loop_of text ≡ Ok loop
  pub error : AnalyseError
  pub untraced : IsUntraced loop budget m error
  pub says : refusal_answer loop.names budget error ≡ Some a

pub record IsNeverRefused (l : Program (Expr ℕ)) (k : ℕ) : Type 0 where
  pub analysis : causes.IsNeverRefused l
  pub states : (es : List Entry) (s : State) (f : Follows l k es s)
      → IsPast (setting_of l (map as_form f.forms) None) s → ⊥

pub record IsWithinBudget (l : Program (Expr ℕ)) (budget : ℕ) : Type 0 where
  pub analysis : causes.IsWithinBudget l budget
  pub entries : List Entry
  pub given : Results
  pub finished : IsFinished l analysis.rounds entries given
  pub few : units_of entries ≤ budget
