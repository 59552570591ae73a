-- How an analysis ends, over the bytes of LOOP.
--   HasFinished text budget m        the bytes are a loop, no operation of its maps passes a limit, and the journal m, with this budget, is that of its finished analysis, after as few rounds as have all its invariants; no task on the way is too long
--   IsClosed kind text m said        they are a loop, m is the journal of its finished analysis, and what is said is its list, or the certificate with the cofactors of the divisions that closed it
--   IsExhausted text budget m said       they are a loop whose maps are free and whose branches have closed forms, the entries of m follow its analysis, as many of them are units as the budget, what comes next is a unit, and the budget is said
--   IsAnalysed text budget m         they are a loop, and the meter was opened for its analysis
--   IsUnanalysed text budget m a     they are a loop, and a tells why its analysis, which left m, has no basis
--   IsNeverLong l                    no task that the analysis comes to is too long
--   IsNeverRefused l                 no operation of the maps passes a limit or is past, no branch is refused, no state of the analysis is past, and no task is too long
--   IsWithinBudget l budget          some finished journal of the loop has at most as many units as the budget
--   IsExact r                        the refusal r of a branch has a cause that is no weight: a chain, a class that doesn't split, one whose sums are out of range, one that is too wide before its splitting, or one that is too long
use Rattle.std.specs.Prelude.{◌≡◌, ◌<◌, ◌≤◌, ⊤, ℕ, suc, List, ◌++◌, length, None, Ok, codes, decimal}
use Rattle.algebra.specs.Fraction.{Fraction}
use Rattle.polynomials.specs.Terms.{Terms}
use Rattle.machines.specs.Journal.{Journal, Entry as Made, units_of}
use Rattle.loops.specs.Certificate.{Certificate}
use Rattle.loops.specs.Program.{Expr, Program}
use Rattle.loop_model.specs.Operations.{IsWide}
use Rattle.loop_model.specs.Maps.{maps_operations, AreFree}
use Rattle.loop_text.specs.LoopReader.{loop_of}
use Rattle.rounds.specs.Analysis.{State}
use Rattle.rounds.specs.BranchMap.{map_of}
use Rattle.rounds.specs.Journal.{setting_of, Follows, IsFinished, IsOut}
use Rattle.rounds.specs.Past.{IsPast}
use Rattle.closed_forms.specs.Refusal.{Refusal, not_solvable, eigenvalues, range, wide_split, limit_form, wide_form, IfFormRefused}
use Rattle.invariant_fix.specs.Answers.{AreShortFrom, IsLeastLevel}
use Rattle.invariant_fix.specs.Closing.{AreSteps}
use Rattle.invariant_fix.specs.Long.{IsLong}
use Rattle.invariant_fix.specs.Refusals.{AllHaveForms}
use Rattle.io_edge.specs.Texts.{Answer, line}
use Rattle.analysis_commands.specs.declared.kind.Kind.{Kind}
use Rattle.analysis_commands.specs.Certificates.{found_text}
use Rattle.analysis_commands.specs.Analyses.{AnswersRefusal, HasAnalysed}

pub record HasFinished (text : List ℕ) (budget : ℕ) (m : Journal) : Type 0 where
  pub loop : Program (Expr ℕ)
  pub is_loop : loop_of text ≡ Ok loop
  pub free : AreFree loop
  pub limit : m.limit ≡ budget
  pub rounds : ℕ
  pub list : List (Terms Fraction)
  pub finished : IsFinished loop m.entries rounds list
  pub least : IsLeastLevel loop rounds
  pub short : AreShortFrom loop None m.entries

pub record IsClosed (kind : Kind) (text : List ℕ) (m : Journal) (said : List ℕ) : Type 0 where
  pub loop : Program (Expr ℕ)
  pub is_loop : loop_of text ≡ Ok loop
  pub certificate : Certificate
  pub rounds : ℕ
  pub finished : IsFinished loop m.entries rounds certificate.basis
  pub steps : AreSteps (setting_of loop finished.follows.forms None) certificate.basis
      certificate.steps
  pub says : said ≡ found_text kind loop.names certificate

pub record IsExhausted (text : List ℕ) (budget : ℕ) (m : Journal) (said : List ℕ) : Type 0 where
  pub loop : Program (Expr ℕ)
  pub is_loop : loop_of text ≡ Ok loop
  pub free : AreFree loop
  pub forms : AllHaveForms loop
  pub limit : m.limit ≡ budget
  pub out : IsOut loop None budget m.entries
  pub says : said ≡ line (codes "budget: " ++ decimal budget)

pub record IsAnalysed (text : List ℕ) (budget : ℕ) (m : Journal) : Type 0 where
  pub loop : Program (Expr ℕ)
  pub is_loop : loop_of text ≡ Ok loop
  pub analysed : HasAnalysed loop budget m

pub record IsUnanalysed (text : List ℕ) (budget : ℕ) (m : Journal) (a : Answer) : Type 0 where
  pub loop : Program (Expr ℕ)
  pub is_loop : loop_of text ≡ Ok loop
  pub refused : AnswersRefusal loop budget m a

abbrev pub IsNeverLong : Program (Expr ℕ) → Type 0
IsNeverLong l = (es : List Made) (s : State) (f : Follows l None es s)
    → IsLong (setting_of l f.forms None) s → ⊥

pub record IsNeverRefused (l : Program (Expr ℕ)) : Type 0 where
  pub free : AreFree l
  pub maps : (at : ℕ) → IsWide (length l.names) (maps_operations l) at → ⊥
  pub branches : (b : ℕ) (r : Refusal) → b < length l.branches
      → ¬ (IfFormRefused (map_of l (suc b)) r)
  pub states : (es : List Made) (s : State) (f : Follows l None es s)
      → IsPast (setting_of l f.forms None) s → ⊥
  pub short : IsNeverLong l

pub record IsWithinBudget (l : Program (Expr ℕ)) (budget : ℕ) : Type 0 where
  pub entries : List Made
  pub rounds : ℕ
  pub list : List (Terms Fraction)
  pub finished : IsFinished l entries rounds list
  pub few : units_of entries ≤ budget

abbrev pub IsExact : Refusal → Type 0
IsExact (not_solvable cycle) = ⊤
IsExact (eigenvalues class) = ⊤
IsExact (range class sum) = ⊤
IsExact (wide_split class candidate power row) = power ≡ 0
IsExact (limit_form variable) = ⊤
IsExact (wide_form variable) = ⊥
