-- How the question ends whether a polynomial p is an invariant of a loop l.
--   Decision                        unanalysed: the analysis was refused; undivided: the division
--                                   was; yes: with these cofactors; no
--   Divides l p m gs                the journal m is that of the finished analysis of l, which
--                                   ended with the list gs, the reduced basis of the invariants of
--                                   l, after as few rounds as have them all, and of the division
--                                   of p by it; no task of the analysis is too long
--   AnswersYes l p m qs             so, nothing is left, and p is an invariant: the combination of
--                                   the qs, the division's cofactors, with the list
--   AnswersNo l p m                 so, something is left, and p is none
--   IsFollowingAsked l p m          m follows the analysis of l, and the division of p behind it
--   IsStoppedAsking l p m           m follows the analysis and the division, and the next
--                                   cancellation is past
--   DecidesWith l p budget m d      the question with this budget ends with d, and leaves the
--                                   journal m
--   division_status x               the status of a refused division; want of memory has none here
--   decision_answer names budget d  what is answered; to want of memory nothing is
--   membership_answer names x       what is answered to what the division says
--   Asks l p budget m a             a is the answer to a decision that leaves m
--   HasAsked l p budget m           the meter was opened with this budget, and its entries are
--                                   none or follow the analysis of l and the division
use Rattle.std.specs.Prelude.{◌≡◌, ◌⊎◌, ℕ, List, [], Option, Some, None, option_map, is_some, true, codes}
use Rattle.algebra.specs.Fraction.{Fraction, ℚ}
use Rattle.polynomials.specs.Terms.{Terms, Same, combination}
use Rattle.machines.specs.Division as division
use Rattle.machines.specs.Journal as journal
use Rattle.machines.specs.Journal.{Journal}
use Rattle.loops.specs.Inv.{Inv}
use Rattle.loops.specs.Program.{Expr, Program}
use Rattle.loop_model.specs.Maps.{AreFree}
use Rattle.rounds.specs.Analysis.{State}
use Rattle.rounds.specs.Journal.{setting_of, Follows, IsFinished, IsOut, IsAnswered}
use Rattle.rounds.specs.Past.{IsPast, task_of}
use Rattle.poly.specs.Seen.{terms_each}
use Rattle.divide.specs.declared.EngineError.{EngineError}
use Rattle.divide.specs.declared.EngineError.TheVariants as engine_error
use Rattle.invariant_fix.specs.Answers.{AreShortFrom, IsLeastLevel}
use Rattle.invariant_fix.specs.Refusals.{AllHaveForms, IsRefused}
use Rattle.invariant_fix.specs.declared.errors.AnalyseError.{AnalyseError}
use Rattle.invariant_fix.specs.declared.membership.Membership as declared
use Rattle.invariant_fix.specs.declared.membership.Membership.TheVariants as membership
use Rattle.analysis_commands.specs.AnalysisTexts.{yes_text}
use Rattle.io_edge.specs.declared.answer.Status.{Status}
use Rattle.io_edge.specs.declared.answer.Status.TheVariants as status
use Rattle.io_edge.specs.Texts.{Answer, with_text, answer}
use Rattle.analysis_commands.specs.Analyses.{empty_journal}
use Rattle.analysis_commands.specs.Headline.{IsBasisOf}
use Rattle.analysis_commands.specs.MemberHeadline.{AreCofactors}
use Rattle.analysis_commands.specs.RefusalTexts.{member_text, refusal_answer}

pub data Decision : Type 0 where
  unanalysed : AnalyseError → Decision
  undivided : EngineError → Decision
  yes : List (Terms Fraction) → Decision
  no : Decision

module _ (l : Program (Expr ℕ)) (p : Terms Fraction) where
  pub record Divides (m : Journal) (gs : List (Terms Fraction)) : Type 0 where
    pub free : AreFree l
    pub forms : AllHaveForms l
    pub rounds : ℕ
    pub least : IsLeastLevel l rounds
    pub basis : IsBasisOf l gs
    pub analysis : List journal.Entry
    pub finished : IsFinished l analysis rounds gs
    pub short : AreShortFrom l None analysis
    pub last : division.State Fraction
    pub answered : IsAnswered l p m.entries rounds gs last

  pub record IsFollowingAsked (m : Journal) : Type 0 where
    pub state : State
    pub follows : Follows l (Some p) m.entries state

  pub record IsStoppedAsking (m : Journal) : Type 0 where
    pub state : State
    pub follows : Follows l (Some p) m.entries state
    pub is_task : task_of state ≡ journal.Member
    pub past : IsPast (setting_of l follows.forms (Some p)) state

  pub record AnswersYes (m : Journal) (qs : List (Terms Fraction)) : Type 0 where
    pub list : List (Terms Fraction)
    pub divides : Divides m list
    pub gone : divides.last.current ≡ None
    pub cofactors : AreCofactors list p qs
    pub sum : Same ℚ p (combination ℚ qs list)
    pub invariant : Inv l p

  pub record AnswersNo (m : Journal) : Type 0 where
    pub list : List (Terms Fraction)
    pub divides : Divides m list
    pub left : is_some divides.last.current ≡ true
    pub none : ¬ (Inv l p)

  abbrev pub IsUndivided : ℕ → Journal → EngineError → Type 0
  IsUndivided budget m engine_error.Wide = AreFree l × AllHaveForms l × IsStoppedAsking m
  IsUndivided budget m engine_error.Budget =
      AreFree l × AllHaveForms l × IsOut l (Some p) budget m.entries
  IsUndivided budget m engine_error.Memory = Unit {0}

  abbrev pub DecidesWith : ℕ → Journal → Decision → Type 0
  DecidesWith budget m (unanalysed x) = (m.limit ≡ budget) × IsRefused l (empty_journal budget) m x
  DecidesWith budget m (undivided x) = (m.limit ≡ budget) × IsUndivided budget m x
  DecidesWith budget m (yes qs) = (m.limit ≡ budget) × AnswersYes m qs
  DecidesWith budget m no = (m.limit ≡ budget) × AnswersNo m

abbrev pub division_status : EngineError → Option Status
division_status engine_error.Wide = Some status.Wide
division_status engine_error.Budget = Some status.Budget
division_status engine_error.Memory = None

abbrev pub undivided_answer : ℕ → EngineError → Option Answer
undivided_answer budget x = option_map (λ s. with_text s (member_text budget x)) (division_status x)

abbrev pub positive_answer : List (List ℕ) → List (Terms Fraction) → Answer
positive_answer names qs = with_text status.Yes (yes_text names qs)

abbrev pub negative_answer : Answer
negative_answer = answer status.No (codes "no")

abbrev pub decision_answer : List (List ℕ) → ℕ → Decision → Option Answer
decision_answer names budget (unanalysed x) = refusal_answer names budget x
decision_answer names budget (undivided x) = undivided_answer budget x
decision_answer names budget (yes qs) = Some (positive_answer names qs)
decision_answer names budget no = Some negative_answer

abbrev pub membership_answer : List (List ℕ) → declared.Membership → Answer
membership_answer names (membership.Yes qs) = positive_answer names (terms_each qs.items)
membership_answer names membership.No = negative_answer

module _ (l : Program (Expr ℕ)) (p : Terms Fraction) (budget : ℕ) (m : Journal) where
  pub record Asks (a : Answer) : Type 0 where
    pub decision : Decision
    pub ends : DecidesWith l p budget m decision
    pub says : decision_answer l.names budget decision ≡ Some a

  pub record HasAsked : Type 0 where
    pub limit : m.limit ≡ budget
    pub follows : (m.entries ≡ []) ⊎ IsFollowingAsked l p m
