-- Which statuses the answers to questions have.
--   Undivided                          a refused division is a number that doesn't fit, or an exhausted
--                                      budget, and then it ran out of units
--   division_parts, division_kind      status and text of a refused division, and what it may be
--   equation_settled                   none of the arguments, of memory or of the outside
use Rattle.std.proofs.Common.{◌≡◌, ℕ, refl, inl, inr}
use Rattle.std.specs.Prelude.{List, Some, None}
use Rattle.machines.specs.Journal.{Journal}
use Rattle.loops.specs.Program.{Expr, Program}
use Rattle.divide.specs.declared.EngineError.{EngineError}
use Rattle.divide.specs.declared.EngineError.TheVariants as engine_error
use Rattle.analysis_commands.specs.RefusalTexts.{member_text}
use Rattle.io_edge.specs.declared.answer.Status.{Status}
use Rattle.io_edge.specs.declared.answer.Status.TheVariants as status
use Rattle.io_edge.specs.Texts.{Answer}
use Rattle.io_edge.specs.Settled.{IsSettled}
use Rattle.io_edge.proofs.OfStatuses.{status_of, some_answer, some_status, settled_yes, settled_no, settled_budget, refusing_wide}
use Rattle.analysis_commands.specs.MemberCourse.{AnswersEquation}
use Rattle.analysis_commands.specs.Questions.{Decision, unanalysed, undivided, yes, no, division_status, undivided_answer, positive_answer, negative_answer, decision_answer}
use Rattle.analysis_commands.proofs.Refused.{by_status, refusal_parts, refusal_kind, refused_settled}
use Rattle.command_parts.proofs.Refusals.{unformed_refuses}

-- ---- a refused division
pub data Undivided (x : EngineError) (s : Status) : Type 0 where
  too_wide_to_divide : s ≡ status.Wide → Undivided x s
  exhausted_dividing : s ≡ status.Budget → x ≡ engine_error.Budget → Undivided x s

pub division_parts : (budget : ℕ) (x : EngineError) (a : Answer)
    → undivided_answer budget x ≡ Some a
    → (division_status x ≡ Some a.status) × (a.text ≡ member_text budget x)
division_parts budget x a is = by_status (division_status x) (member_text budget x) a is

pub division_kind : (x : EngineError) (s : Status) → division_status x ≡ Some s → Undivided x s
division_kind engine_error.Wide s is = too_wide_to_divide (some_status _ s is)
division_kind engine_error.Budget s is = exhausted_dividing (some_status _ s is) refl
division_kind engine_error.Memory s is =
    absurd (let none : None ≡ Some s = is in let z : ⊥ = cc in z)

undivided_settled : (x : EngineError) (s : Status) → Undivided x s → IsSettled s
undivided_settled x s (too_wide_to_divide is) = (refusing_wide s is).plain.settled
undivided_settled x s (exhausted_dividing is same) = settled_budget s is

-- ---- what is answered
module _ (names : List (List ℕ)) (budget : ℕ) (a : Answer) where
  decision_settled : (d : Decision) → decision_answer names budget d ≡ Some a → IsSettled a.status
  decision_settled (unanalysed x) is =
      refused_settled x a.status (refusal_kind x a.status (refusal_parts names budget x a is).0)
  decision_settled (undivided x) is =
      undivided_settled x a.status (division_kind x a.status (division_parts budget x a is).0)
  decision_settled (yes qs) is =
      settled_yes a.status (status_of (some_answer (positive_answer names qs) a is))
  decision_settled no is = settled_no a.status (status_of (some_answer negative_answer a is))

pub equation_settled : (l : Program (Expr ℕ)) (e : Expr ℕ) (budget : ℕ) (before m : Journal)
    (a : Answer) → AnswersEquation l e budget before m a → IsSettled a.status
equation_settled l e budget before m a (inl stop) = (unformed_refuses l e a stop.0).plain.settled
equation_settled l e budget before m a (inr asks) =
    decision_settled l.names budget a asks.1.decision asks.1.says
