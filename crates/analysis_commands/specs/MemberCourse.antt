-- The course of `member`: LOOP is read, and then the equation. Its first fault is told. Where its
-- polynomial can't be formed, this is told, and the meter is as it was; else the meter is opened
-- for the analysis of the loop and the division behind it, and the answer is to how they end.
--   HasAskedFor l e budget m   no operation by which it is formed passes a limit, and the meter
--                              was opened for its polynomial
--   AnswersEquation l e budget before m a     a answers the equation e, where the meter had the
--                                           journal before, and has m
--   by_equation reading next   a course by what a text says: the first fault ends it, an equation
--                              goes on
--   with_question before budget equation l     the equation is read for the loop l, and so it goes
--                                           on; here and below before is the journal that the
--                                           meter has before
--   course before request        the course
use Rattle.std.specs.Prelude.{◌≡◌, ◌⊎◌, ℕ, List, Result, Ok, Err}
use Rattle.machines.specs.Journal.{Journal}
use Rattle.loops.specs.Program.{Expr, Program}
use Rattle.poly_text.specs.Reasons.{Fault}
use Rattle.io_edge.specs.Texts.{Answer}
use Rattle.io_edge.specs.Course.{Course, ends, silent}
use Rattle.command_parts.specs.LoopReading.{with_loop}
use Rattle.command_parts.specs.Equations.{equation_in, polynomial_of, FormsFreely}
use Rattle.analysis_commands.specs.MemberArguments.{Request}
use Rattle.analysis_commands.specs.Questions.{Asks, HasAsked}
use Rattle.command_parts.specs.EquationReading.{equation_refusal, IsUnformed}

module _ (l : Program (Expr ℕ)) (e : Expr ℕ) where
  abbrev pub HasAskedFor : ℕ → Journal → Type 0
  HasAskedFor budget m = FormsFreely l e × HasAsked l (polynomial_of l e) budget m

  abbrev pub AnswersEquation : ℕ → Journal → Journal → Answer → Type 0
  AnswersEquation budget before m a =
      (IsUnformed l e a × (m ≡ before))
      ⊎ (FormsFreely l e × Asks l (polynomial_of l e) budget m a)

abbrev pub by_equation : Result (Expr ℕ) Fault → (Expr ℕ → Course) → Course
by_equation (Ok e) next = next e
by_equation (Err fault) next = silent (λ a. a ≡ equation_refusal fault)

abbrev pub with_question : Journal → ℕ → List ℕ → Program (Expr ℕ) → Course
with_question before budget equation l = by_equation (equation_in l.names equation)
    (λ e. ends (HasAskedFor l e budget) (AnswersEquation l e budget before))

abbrev pub course : Journal → Request → Course
course before request =
    with_loop request.file (with_question before request.budget request.equation)
