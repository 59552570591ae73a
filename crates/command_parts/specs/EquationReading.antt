-- What the argument EQUATION says.
--   equation_refusal fault     what is answered to the first fault of the equation
--   stop_answer x              to an operation of its polynomial that can't be done; want of memory
--                              has none
--   unread_answer x            to an equation that has no polynomial; want of memory has none
--   IsUnformed l e a           a tells the first operation by which the equation e can't be formed
--   IsPolynomialOf l text p    the text is an equation, no operation that forms its polynomial
--     passes
--                              a limit, and it is p, in the variables of l
--   IsUnread l reading a       a tells why there is none, by what the text says
use Rattle.std.specs.Prelude.{◌≡◌, ℕ, List, length, Option, Some, None, Result, Ok, Err, option_map, codes}
use Rattle.loops.specs.Program.{Expr, Program}
use Rattle.poly.specs.Seen.{terms_in}
use Rattle.loop_model.specs.FracPoly.{FracPoly}
use Rattle.loop_model.specs.Stops.{Stops}
use Rattle.loop_model.specs.declared.map_error.MapError.{MapError}
use Rattle.poly_text.specs.Faults.{fault_of}
use Rattle.poly_text.specs.Reasons.{Fault}
use Rattle.poly_text.specs.declared.equation.PolyTextError.{PolyTextError}
use Rattle.poly_text.specs.declared.equation.PolyTextError.TheVariants as unread
use Rattle.io_edge.specs.Texts.{Answer}
use Rattle.command_parts.specs.FaultTexts.{text_refusal, map_refusal}
use Rattle.command_parts.specs.Equations.{equation_in, operations_of, polynomial_of, FormsFreely}

abbrev pub equation_refusal : Fault → Answer
equation_refusal f = text_refusal (codes "equation: ") f

abbrev pub stop_answer : MapError → Option Answer
stop_answer e = map_refusal (codes "equation: ") e

abbrev pub unread_answer : PolyTextError → Option Answer
unread_answer (unread.Text fault) = option_map equation_refusal (fault_of fault)
unread_answer (unread.Map stop) = stop_answer stop
unread_answer unread.Memory = None

pub record IsUnformed (l : Program (Expr ℕ)) (e : Expr ℕ) (a : Answer) : Type 0 where
  pub stop : MapError
  pub is : Stops (length l.names) (operations_of l e) stop
  pub says : stop_answer stop ≡ Some a

pub record IsPolynomialOf (l : Program (Expr ℕ)) (text : List ℕ) (p : FracPoly) : Type 0 where
  pub equation : Expr ℕ
  pub is_equation : equation_in l.names text ≡ Ok equation
  pub free : FormsFreely l equation
  pub terms : terms_in p ≡ polynomial_of l equation
  pub arity : p.arity ≡ length l.names

abbrev pub IsUnread : Program (Expr ℕ) → Result (Expr ℕ) Fault → Answer → Type 0
IsUnread l (Err fault) a = a ≡ equation_refusal fault
IsUnread l (Ok e) a = IsUnformed l e a
