-- What was read of EQUATION.
--   polynomial_read      the polynomial of the equation
--   refusal_read         why there is none
use Rattle.std.proofs.Common.{◌≡◌, ℕ, List, length, refl, sym, ap, ap₂, subst, Ok, Err, Result}
use Rattle.std.specs.Prelude.{Option, Some, None, IsSomeAnd, IsOkAnd, option_map}
use Rattle.loops.specs.Program.{Expr, Program}
use Rattle.poly_text.specs.Faults.{fault_of}
use Rattle.poly_text.specs.Lexemes.{tokens}
use Rattle.poly_text.specs.Reasons.{Fault}
use Rattle.loop_model.specs.FracPoly.{FracPoly}
use Rattle.loop_model.specs.Stops.{Stops}
use Rattle.loop_model.specs.declared.map_error.MapError.{MapError}
use Rattle.poly_text.specs.Equations.{equation_of, Answers}
use Rattle.poly_text.specs.declared.equation.PolyTextError.{PolyTextError}
use Rattle.poly_text.specs.declared.equation.PolyTextError.TheVariants as unread
use Rattle.io_edge.specs.Texts.{Answer}
use Rattle.io_edge.proofs.OfStatuses.{no_answer, some_answer}
use Rattle.command_parts.specs.Equations.{equation_in, operations_of}
use Rattle.command_parts.specs.EquationReading.{equation_refusal, stop_answer, unread_answer, IsPolynomialOf, IsUnread}
use Rattle.command_parts.proofs.Polynomials.{equation_polynomial}

module _ (l : Program (Expr ℕ)) (text read : List ℕ) (names : List (List ℕ)) (is_text : read ≡ text)
    (is_names : names ≡ l.names) where
  reading_same : equation_of names (tokens read) ≡ equation_in l.names text
  reading_same = ap₂ (λ ns bytes. equation_of ns (tokens bytes)) is_names is_text

  answers_here : (r : Result FracPoly PolyTextError)
      → Answers (length names) (equation_of names (tokens read)) r
      → Answers (length l.names) (equation_in l.names text) r
  answers_here r h =
      subst (λ said. Answers (length l.names) said r) reading_same
      (subst (λ n. Answers n (equation_of names (tokens read)) r) (ap length is_names) h)

  pub polynomial_read : (p : FracPoly)
      → Answers (length names) (equation_of names (tokens read)) (Ok p) → IsPolynomialOf l text p
  polynomial_read p h = go (equation_in l.names text) refl (answers_here (Ok p) h)
    where
      go : (said : Result (Expr ℕ) Fault) → equation_in l.names text ≡ said
          → Answers (length l.names) said (Ok p) → IsPolynomialOf l text p
      go (Err fault) is k = absurd k
      go (Ok e) is k = record {
        equation = e;
        is_equation = is;
        free = k.1;
        terms = equation_polynomial l e p k.0;
        arity = k.0.arity;
      }

  pub refusal_read : (why : PolyTextError)
      → Answers (length names) (equation_of names (tokens read)) (Err why) → (a : Answer)
      → unread_answer why ≡ Some a → IsUnread l (equation_in l.names text) a
  refusal_read why h a says = go why (answers_here (Err why) h) says
    where
      of_fault : (o : Option Fault) → IsSomeAnd o (λ f. equation_in l.names text ≡ Err f)
          → option_map equation_refusal o ≡ Some a → IsUnread l (equation_in l.names text) a
      of_fault None is says = absurd is
      of_fault (Some fault) is says =
          subst (λ said. IsUnread l said a) (sym is)
          (some_answer (equation_refusal fault) a says)

      of_stop : (x : MapError) (said : Result (Expr ℕ) Fault)
          → IsOkAnd said (λ e. Stops (length l.names) (operations_of l e) x)
          → stop_answer x ≡ Some a → IsUnread l said a
      of_stop x (Ok e) is says = record { stop = x; is = is; says = says }
      of_stop x (Err fault) is says = absurd is

      go : (y : PolyTextError) → Answers (length l.names) (equation_in l.names text) (Err y)
          → unread_answer y ≡ Some a → IsUnread l (equation_in l.names text) a
      go (unread.Text fault) k says = of_fault (fault_of fault) k says
      go (unread.Map stop) k says = of_stop stop (equation_in l.names text) k.0 says
      go unread.Memory k says = absurd (no_answer a says)
