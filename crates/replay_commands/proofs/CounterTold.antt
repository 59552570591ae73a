-- What the search gives is told.
--   told_found       what it has found
--   told_error       why it was stopped
--   answers_equation, answers_unread      the answer by what the equation is
use Rattle.std.proofs.Common.{◌≡◌, ℕ, List, sym, ap, subst, ◌∙◌, inl, inr, Ok, Err, Result}
use Rattle.std.specs.Prelude.{Some, IfOk}
use Rattle.std.specs.declared.alloc.AllocError.{AllocError}
use Rattle.std.proofs.lemmas.Result.{IfOk-weaker}
use Rattle.algebra.specs.Fraction.{Fraction}
use Rattle.polynomials.specs.Terms.{Terms}
use Rattle.loops.specs.Program.{Expr, Program}
use Rattle.loop_model.specs.Maps.{AreFree}
use Rattle.frac128.specs.FracMeaning.{fraction_of}
use Rattle.poly.specs.Seen.{terms_in}
use Rattle.poly_text.specs.Reasons.{Fault}
use Rattle.loop_model.specs.FracPoly.{FracPoly}
use Rattle.counter_run.specs.Answers.{states_of, IsFound, IfCounterRefused}
use Rattle.counter_run.specs.declared.Found.{Found}
use Rattle.counter_run.specs.declared.Found.TheVariants as found
use Rattle.counter_run.specs.declared.error.CounterError.{CounterError}
use Rattle.counter_run.specs.declared.error.CounterError.TheVariants as error
use Rattle.io_edge.specs.declared.answer.Answer as made
use Rattle.io_edge.specs.Texts.{Answer}
use Rattle.io_edge.specs.Views.{answer_view}
use Rattle.io_edge.proofs.OfStatuses.{no_answer, some_answer}
use Rattle.command_parts.specs.Equations.{equation_in}
use Rattle.command_parts.specs.EquationReading.{IsPolynomialOf, IsUnread}
use Rattle.replay_commands.specs.CounterSeeking.{Seeks, Answers}
use Rattle.replay_commands.specs.CounterTexts.{limit_answer, cost_answer, wide_answer}
use Rattle.replay_commands.specs.CounterViews.{tells_found, tells_error}

module _ (l : Program (Expr ℕ)) (p : Terms Fraction) (n : ℕ) where
  found_seeks : AreFree l → (f : Found) → IsFound l p n f → (a : Answer)
      → a ≡ tells_found l.names n f → Seeks l p n a
  found_seeks free (found.Run word ss x) is a says = inl (record {
    maps = free;
    word = word.items;
    states = states_of ss.items;
    value = fraction_of x;
    is = is;
    says = says;
  })
  found_seeks free found.NoneUpTo is a says =
      inr (inl (record { maps = free; is = is; says = says }))

  pub told_found : (names : List (List ℕ)) → names ≡ l.names → AreFree l → (f : Found)
      → IsFound l p n f → (r : Result made.Answer AllocError)
      → IfOk r (λ a. answer_view a ≡ tells_found names n f)
      → IfOk r (λ a. Seeks l p n (answer_view a))
  told_found names same free f is r told =
      IfOk-weaker r _ _
      (λ a says. found_seeks free f is (answer_view a)
      (says ∙ ap (λ ns. tells_found ns n f) same)) told

  error_seeks : (e : CounterError) → IfCounterRefused l p n e → (a : Answer)
      → tells_error e ≡ Some a
      → Seeks l p n a
  error_seeks (error.Map stop) is a says =
      inr (inr (inl (record { stop = stop; is = is; says = says })))
  error_seeks (error.Limit word) is a says = inr (inr (inr (inl (record {
    word = word.items;
    is = is;
    says = some_answer (limit_answer word.items) a says;
  }))))
  error_seeks (error.Cost word) is a says = inr (inr (inr (inr (inl (record {
    word = word.items;
    is = is;
    says = some_answer (cost_answer word.items) a says;
  })))))
  error_seeks (error.Wide word) is a says = inr (inr (inr (inr (inr (record {
    word = word.items;
    is = is;
    says = some_answer (wide_answer word.items) a says;
  })))))
  error_seeks error.Memory is a says = absurd (no_answer a says)

  pub told_error : (e : CounterError) → IfCounterRefused l p n e
      → (r : Result made.Answer AllocError)
      → IfOk r (λ a. tells_error e ≡ Some (answer_view a))
      → IfOk r (λ a. Seeks l p n (answer_view a))
  told_error e is r told = IfOk-weaker r _ _ (λ a says. error_seeks e is (answer_view a) says) told

module _ (l : Program (Expr ℕ)) (text : List ℕ) (n : ℕ) (r : Result made.Answer AllocError) where
  pub answers_equation : (p : FracPoly) → IsPolynomialOf l text p
      → IfOk r (λ a. Seeks l (terms_in p) n (answer_view a))
      → IfOk r (λ a. Answers l (equation_in l.names text) n (answer_view a))
  answers_equation p h told =
      IfOk-weaker r _ _
      (λ a seeks. subst (λ said. Answers l said n (answer_view a)) (sym h.is_equation)
      (inr (h.free, subst (λ q. Seeks l q n (answer_view a)) h.terms seeks))) told

  pub answers_unread : IfOk r (λ a. IsUnread l (equation_in l.names text) (answer_view a))
      → IfOk r (λ a. Answers l (equation_in l.names text) n (answer_view a))
  answers_unread told =
      IfOk-weaker r _ _ (λ a h. go (equation_in l.names text) (answer_view a) h) told
    where
      go : (said : Result (Expr ℕ) Fault) (a : Answer) → IsUnread l said a → Answers l said n a
      go (Ok e) a h = inl h
      go (Err fault) a h = h
