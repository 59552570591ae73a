-- What an answer of `counter` shows.
--   holds_after                 after a word that doesn't counter its polynomial the equation holds
--   holds_of_words              it holds where it does after each word
--   same_question               one loop and one equation are asked about
--   run_refutes                 a counter-run that is shown refutes it
--   map_refuses, stop_refuses, answers_plain     statuses of answers
--   run_shown                   what the run with the first word shows
--   run_when_no, none_when_yes, stop_when_refusing      what each status shows
use Rattle.std.proofs.Common.{◌≡◌, ◌≢◌, ℕ, ◌≤◌, Bool, true, false, List, length, refl, sym, ap₂, subst, ◌∙◌, inl, inr, arith, Result, Ok, Err, Some}
use Rattle.algebra.specs.Fraction.{Fraction, ℚ}
use Rattle.polynomials.specs.Terms.{Terms}
use Rattle.loops.specs.Program.{Expr, Program}
use Rattle.loops.specs.Run as runs
use Rattle.loops.specs.Run.{Run}
use Rattle.poly_text.specs.Reasons.{Fault, limit, wide}
use Rattle.loop_model.specs.declared.map_error.MapError.{MapError}
use Rattle.loop_model.specs.declared.map_error.MapError.TheVariants as map_error
use Rattle.loop_text.proofs.WellFormed.{loop_well}
use Rattle.loop_runs.specs.Replay.{same_number}
use Rattle.loop_runs.proofs.Iterations.{same_number_decides}
use Rattle.corollaries.specs.Counter.{Counters, IsFirstWord, start_of}
use Rattle.corollaries.specs.Point.{wholes}
use Rattle.corollaries.proofs.Points.{length-wholes}
use Rattle.counter_run.specs.Answers.{IsRunFrom}
use Rattle.counter_run.proofs.Running.{start_is}
use Rattle.io_edge.specs.declared.answer.Status.TheVariants as status
use Rattle.io_edge.specs.Texts.{Answer}
use Rattle.io_edge.specs.Settled.{IsPlain, IsRefusing}
use Rattle.io_edge.proofs.OfStatuses.{status_of, text_of, no_answer, some_answer, plain_yes, plain_no, refusing_fault, refusing_wide}
use Rattle.command_parts.proofs.LoopCourses.{loop_refuses}
use Rattle.command_parts.specs.Equations.{equation_in, polynomial_of, Holds, HoldsAfter}
use Rattle.command_parts.proofs.Polynomials.{end_value}
use Rattle.command_parts.proofs.Refusals.{equation_refuses, unformed_refuses}
use Rattle.replay_commands.specs.CounterSeeking.{TellsNone, TellsStop, Seeks, Answers}
use Rattle.replay_commands.specs.CounterTexts.{run_text, map_answer}
use Rattle.replay_commands.specs.CounterHeadline.{IsQuestion, ShowsCounterRun, ShowsNoneUpTo}

-- ---- where the equation holds
module _ (l : Program (Expr ℕ)) (e : Expr ℕ) where
  zero_stable : (x : Fraction) → (x ≢ ℚ.zero → ⊥) → x ≡ ℚ.zero
  zero_stable x h =
      go (same_number x ℚ.zero) (same_number_decides x ℚ.zero).0 (same_number_decides x ℚ.zero).1
    where
      go : (b : Bool) → (b ≡ true → x ≡ ℚ.zero) → (x ≡ ℚ.zero → b ≡ true) → x ≡ ℚ.zero
      go true f g = f refl
      go false f g = absurd (h (λ z. let no : false ≡ true = g z in let y : ⊥ = cc in y))

  pub holds_after : (v : List ℕ) → (Counters l (polynomial_of l e) v → ⊥) → HoldsAfter l e v
  holds_after v h r is =
      zero_stable (runs.value e r.end)
      (λ off. h (record { run = r; is_word = is; not_zero = λ z. off (sym (end_value l e r) ∙ z) }))

  pub holds_of_words : ((n : ℕ) (w : List ℕ) → length w ≤ n → HoldsAfter l e w) → Holds l e
  holds_of_words h r = h (length r.word) r.word (omega arith) r refl

pub same_question : (text equation : List ℕ) (l k : Program (Expr ℕ)) (e d : Expr ℕ)
    → IsQuestion text equation l e → IsQuestion text equation k d → Holds l e → Holds k d
same_question text equation l k e d q r holds =
    let same : l ≡ k = (let x : Ok l ≡ Ok k = sym q.is_loop ∙ r.is_loop in cc) in
    let read : equation_in k.names equation ≡ Ok e =
    subst (λ j. equation_in j.names equation ≡ Ok e) same q.is_equation in
    let equal : e ≡ d = (let x : Ok e ≡ Ok d = sym read ∙ r.is_equation in cc) in
    subst (λ j. Holds j d) same (subst (Holds l) equal holds)

pub run_refutes : (text equation said : List ℕ) (n : ℕ) (l : Program (Expr ℕ)) (e : Expr ℕ)
    → ShowsCounterRun text equation n said → IsQuestion text equation l e → Holds l e → ⊥
run_refutes text equation said n l e shows is holds =
    shows.fails
    (same_question text equation l shows.loop e shows.difference is shows.question holds shows.run)

-- ---- statuses
pub map_refuses : (x : MapError) (a : Answer) → map_answer x ≡ Some a → IsRefusing a.status
map_refuses (map_error.Limit at) a says =
    loop_refuses (record { reason = limit; at = at }) a (some_answer _ a says)
map_refuses (map_error.Wide at) a says =
    loop_refuses (record { reason = wide; at = at }) a (some_answer _ a says)
map_refuses map_error.Memory a says = absurd (no_answer a says)

module _ (l : Program (Expr ℕ)) (p : Terms Fraction) (n : ℕ) (a : Answer) where
  pub stop_refuses : TellsStop l p n a → IsRefusing a.status
  stop_refuses (inl t) = map_refuses t.stop a t.says
  stop_refuses (inr (inl t)) = refusing_fault a.status (status_of t.says)
  stop_refuses (inr (inr (inl t))) = refusing_fault a.status (status_of t.says)
  stop_refuses (inr (inr (inr t))) = refusing_wide a.status (status_of t.says)

  seeks_plain : Seeks l p n a → IsPlain a.status
  seeks_plain (inl t) = plain_no a.status (status_of t.says)
  seeks_plain (inr (inl t)) = plain_yes a.status (status_of t.says)
  seeks_plain (inr (inr t)) = (stop_refuses t).plain

pub answers_plain : (l : Program (Expr ℕ)) (reading : Result (Expr ℕ) Fault) (n : ℕ) (a : Answer)
    → Answers l reading n a → IsPlain a.status
answers_plain l (Err fault) n a h = (equation_refuses fault a h).plain
answers_plain l (Ok e) n a (inl u) = (unformed_refuses l e a u).plain
answers_plain l (Ok e) n a (inr h) = seeks_plain l (polynomial_of l e) n a h.1

-- ---- what is shown
-- the run with the first word, from its first start
pub run_shown : (text equation : List ℕ) (l : Program (Expr ℕ)) (e : Expr ℕ)
    → IsQuestion text equation l e → (n : ℕ) (word : List ℕ) (reached : List (List Fraction))
    (x : Fraction) → IsFirstWord l (polynomial_of l e) word → length word ≤ n
    → IsRunFrom l (polynomial_of l e) word reached x
    → ShowsCounterRun text equation n (run_text l.names word reached x)
run_shown text equation l e is n word reached x first short from =
    let r : Run l = record {
      start = start_of l from.numbers;
      word = word;
      end = from.end;
      is_start =
          start_is l (loop_well text l is.is_loop).formed (wholes from.numbers)
          (length-wholes from.numbers ∙ from.start.count);
      is_end = from.is_end;
    } in
    let v : x ≡ runs.value e from.end = from.is_value ∙ end_value l e r in
    record {
      loop = l;
      difference = e;
      question = is;
      run = r;
      fails = λ z. from.not_zero (v ∙ z);
      short = short;
      first = λ w earlier. holds_after l e w (first.first w earlier);
      numbers = from.numbers;
      is_start = refl;
      first_start = from.start;
      says = ap₂ (λ ss y. run_text l.names word ss y) from.are_states v;
    }

module _ (text equation : List ℕ) (l : Program (Expr ℕ)) (e : Expr ℕ)
    (is : IsQuestion text equation l e) (n : ℕ) (a : Answer) where
  abbrev p : Terms Fraction
  p = polynomial_of l e

  none_shown : TellsNone l p n a → ShowsNoneUpTo text equation n a.text
  none_shown t = record {
    loop = l;
    difference = e;
    question = is;
    holds = λ w short. holds_after l e w (t.is.none w short);
    says = text_of t.says;
  }

  pub run_when_no : a.status ≡ status.No → Seeks l p n a → ShowsCounterRun text equation n a.text
  run_when_no h (inl t) =
      subst (ShowsCounterRun text equation n) (sym (text_of t.says))
      (run_shown text equation l e is n t.word t.states t.value t.is.first t.is.short t.is.run)
  run_when_no h (inr (inl t)) =
      absurd (let x : status.No ≡ status.Yes = sym h ∙ status_of t.says in let y : ⊥ = cc in y)
  run_when_no h (inr (inr t)) = absurd ((stop_refuses l p n a t).no_not h)

  pub none_when_yes : a.status ≡ status.Yes → Seeks l p n a → ShowsNoneUpTo text equation n a.text
  none_when_yes h (inl t) =
      absurd (let x : status.Yes ≡ status.No = sym h ∙ status_of t.says in let y : ⊥ = cc in y)
  none_when_yes h (inr (inl t)) = none_shown t
  none_when_yes h (inr (inr t)) = absurd ((stop_refuses l p n a t).yes_not h)

  pub stop_when_refusing : a.status ≢ status.No → a.status ≢ status.Yes → Seeks l p n a
      → TellsStop l p n a
  stop_when_refusing not_no not_yes (inl t) = absurd (not_no (status_of t.says))
  stop_when_refusing not_no not_yes (inr (inl t)) = absurd (not_yes (status_of t.says))
  stop_when_refusing not_no not_yes (inr (inr t)) = t
