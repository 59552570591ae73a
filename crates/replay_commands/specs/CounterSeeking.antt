-- What `counter` answers to a loop l and an equation, whose polynomial is p, for words of at most n
-- letters.
--   TellsRun l p n a        a tells the first counter-run of p
--   TellsNone l p n a       a tells that no word counters p
--   TellsMap l p n a        a tells the first operation of the loop's maps that can't be done
--   TellsLimit l p n a      a tells the word whose image passes a limit, and which is reached
--   TellsCost l p n a       a tells the word up to which words cost too much, and which is reached
--   TellsWide l p n a       a tells the word of which a number may not fit, and which is reached
--   TellsStop l p n a       one of these four, by which the search stops
--   Seeks l p n a           one of all
--   Answers l reading n a   a answers by what the equation is: its first fault, the first operation
--     of
--                           its polynomial that can't be done, or one of these
use Rattle.std.specs.Prelude.{◌≡◌, ◌⊎◌, ℕ, List, Some, Result, Ok, Err}
use Rattle.algebra.specs.Fraction.{Fraction}
use Rattle.polynomials.specs.Terms.{Terms}
use Rattle.loops.specs.Program.{Expr, Program}
use Rattle.loop_model.specs.Maps.{AreFree}
use Rattle.poly_text.specs.Reasons.{Fault}
use Rattle.loop_model.specs.declared.map_error.MapError.{MapError}
use Rattle.counter_run.specs.Causes.{IsLimitWord, IsCostlyWord}
use Rattle.counter_run.specs.Answers.{IsRun, IsNone, IsWideCause, IfUnformed, StopsAtWord}
use Rattle.io_edge.specs.Texts.{Answer}
use Rattle.command_parts.specs.Equations.{polynomial_of, FormsFreely}
use Rattle.command_parts.specs.EquationReading.{equation_refusal, IsUnformed}
use Rattle.replay_commands.specs.CounterTexts.{run_answer, none_answer, limit_answer, cost_answer, wide_answer, map_answer}

module _ (l : Program (Expr ℕ)) (p : Terms Fraction) (n : ℕ) where
  pub record TellsRun (a : Answer) : Type 0 where
    pub maps : AreFree l
    pub word : List ℕ
    pub states : List (List Fraction)
    pub value : Fraction
    pub is : IsRun l p n word states value
    pub says : a ≡ run_answer l.names word states value

  pub record TellsNone (a : Answer) : Type 0 where
    pub maps : AreFree l
    pub is : IsNone l p n
    pub says : a ≡ none_answer n

  pub record TellsMap (a : Answer) : Type 0 where
    pub stop : MapError
    pub is : IfUnformed l p n stop
    pub says : map_answer stop ≡ Some a

  pub record TellsLimit (a : Answer) : Type 0 where
    pub word : List ℕ
    pub is : StopsAtWord l p n word (IsLimitWord l p word)
    pub says : a ≡ limit_answer word

  pub record TellsCost (a : Answer) : Type 0 where
    pub word : List ℕ
    pub is : StopsAtWord l p n word (IsCostlyWord l p n word)
    pub says : a ≡ cost_answer word

  pub record TellsWide (a : Answer) : Type 0 where
    pub word : List ℕ
    pub is : StopsAtWord l p n word (IsWideCause l p n word)
    pub says : a ≡ wide_answer word

  abbrev pub TellsStop : Answer → Type 0
  TellsStop a = TellsMap a ⊎ (TellsLimit a ⊎ (TellsCost a ⊎ TellsWide a))

  abbrev pub Seeks : Answer → Type 0
  Seeks a = TellsRun a ⊎ (TellsNone a ⊎ TellsStop a)

abbrev pub Answers : Program (Expr ℕ) → Result (Expr ℕ) Fault → ℕ → Answer → Type 0
Answers l (Err fault) n a = a ≡ equation_refusal fault
Answers l (Ok e) n a = IsUnformed l e a ⊎ (FormsFreely l e × Seeks l (polynomial_of l e) n a)
