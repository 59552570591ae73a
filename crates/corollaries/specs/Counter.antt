-- Counter-runs of a polynomial: runs at whose end it isn't zero.
--   Counters program p w        a run with the word w ends at a state where p isn't zero
--   IsFirstWord program p w     w counters p, and no earlier word does
--   NoneCounters program p n    no word of at most n letters counters p
--   start_of program xs         the start with the numbers xs, one for each variable, at the free
--                               variables
--   EndsOff program p w xs      the run with the word w from this start ends where p isn't zero
--   IsFirstStart program p w xs so it ends, and from no lesser list of numbers does it
use Rattle.std.specs.Prelude.{◌≡◌, ◌≢◌, ℕ, ◌≤◌, List, length, IsSomeAnd}
use Rattle.algebra.specs.Fraction.{Fraction, ℚ}
use Rattle.polynomials.specs.Terms.{Terms, value_at}
use Rattle.loops.specs.Program.{Expr, Program}
use Rattle.loops.specs.Effect.{start_from}
use Rattle.loops.specs.Run.{Run, run_end}
use Rattle.corollaries.specs.Word.{IsLess, IsEarlier}
use Rattle.corollaries.specs.Point.{wholes}

module _ {At : Type 0} (program : Program (Expr At)) (p : Terms Fraction) where
  pub record Counters (w : List ℕ) : Type 0 where
    pub run : Run program
    pub is_word : run.word ≡ w
    pub not_zero : value_at ℚ p run.end ≢ ℚ.zero

  pub record IsFirstWord (w : List ℕ) : Type 0 where
    pub counters : Counters w
    pub first : (v : List ℕ) → IsEarlier v w → ¬ (Counters v)

  abbrev pub NoneCounters : ℕ → Type 0
  NoneCounters n = (w : List ℕ) → length w ≤ n → ¬ (Counters w)

abbrev pub start_of : {At : Type 0} → Program (Expr At) → List ℕ → List Fraction
start_of program xs = start_from ℚ (λ c. c) program (wholes xs)

module _ {At : Type 0} (program : Program (Expr At)) (p : Terms Fraction) (w : List ℕ) where
  abbrev pub EndsOff : List ℕ → Type 0
  EndsOff xs =
      IsSomeAnd (run_end program w (start_of program xs)) (λ end. value_at ℚ p end ≢ ℚ.zero)

  pub record IsFirstStart (xs : List ℕ) : Type 0 where
    pub count : length xs ≡ length program.names
    pub off : EndsOff xs
    pub first : (ys : List ℕ) → length ys ≡ length program.names → IsLess ys xs → ¬ (EndsOff ys)
