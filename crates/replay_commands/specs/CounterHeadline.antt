-- What a user takes away of `counter`, over the bytes of the file and the equation.
--   IsQuestion text equation l e      the bytes are the loop l and the equation e
--   ShowsCounterRun text equation n said   they are; a word of at most n letters, the states of a run with it and the equation's value at the end of this run are said; the value isn't 0, the equation holds after each earlier word, and the run's start is the word's first
--   ShowsNoneUpTo text equation n said     they are, the equation holds after each word of at most n letters, and this is said
use Rattle.std.specs.Prelude.{◌≡◌, ◌≢◌, ℕ, ◌≤◌, List, length, Ok}
use Rattle.algebra.specs.Fraction.{ℚ}
use Rattle.loops.specs.Program.{Expr, Program}
use Rattle.loops.specs.Run as runs
use Rattle.loops.specs.Run.{Run, states}
use Rattle.loop_text.specs.LoopReader.{loop_of}
use Rattle.corollaries.specs.Word.{IsEarlier}
use Rattle.corollaries.specs.Counter.{start_of, IsFirstStart}
use Rattle.command_parts.specs.Equations.{equation_in, polynomial_of, HoldsAfter}
use Rattle.replay_commands.specs.CounterTexts.{run_text, none_answer}

pub record IsQuestion (text equation : List ℕ) (l : Program (Expr ℕ)) (e : Expr ℕ) : Type 0 where
  pub is_loop : loop_of text ≡ Ok l
  pub is_equation : equation_in l.names equation ≡ Ok e

pub record ShowsCounterRun (text equation : List ℕ) (n : ℕ) (said : List ℕ) : Type 0 where
  pub loop : Program (Expr ℕ)
  pub difference : Expr ℕ
  pub question : IsQuestion text equation loop difference
  pub run : Run loop
  pub fails : runs.value difference run.end ≢ ℚ.zero
  pub short : length run.word ≤ n
  pub first : (v : List ℕ) → IsEarlier v run.word → HoldsAfter loop difference v
  pub numbers : List ℕ
  pub is_start : run.start ≡ start_of loop numbers
  pub first_start : IsFirstStart loop (polynomial_of loop difference) run.word numbers
  pub says : said ≡ run_text loop.names run.word (states loop run.word run.start)
      (runs.value difference run.end)

pub record ShowsNoneUpTo (text equation : List ℕ) (n : ℕ) (said : List ℕ) : Type 0 where
  pub loop : Program (Expr ℕ)
  pub difference : Expr ℕ
  pub question : IsQuestion text equation loop difference
  pub holds : (w : List ℕ) → length w ≤ n → HoldsAfter loop difference w
  pub says : said ≡ (none_answer n).text
