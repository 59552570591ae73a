-- What `decide` and `prove` answer.
--   closure_answer names gs       yes, and the reduced basis of the closure, as `basis` tells one
--   no_answer names w states x    no, and the run with the word w: its states, and the value x at its end
use Rattle.std.specs.Prelude.{ℕ, List, ◌++◌, codes}
use Rattle.algebra.specs.Fraction.{Fraction}
use Rattle.polynomials.specs.Terms.{Terms}
use Rattle.io_edge.specs.declared.answer.Status.TheVariants as status
use Rattle.io_edge.specs.Texts.{Answer, line, with_text}
use Rattle.command_parts.specs.BasisTexts.{basis_text}
use Rattle.replay_commands.specs.CounterTexts.{run_text}

abbrev pub closure_answer : List (List ℕ) → List (Terms Fraction) → Answer
closure_answer names gs = with_text status.Yes (line (codes "yes") ++ basis_text names gs)

abbrev pub no_answer : List (List ℕ) → List ℕ → List (List Fraction) → Fraction → Answer
no_answer names w states x = with_text status.No (line (codes "no") ++ run_text names w states x)
