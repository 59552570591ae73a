-- Words, states and refusals of the program as the definitions see them.
--   words_of words            the letters of each word
--   states_of ss              the numbers of each state
--   CountsTo n e              the letter and the step that it names are at most n
use Rattle.std.specs.Prelude.{ℕ, ◌≤◌, ⊤, List, map}
use Rattle.std.specs.Global.{Vec}
use Rattle.algebra.specs.Fraction.{Fraction}
use Rattle.frac128.specs.declared.fraction.Frac.{Frac}
use Rattle.loop_runs.specs.Seen.{numbers_of}
use Rattle.loop_runs.specs.declared.error.RunError.{RunError}
use Rattle.loop_runs.specs.declared.error.RunError.TheVariants.{Count, Start, NoBranch, Wide, Memory}

abbrev pub words_of : List (Vec ℕ) → List (List ℕ)
words_of words = map (λ (w : Vec ℕ). w.items) words

abbrev pub states_of : List (Vec Frac) → List (List Fraction)
states_of ss = map (λ (s : Vec Frac). numbers_of s.items) ss

abbrev pub CountsTo : ℕ → RunError → Type 0
CountsTo n (Count values variables) = ⊤
CountsTo n (Start var) = ⊤
CountsTo n (NoBranch index) = index ≤ n
CountsTo n (Wide step var) = step ≤ n
CountsTo n Memory = ⊤
