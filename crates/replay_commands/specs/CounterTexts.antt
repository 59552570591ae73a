-- What `counter` answers.
--   word_text w                  `word`, and for each letter a space and its number
--   run_text names w states x    this, the states as `run` tells them, and the value x, one a line
--   run_answer names w states x  to a run that was found: no
--   none_answer n                where no word of at most n letters has one: yes
--   limit_answer w, wide_answer w     to a word whose image passes a limit, or of which a number
--                                may not fit
--   cost_answer w                to a word up to which words cost too much together
--   map_answer e                 to a map of the loop that can't be formed; want of memory has none
use Rattle.std.specs.Prelude.{ℕ, List, ◌++◌, Option, codes, decimal}
use Rattle.std.specs.List.{flat_map}
use Rattle.algebra.specs.Fraction.{Fraction}
use Rattle.loop_model.specs.declared.map_error.MapError.{MapError}
use Rattle.io_edge.specs.declared.answer.Status.TheVariants as status
use Rattle.io_edge.specs.Texts.{Answer, line, with_text, answer}
use Rattle.command_parts.specs.FaultTexts.{map_refusal}
use Rattle.poly_text.specs.Text.{number_text}
use Rattle.command_parts.specs.StateTexts.{states_text}

abbrev pub letters_text : List ℕ → List ℕ
letters_text w = flat_map (λ b. codes " " ++ decimal b) w

abbrev pub word_text : List ℕ → List ℕ
word_text w = codes "word" ++ letters_text w

abbrev pub run_text : List (List ℕ) → List ℕ → List (List Fraction) → Fraction → List ℕ
run_text names w states x =
    line (word_text w) ++ (states_text names states ++ line (codes "value " ++ number_text x))

abbrev pub run_answer : List (List ℕ) → List ℕ → List (List Fraction) → Fraction → Answer
run_answer names w states x = with_text status.No (run_text names w states x)

abbrev pub none_answer : ℕ → Answer
none_answer n = answer status.Yes (codes "none up to " ++ decimal n)

abbrev pub limit_answer : List ℕ → Answer
limit_answer w = answer status.Fault (codes "limit: " ++ word_text w)

abbrev pub cost_answer : List ℕ → Answer
cost_answer w = answer status.Fault (codes "limit: words up to" ++ letters_text w)

abbrev pub wide_answer : List ℕ → Answer
wide_answer w = answer status.Wide (codes "wide: " ++ word_text w)

abbrev pub map_answer : MapError → Option Answer
map_answer e = map_refusal (codes "loop: ") e
