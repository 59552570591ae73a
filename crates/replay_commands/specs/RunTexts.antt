-- What `run` answers.
--   run_answer names locals r     the answer to a run: the states, or why it was refused
use Rattle.std.specs.Prelude.{ℕ, ◌+◌, List, [], ◌++◌, get_or, Result, Ok, Err, codes, decimal}
use Rattle.algebra.specs.Fraction.{Fraction}
use Rattle.loop_runs.specs.Replay as replay
use Rattle.loop_runs.specs.Replay.{RunFault}
use Rattle.io_edge.specs.declared.answer.Status.TheVariants as status
use Rattle.io_edge.specs.Texts.{Answer, with_text, answer}
use Rattle.command_parts.specs.StateTexts.{states_text}

abbrev pub run_answer : List (List ℕ) → List (List ℕ)
    → Result (List (List Fraction)) RunFault → Answer
run_answer names locals (Ok states) = with_text status.Yes (states_text names states)
run_answer names locals (Err (replay.count values variables)) =
    answer status.Fault
    (codes "values: " ++ decimal values ++ codes " given, " ++ decimal variables ++ codes " wanted")
run_answer names locals (Err (replay.start var)) =
    answer status.Fault (codes "start: " ++ get_or (names ++ locals) var [])
run_answer names locals (Err (replay.no_branch index)) =
    answer status.Fault (codes "no branch: letter " ++ decimal (index + 1))
run_answer names locals (Err (replay.wide step var)) =
    answer status.Wide
    (codes "wide: step " ++ decimal step ++ codes ", variable " ++ get_or (names ++ locals) var [])
