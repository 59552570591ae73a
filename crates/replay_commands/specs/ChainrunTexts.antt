-- What `chainrun` answers.
--   IsOfWords c words             there is a word for each loop of c
--   count_answer given wanted     where there isn't
--   chain_run_answer c request    to a run of c: the states, or why it was refused
use Rattle.std.specs.Prelude.{◌≡◌, ℕ, List, ◌++◌, length, ◌==◌, codes, decimal, if◌then◌else◌}
use Rattle.loops.specs.Program.{Expr}
use Rattle.loops.specs.Chain.{Chain, stages_of}
use Rattle.loop_runs.specs.ChainReplay.{chain_replay_of}
use Rattle.io_edge.specs.declared.answer.Status.TheVariants as status
use Rattle.io_edge.specs.Texts.{Answer, answer}
use Rattle.replay_commands.specs.RunTexts.{run_answer}
use Rattle.replay_commands.specs.ChainrunArguments.{Request}

abbrev pub IsOfWords : Chain (Expr ℕ) → List (List ℕ) → Type 0
IsOfWords c words = length words ≡ length (stages_of c)

abbrev pub count_answer : ℕ → ℕ → Answer
count_answer given wanted =
    answer status.Fault
    (codes "words: " ++ decimal given ++ codes " given, " ++ decimal wanted ++ codes " wanted")

abbrev pub chain_run_answer : Chain (Expr ℕ) → Request → Answer
chain_run_answer c request =
    if length request.words == length (stages_of c)
    then run_answer c.first.names c.first.locals (chain_replay_of c request.values request.words)
    else count_answer (length request.words) (length (stages_of c))
