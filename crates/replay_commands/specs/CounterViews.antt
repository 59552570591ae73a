-- The values of `counter` as the definitions see them.
--   view request              what is asked for
--   tells_found names n f     what is answered to what the search has found
--   tells_error e             to a search that was stopped; want of memory has none
use Rattle.std.specs.Prelude.{ℕ, List, Option, Some, None, string_bytes}
use Rattle.frac128.specs.FracMeaning.{fraction_of}
use Rattle.counter_run.specs.Answers.{states_of}
use Rattle.counter_run.specs.declared.Found.{Found}
use Rattle.counter_run.specs.declared.Found.TheVariants as found
use Rattle.counter_run.specs.declared.error.CounterError.{CounterError}
use Rattle.counter_run.specs.declared.error.CounterError.TheVariants as error
use Rattle.io_edge.specs.Texts.{Answer}
use Rattle.replay_commands.specs.declared.counter_arguments.Request as made
use Rattle.replay_commands.specs.CounterTexts.{run_answer, none_answer, limit_answer, cost_answer, wide_answer, map_answer}
use Rattle.replay_commands.specs.CounterArguments.{Request}

abbrev pub view : made.Request → Request
view request = record {
  most = request.most;
  file = string_bytes request.file.now;
  equation = string_bytes request.equation.now;
}

abbrev pub tells_found : List (List ℕ) → ℕ → Found → Answer
tells_found names most (found.Run word states value) =
    run_answer names word.items (states_of states.items) (fraction_of value)
tells_found names most found.NoneUpTo = none_answer most

abbrev pub tells_error : CounterError → Option Answer
tells_error (error.Map stop) = map_answer stop
tells_error (error.Limit word) = Some (limit_answer word.items)
tells_error (error.Cost word) = Some (cost_answer word.items)
tells_error (error.Wide word) = Some (wide_answer word.items)
tells_error error.Memory = None
