-- The values of `decide` and `prove` as the definitions see them.
--   view request        what is asked for
--   stop_answer n e     what is answered, with the budget n, to a closing that stopped; want of memory has none
use Rattle.std.specs.Prelude.{ℕ, Option, Some, None, string_bytes}
use Rattle.closing.specs.declared.error.ClosingError.{ClosingError}
use Rattle.closing.specs.declared.error.ClosingError.TheVariants as error
use Rattle.io_edge.specs.Texts.{Answer}
use Rattle.replay_commands.specs.CounterTexts.{limit_answer, wide_answer}
use Rattle.closing_commands.specs.declared.decide_arguments.Request as made
use Rattle.command_parts.specs.FaultTexts.{exhausted_answer}
use Rattle.closing_commands.specs.DecideArguments.{Request}

abbrev pub view : made.Request → Request
view request = record {
  evidence = request.evidence;
  budget = request.budget.units;
  file = string_bytes request.file.now;
  equation = string_bytes request.equation.now;
}

abbrev pub stop_answer : ℕ → ClosingError → Option Answer
stop_answer n (error.Limit word) = Some (limit_answer word.items)
stop_answer n (error.Wide word) = Some (wide_answer word.items)
stop_answer n error.Budget = Some (exhausted_answer n)
stop_answer n error.Memory = None
