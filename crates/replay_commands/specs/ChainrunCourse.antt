-- The course of `chainrun`: CHAIN is read, and the run is answered by its states, or its first refusal. It leaves the meter alone.
use Rattle.std.specs.Prelude.{◌≡◌}
use Rattle.io_edge.specs.Course.{Course, silent}
use Rattle.command_parts.specs.ChainReading.{with_chain}
use Rattle.replay_commands.specs.ChainrunTexts.{chain_run_answer}
use Rattle.replay_commands.specs.ChainrunArguments.{Request}

abbrev pub course : Request → Course
course request = with_chain request.file (λ c. silent (λ a. a ≡ chain_run_answer c request))
