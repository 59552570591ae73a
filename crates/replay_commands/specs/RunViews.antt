-- The words of `run` as the definitions see them.
--   view request        what is asked for
use Rattle.std.specs.Prelude.{string_bytes}
use Rattle.loop_runs.specs.Seen.{numbers_of}
use Rattle.replay_commands.specs.declared.run_arguments.Request as made
use Rattle.replay_commands.specs.RunArguments.{Request}

abbrev pub view : made.Request → Request
view request = record {
  file = string_bytes request.file.now;
  word = request.word.items;
  values = numbers_of request.start.items;
}
