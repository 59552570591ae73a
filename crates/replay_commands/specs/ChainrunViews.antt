-- The words of `chainrun` as the definitions see them.
--   view request        what is asked for
use Rattle.std.specs.Prelude.{string_bytes}
use Rattle.loop_runs.specs.Seen.{numbers_of}
use Rattle.loop_runs.specs.ChainRunsSeen.{words_of}
use Rattle.replay_commands.specs.declared.chainrun_arguments.Request as made
use Rattle.replay_commands.specs.ChainrunArguments.{Request}

abbrev pub view : made.Request → Request
view request = record {
  file = string_bytes request.file.now;
  words = words_of request.words.items;
  values = numbers_of request.start.items;
}
