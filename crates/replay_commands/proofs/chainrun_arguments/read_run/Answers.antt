use Rattle.std.proofs.Common.{rules, string_bytes}
use Rattle.command_parts.specs.Numerals.{values_of}
use Rattle.loop_runs.specs.ChainRunsSeen.{words_of}
use Rattle.replay_commands.specs.ChainrunArguments.{words_in}
use Rattle.replay_commands.proofs.ChainRunArguments.{with_words, no_words}
use Rattle.replay_commands.proofs.chainrun_arguments.read_run.Goals as goal

pub returns-in-Ok-Some : goal.returns-in-Ok-Some
returns-in-Ok-Some c =
    with_words c.run_from.result (string_bytes c.args.file.now) (words_of c.in-Ok-Some.words.items)
    (words_in (string_bytes c.args.letters.now)) (values_of (string_bytes c.args.values.now))
    (search rules)
    (c.run_from.ensures (values_of (string_bytes c.args.values.now)) (search rules))

pub returns-in-Ok-None : goal.returns-in-Ok-None
returns-in-Ok-None c =
    no_words (string_bytes c.args.file.now) (words_in (string_bytes c.args.letters.now))
    (values_of (string_bytes c.args.values.now)) (search rules)
