use Rattle.std.proofs.Common.{rules, string_bytes}
use Rattle.command_parts.specs.Numerals.{letters_of, values_of}
use Rattle.replay_commands.proofs.RunArguments.{with_letters, no_letters}
use Rattle.replay_commands.proofs.run_arguments.read_run.Goals as goal

pub returns-in-Ok-Some : goal.returns-in-Ok-Some
returns-in-Ok-Some c =
    with_letters c.run_from.result (string_bytes c.args.file.now) c.in-Ok-Some.word.items
    (letters_of (string_bytes c.args.letters.now)) (values_of (string_bytes c.args.values.now))
    (search rules)
    (c.run_from.ensures (values_of (string_bytes c.args.values.now)) (search rules))

pub returns-in-Ok-None : goal.returns-in-Ok-None
returns-in-Ok-None c =
    no_letters (string_bytes c.args.file.now) (letters_of (string_bytes c.args.letters.now))
    (values_of (string_bytes c.args.values.now)) (search rules)
