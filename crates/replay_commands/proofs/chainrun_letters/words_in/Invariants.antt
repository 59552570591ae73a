use Rattle.std.proofs.Common.{map}
use Rattle.command_parts.specs.Lookup.{IsFound}
use Rattle.command_parts.specs.Numerals.{each_of, letters_of}
use Rattle.loop_runs.specs.ChainRunsSeen.{words_of}
use Rattle.replay_commands.proofs.chainrun_letters.words_in.Given as goal

abbrev pub invariant-loop-word : goal.invariant-loop-word
invariant-loop-word l =
    IsFound (λ found. words_of found.items) l.found
    (each_of letters_of (map (λ word. word.now) l.yielded))
