use Rattle.std.proofs.Common.{◌≡◌, ◌^◌, ◌-◌, map, sum_by, min}
use Rattle.replay_commands.specs.ChainrunArguments.{letter_count}
use Rattle.replay_commands.proofs.chainrun_letters.letters_in.Given as goal

abbrev pub invariant-loop-word : goal.invariant-loop-word
invariant-loop-word l =
    l.letters ≡ min (sum_by letter_count (map (λ word. word.now) l.yielded)) (2 ^ 64 - 1)
