use Rattle.std.proofs.Common.{◌≡◌, ◌++◌, string_bytes, take}
use Rattle.replay_commands.specs.CounterTexts.{letters_text}
use Rattle.replay_commands.proofs.counter_texts.push_word.Given as goal

abbrev pub invariant-loop-letter : goal.invariant-loop-letter
invariant-loop-letter l =
    string_bytes l.text ≡ string_bytes l.initial.text ++ letters_text (take l.letter-index l.word)
