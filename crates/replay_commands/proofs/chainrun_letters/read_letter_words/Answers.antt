use Rattle.std.proofs.Common.{subst, sym, arith}
use Rattle.command_parts.specs.Lookup.{IsFound}
use Rattle.loop_runs.specs.ChainRunsSeen.{words_of}
use Rattle.replay_commands.proofs.ChainRunArguments.{words_few, words_many}
use Rattle.replay_commands.proofs.chainrun_letters.read_letter_words.Goals as goal

pub returns-then-letters_in-le-MOST_LETTERS : goal.returns-then-letters_in-le-MOST_LETTERS
returns-then-letters_in-le-MOST_LETTERS c =
    subst (IsFound (λ found. words_of found.items) c.words_in.result)
    (sym (words_few c.args.text.now c.letters_in.result c.letters_in.ensures (omega arith)))
    c.words_in.ensures

pub returns-else-letters_in-le-MOST_LETTERS : goal.returns-else-letters_in-le-MOST_LETTERS
returns-else-letters_in-le-MOST_LETTERS c =
    words_many c.args.text.now c.letters_in.result c.letters_in.ensures (λ h. omega (arith, h))
