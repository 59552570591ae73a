use Rattle.std.proofs.Common.{◌≡◌, length, take}
use Rattle.loop_model.specs.View.{program_of}
use Rattle.closing.proofs.samples.word_of.Given as goal
use Rattle.closing.specs.Samples.{letters}

abbrev pub invariant-loop-number : goal.invariant-loop-number
invariant-loop-number l =
    l.word.items ≡ letters (length (program_of l.lp).branches) (take l.number-index l.numbers)
