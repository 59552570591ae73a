use Rattle.std.proofs.Common.{ℕ, List, pos, [], take}
use Rattle.loop_model.specs.View.{program_of}
use Rattle.residue_rows.specs.Modulus.{modulus}
use Rattle.residue_rows.specs.Numbers.{numbers_of}
use Rattle.closing.specs.Samples.{IsSampleState}
use Rattle.closing.proofs.samples.end_state.Given as goal

abbrev pub invariant-loop-letter : goal.invariant-loop-letter
invariant-loop-letter l =
    (ns : List ℕ)
    → IsSampleState (program_of l.lp) (pos modulus) ns [] (numbers_of l.fn.start.items)
    → IsSampleState (program_of l.lp) (pos modulus) ns (take l.letter-index l.word)
    (numbers_of l.state.items)
