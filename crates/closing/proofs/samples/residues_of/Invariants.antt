use Rattle.std.proofs.Common.{◌≡◌, pos, map, take}
use Rattle.residue_rows.specs.Numbers.{numbers_of}
use Rattle.closing.proofs.samples.residues_of.Given as goal

abbrev pub invariant-loop-number : goal.invariant-loop-number
invariant-loop-number l = numbers_of l.residues.items ≡ map pos (take l.number-index l.numbers)
