use Rattle.std.proofs.Common.{◌≡◌, take}
use Rattle.algebra.specs.Each.{Each}
use Rattle.algebra.specs.Fraction.{ℚ}
use Rattle.frac128.specs.FracMeaning.{fraction_of}
use Rattle.program_families.proofs.moves.follow.Given as goal

abbrev pub invariant-loop-value : goal.invariant-loop-value
invariant-loop-value l = Each (λ v. fraction_of v ≡ ℚ.zero) (take l.value-index l.value-items)
