use Rattle.std.proofs.Common.{◌≡◌}
use Rattle.algebra.specs.Arithmetic.{power}
use Rattle.algebra.specs.Fraction.{ℚ}
use Rattle.frac128.specs.FracMeaning.{fraction_of}
use Rattle.expo.proofs.points.power.Given as goal

abbrev pub invariant-loop : goal.invariant-loop
invariant-loop l = fraction_of l.found ≡ power ℚ (fraction_of l.number) l.counter
