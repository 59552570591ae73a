use Rattle.std.proofs.Common.{◌≡◌}
use Rattle.solvable_maps.specs.Iterations.{sign}
use Rattle.frac128.specs.FracMeaning.{fraction_of}
use Rattle.expo.proofs.points.sign.Given as goal

abbrev pub invariant-loop : goal.invariant-loop
invariant-loop l = fraction_of l.found ≡ sign l.counter
