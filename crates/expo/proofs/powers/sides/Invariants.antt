use Rattle.std.proofs.Common.{◌≡◌, map, take}
use Rattle.expo.specs.Powers.{side_of}
use Rattle.expo.proofs.powers.sides.Given as goal

abbrev pub invariant-loop-exponent : goal.invariant-loop-exponent
invariant-loop-exponent l = l.found.items ≡ map (side_of l.below)
    (take l.exponent-index l.exponents)
