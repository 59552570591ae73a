use Rattle.std.proofs.Common.{◌≡◌, length, take}
use Rattle.polynomials.specs.Exponent.{plus}
use Rattle.poly.proofs.composition.parts_of.Given as goal

abbrev pub invariant-loop-at : goal.invariant-loop-at
invariant-loop-at g l = (plus l.short.items l.long.items ≡ take l.at l.exponents)
    × (length l.short.items ≡ length l.long.items)
