use Rattle.std.proofs.Common.{◌≤◌, take}
use Rattle.std.specs.List.{All}
use Rattle.poly.proofs.grid.greatest_of.Given as goal

abbrev pub invariant-loop-exponent : goal.invariant-loop-exponent
invariant-loop-exponent l = All (λ e. e ≤ l.top) (take l.exponent-index l.exponents)
