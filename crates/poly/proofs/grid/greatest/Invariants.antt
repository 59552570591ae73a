use Rattle.std.proofs.Common.{◌≤◌, take}
use Rattle.std.specs.List.{All}
use Rattle.poly.proofs.grid.greatest.Given as goal

abbrev pub invariant-loop-term : goal.invariant-loop-term
invariant-loop-term g l = All (λ t. All (λ e. e ≤ l.top) t.mono) (take l.term-index l.terms)
