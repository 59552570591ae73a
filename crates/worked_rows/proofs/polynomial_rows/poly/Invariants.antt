use Rattle.std.proofs.Common.{◌≡◌, length}
use Rattle.std.specs.List.{All}
use Rattle.worked_rows.proofs.polynomial_rows.poly.Given as goal

abbrev pub invariant-loop-exponents : goal.invariant-loop-exponents
invariant-loop-exponents l = All (λ t. length t.mono ≡ 2) l.terms.items
