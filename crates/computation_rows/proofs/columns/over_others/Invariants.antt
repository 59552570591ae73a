use Rattle.std.proofs.Common.{◌≡◌, length}
use Rattle.std.specs.List.{All}
use Rattle.computation_rows.proofs.columns.over_others.Given as goal

abbrev pub invariant-loop-term : goal.invariant-loop-term
invariant-loop-term g l = All (λ t. length t.mono ≡ l.p.arity) l.terms.items
