use Rattle.std.proofs.Common.{◌≡◌, ◌++◌, sum, nat_le, take}
use Rattle.std.specs.List.{filter}
use Rattle.closures.specs.Monomials.{of_degree}
use Rattle.residue_rows.proofs.monomials.with_degree.Given as goal

abbrev pub invariant-loop-monomial : goal.invariant-loop-monomial
invariant-loop-monomial l =
    l.longer.items
    ≡ l.fn.longer.items
    ++ of_degree l.total (filter (λ e. nat_le (sum e) l.total) (take l.monomial-index l.list))
