use Rattle.std.proofs.Common.{◌≡◌, ◌≤◌, ◌+◌, ℕ, length}
use Rattle.closures.specs.Monomials.{monomials_up_to}
use Rattle.residue_rows.specs.Limits.{most_monomials}
use Rattle.residue_rows.proofs.MonomialsListed.{degrees_below}
use Rattle.residue_rows.proofs.monomials.with_variable.Given as goal

abbrev pub invariant-loop-total : goal.invariant-loop-total
invariant-loop-total l = record {
  within : l.total ≤ l.degree + 1;
  all : (m : ℕ) → l.list ≡ monomials_up_to m l.degree
      → l.longer.items ≡ degrees_below m l.degree l.total;
  few : length l.longer.items ≤ most_monomials;
}
