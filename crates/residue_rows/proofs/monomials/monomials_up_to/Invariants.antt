use Rattle.std.proofs.Common.{◌≡◌, ◌≤◌, length}
use Rattle.closures.specs.Monomials.{monomials_up_to as monomials}
use Rattle.residue_rows.specs.Limits.{most_monomials}
use Rattle.residue_rows.proofs.monomials.monomials_up_to.Given as goal

abbrev pub invariant-loop-variables : goal.invariant-loop-variables
invariant-loop-variables l = record {
  within : l._variables ≤ l.arity;
  all : l.monomials.items ≡ monomials l._variables l.degree;
  few : length l.monomials.items ≤ most_monomials;
}
