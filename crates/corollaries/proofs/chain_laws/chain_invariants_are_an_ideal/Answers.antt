use Rattle.corollaries.proofs.Ideal.{same_invariant, zero_invariant, sum_invariant, multiple_invariant, one_no_invariant}
use Rattle.corollaries.proofs.chain_laws.chain_invariants_are_an_ideal.Goals as goal

pub returns : goal.returns
returns c s = record {
  same = same_invariant;
  zero = zero_invariant;
  sum = sum_invariant;
  multiple = multiple_invariant;
  one = one_no_invariant;
}
