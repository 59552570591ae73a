use Rattle.closures.proofs.Monomials.{are_monomials_up_to, distinct_ascending}
use Rattle.closures.proofs.laws.monomials_up_to_a_degree_are_all.Goals as goal

pub returns : goal.returns
returns s = record {
  all = λ m d. are_monomials_up_to m d;
  distinct = λ es a. distinct_ascending es a;
}
