use Rattle.algebra.specs.FieldArithmetic.{field_of}
use Rattle.corollaries.proofs.Representations.{but_coprime_represented, all_represented}
use Rattle.corollaries.proofs.certificate_laws.lists_with_lcm_representations_are_bases.Goals as goal

pub returns : goal.returns
returns c s = record {
  but_coprime = λ F f. but_coprime_represented (field_of F f);
  all = λ F f. all_represented (field_of F f);
}
