use Rattle.corollaries.proofs.Ended.{relations_basis, relations_generate, one_relations_basis}
use Rattle.corollaries.proofs.relation_laws.ended_journals_have_the_relations.Goals as goal

pub returns : goal.returns
returns c s = record {
  basis = relations_basis;
  generates = relations_generate;
  one = λ qs f es hs ks e. one_relations_basis qs f es hs e ks;
}
