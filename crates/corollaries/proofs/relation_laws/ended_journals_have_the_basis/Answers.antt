use Rattle.corollaries.proofs.Ended.{ended_basis, ended_generates, one_basis}
use Rattle.corollaries.proofs.relation_laws.ended_journals_have_the_basis.Goals as goal

pub returns : goal.returns
returns c s = record {
  basis = λ program w is es hs e. ended_basis program is es hs e w;
  generates = λ program w is es hs e. ended_generates program is es hs e w;
  one = λ program w is es hs ks e. one_basis program is es hs e w ks;
}
