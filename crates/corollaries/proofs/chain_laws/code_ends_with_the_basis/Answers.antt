use Rattle.corollaries.proofs.Mapped.{code_basis, code_generates, leads_one}
use Rattle.corollaries.proofs.chain_laws.code_ends_with_the_basis.Goals as goal

pub returns : goal.returns
returns c s = record {
  basis = λ program code gs ga es ks e. code_basis program code gs ga es ks e;
  generates = λ program code gs ga es ks e. code_generates program code gs ga es ks e;
  one = λ program code gs es fs ks hs a b. leads_one program code gs es fs ks hs a b;
}
