use Rattle.corollaries.proofs.Kept.{kept_is_invariant, invariant_is_kept}
use Rattle.corollaries.proofs.Mapped.{mapped_generates}
use Rattle.corollaries.proofs.chain_laws.what_a_loop_keeps_is_invariant.Goals as goal

pub returns : goal.returns
returns c s = λ c g gs ks es k mapped p a.
    let z = mapped_generates c gs k g.code es ks mapped in
    (kept_is_invariant c g ks z p a, invariant_is_kept c g ks z p)
