use Rattle.std.proofs.Common.{◌≡◌, length, refl, sym, subst}
use Rattle.coprime_base.specs.Sizes.{sizes}
use Rattle.solvable_maps.specs.Expo.{with_normal_keys}
use Rattle.expo.proofs.exponential.Expo.zero.Goals as goal

pub of-requires-clause-normal : goal.of-requires-clause-normal
of-requires-clause-normal c =
    subst (λ q. with_normal_keys (length (sizes c.deref.result.now)) q ≡ q)
    (sym c.zero-body.ensures.terms) refl
