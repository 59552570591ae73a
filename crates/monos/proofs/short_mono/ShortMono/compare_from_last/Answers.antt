use Rattle.monos.proofs.ShortMonos.{compare_lasts}
use Rattle.monos.proofs.short_mono.ShortMono.compare_from_last.Goals as goal

pub returns : goal.returns
returns c =
    let is = compare_lasts _ _ _ _ _ _ _ _ c.self.invariant c.other.invariant c.self.view_is
    c.other.view_is c.requires in cc
