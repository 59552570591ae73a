use Rattle.monos.proofs.ShortMonos.{compare_words, compare_degrees}
use Rattle.monos.proofs.short_mono.ShortMono.compare.Goals as goal

pub returns-then-self-other : goal.returns-then-self-other
returns-then-self-other c =
    let is = compare_words _ _ _ _ _ _ _ _ c.self.invariant c.other.invariant c.self.view_is
    c.other.view_is c.requires c.if-self-other.true in cc

pub returns-else-self-other : goal.returns-else-self-other
returns-else-self-other c =
    let is = compare_degrees _ _ _ _ _ _ _ _ c.self.invariant c.other.invariant c.self.view_is
    c.other.view_is c.requires c.if-self-other.false in cc
