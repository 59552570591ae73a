use Rattle.monos.proofs.ShortMonos.{count_is, is_short}
use Rattle.monos.proofs.short_mono.ShortMono.count.Goals as goal

pub returns-clause-count : goal.returns-clause-count
returns-clause-count c = let is = count_is _ _ _ _ c.self.invariant c.self.view_is in cc

pub returns-clause-short : goal.returns-clause-short
returns-clause-short c = is_short _ _ _ _ c.self.invariant c.self.view_is
