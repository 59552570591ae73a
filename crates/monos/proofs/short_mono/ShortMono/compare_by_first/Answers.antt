use Rattle.std.proofs.Common.{◌∙◌}
use Rattle.monos.proofs.ShortMonos.{by_first, other_fits}
use Rattle.monos.proofs.short_mono.ShortMono.compare_by_first.Goals as goal

pub compare_lanes-requires-clause-right_fits : goal.compare_lanes-requires-clause-right_fits
compare_lanes-requires-clause-right_fits c =
    other_fits _ _ _ _ _ _ _ _ c.self.invariant c.other.invariant c.self.view_is c.other.view_is
    c.requires _ _ c.room_of.ensures.room c.from-count.ensures

pub returns : goal.returns
returns c = c.compare_lanes.ensures
    ∙ by_first _ _ _ _ _ _ _ _ c.self.invariant c.other.invariant c.self.view_is c.other.view_is
    c.requires _ _ c.room_of.ensures.room c.from-count.ensures
