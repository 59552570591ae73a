use Rattle.std.proofs.Common.{refl, sym, subst, ◌<◌, ◌^◌}
use Rattle.std.proofs.Math.Facts.{Fits-of_lt}
use Rattle.monos.proofs.ShortMonos.{above_fits, other_below, word_of_lcm, small_greater, lcm_fits}
use Rattle.monos.proofs.short_mono.ShortMono.word_of_lcm.Goals as goal

pub overflow_add-above : goal.overflow_add-above
overflow_add-above c = rw c.guards_of-guards.ensures
    (Fits-of_lt (above_fits _ _ _ _ c.self.invariant c.self.view_is))

pub overflow_sub-above : goal.overflow_sub-above
overflow_sub-above c = rw c.guards_of-guards.ensures
    (other_below _ _ _ _ _ _ _ _ c.self.invariant c.other.invariant
    c.self.view_is c.other.view_is c.requires)

pub overflow_add-result : goal.overflow_add-result
overflow_add-result c =
    Fits-of_lt
    (subst (λ k. k < 2 ^ 128) (sym (word_of_lcm _ _ _ _ _ _ _ _ c.self.invariant c.other.invariant
    c.self.view_is c.other.view_is c.requires
    _ _ _ _ c.room_of.ensures.room c.guards_of-guards.ensures refl refl))
    (lcm_fits _ _ _ _ _ _ _ _ c.self.invariant c.other.invariant
    c.self.view_is c.other.view_is c.requires))

pub returns-clause-word : goal.returns-clause-word
returns-clause-word c = word_of_lcm _ _ _ _ _ _ _ _ c.self.invariant c.other.invariant
    c.self.view_is c.other.view_is c.requires
    _ _ _ _ c.room_of.ensures.room c.guards_of-guards.ensures refl refl

pub returns-clause-small : goal.returns-clause-small
returns-clause-small c = small_greater _ _ _ _ _ _ _ _ c.self.invariant c.other.invariant
    c.self.view_is c.other.view_is c.requires
