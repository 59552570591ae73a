use Rattle.std.proofs.Common.{eq-eqb}
use Rattle.std.proofs.Math.Facts.{Fits-of_lt}
use Rattle.std.proofs.lemmas.Bool.{eqb-true}
use Rattle.monos.proofs.ShortMonos.{guards_fit, below_guards, divides_is}
use Rattle.monos.proofs.short_mono.ShortMono.divides.Goals as goal

pub overflow_add-result : goal.overflow_add-result
overflow_add-result c = rw c.guards_of-guards.ensures
    (Fits-of_lt (guards_fit _ _ _ _ _ _ _ _ c.self.invariant c.other.invariant c.self.view_is
    c.other.view_is c.requires))

pub overflow_sub-result : goal.overflow_sub-result
overflow_sub-result c = rw c.guards_of-guards.ensures
    (below_guards _ _ _ _ _ _ _ _ c.self.invariant c.other.invariant c.self.view_is c.other.view_is
    c.requires)

pub returns : goal.returns
returns c =
    let is = divides_is _ _ _ _ _ _ _ _ c.self.invariant c.other.invariant c.self.view_is
    c.other.view_is c.requires in
    rw c.guards_of-guards.ensures ((λ t. is.0 (eqb-true _ _ t)), (λ h. eq-eqb _ _ (is.1 h)))
