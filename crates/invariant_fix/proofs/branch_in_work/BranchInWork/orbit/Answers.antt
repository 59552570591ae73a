use Rattle.std.proofs.Common.{sym, subst}
use Rattle.machines.specs.Journal.{Orbit}
use Rattle.invariant_fix.specs.InWork.{Stops}
use Rattle.invariant_fix.proofs.LongLaws.{none_is_above, some_is_few}
use Rattle.invariant_fix.proofs.Works.{IsBegun, begun_as, orbit_long, orbit_next, orbit_known, whole_known, orbit_units, orbit_refused}
use Rattle.invariant_fix.proofs.branch_in_work.BranchInWork.orbit.Goals.{In_ok-begin}
use Rattle.invariant_fix.proofs.branch_in_work.BranchInWork.orbit.Goals as goal

begun : (c : In_ok-begin) → IsBegun c.args.self.now (Orbit c.args.self.now.round) c.args.meter.now
    c.begin.new.self c.number_of_place.result
begun c = begun_as c.requires.at c.number_of_place.ensures c.in_ok-begin.ensures.ok

pub returns-then-is_none-clause-err : goal.returns-then-is_none-clause-err
returns-then-is_none-clause-err c = λ hs a.
    orbit_long c.requires.at c.index-branch.result.now c.index-branch.ensures
    (begun (goal.at.returns-then-is_none-clause-err c).In_ok-begin) c.begin.new.self hs a
    (none_is_above _ _ _ c.orbit_length.ensures c.is_none.ensures c.if-is_none.true)

pub returns-in-Ok-clause-next : goal.returns-in-Ok-clause-next
returns-in-Ok-clause-next c = λ hs a.
    orbit_next c.requires.at c.index-branch.result.now c.index-branch.ensures
    (begun (goal.at.returns-in-Ok-clause-next c).In_ok-begin) c.eliminated_orbit.new.meter
    (some_is_few _ _ _ c.orbit_length.ensures
    c.is_none.ensures c.if-is_none.false) hs a c.in-Ok.orbit c.in-Ok.ensures.ran

pub returns-in-Ok-clause-list : goal.returns-in-Ok-clause-list
returns-in-Ok-clause-list c =
    orbit_known c.requires.at c.index-branch.result.now c.index-branch.ensures
    (begun (goal.at.returns-in-Ok-clause-list c).In_ok-begin) c.eliminated_orbit.new.meter
    c.in-Ok.orbit c.in-Ok.ensures.ran c.in-Ok.ensures.arity c.in-Ok.ensures.reduced

pub returns-in-Ok-clause-whole : goal.returns-in-Ok-clause-whole
returns-in-Ok-clause-whole c =
    whole_known c.requires.at c.index-branch.result.now c.index-branch.ensures
    (begun (goal.at.returns-in-Ok-clause-whole c).In_ok-begin) c.eliminated_orbit.new.meter
    c.in-Ok.orbit c.in-Ok.ensures.ran c.in-Ok.ensures.arity c.in-Ok.ensures.reduced

pub returns-in-Ok-clause-units : goal.returns-in-Ok-clause-units
returns-in-Ok-clause-units c =
    orbit_units c.requires.at c.index-branch.result.now c.index-branch.ensures
    (begun (goal.at.returns-in-Ok-clause-units c).In_ok-begin) c.eliminated_orbit.new.meter
    c.in-Ok.orbit c.in-Ok.ensures.ran

pub returns-in-Err-clause-err : goal.returns-in-Err-clause-err
returns-in-Err-clause-err c = λ hs a.
    subst (Stops c.args.self.now c.eliminated_orbit.new.meter) (sym c.in_task.ensures)
    (orbit_refused c.requires.at c.index-branch.result.now c.index-branch.ensures
    (begun (goal.at.returns-in-Err-clause-err c).In_ok-begin) c.eliminated_orbit.new.meter
    (some_is_few _ _ _ c.orbit_length.ensures
    c.is_none.ensures c.if-is_none.false) hs a c.in-Err.error c.in-Err.ensures.ran)
