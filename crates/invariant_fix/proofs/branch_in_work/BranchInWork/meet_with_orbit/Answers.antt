use Rattle.std.proofs.Common.{sym, subst}
use Rattle.machines.specs.Journal.{Meet}
use Rattle.invariant_fix.specs.InWork.{Stops}
use Rattle.invariant_fix.proofs.Lists.{one_arity, over_append, few_arity}
use Rattle.invariant_fix.proofs.Works.{IsBegun, begun_as, met_next, met_known, met_units, met_refused}
use Rattle.invariant_fix.proofs.branch_in_work.BranchInWork.meet_with_orbit.Goals.{In_ok-begin}
use Rattle.invariant_fix.proofs.branch_in_work.BranchInWork.meet_with_orbit.Goals as goal

begun : (c : In_ok-begin) → IsBegun c.args.self.now (Meet c.args.self.now.round) c.args.meter.now
    c.begin.new.self c.number_of_place.result
begun c = begun_as c.requires.at c.number_of_place.ensures c.in_ok-begin.ensures.ok

pub meet-requires-clause-alike : goal.meet-requires-clause-alike
meet-requires-clause-alike c =
    let a = c.args.self.now.setting.now.arity in
    one_arity _ (over_append a _ _ c.requires.so_far.arity c.requires.next.arity)

pub meet-requires-clause-arity : goal.meet-requires-clause-arity
meet-requires-clause-arity c =
    let a = c.args.self.now.setting.now.arity in
    few_arity a _
    (over_append a _ _ c.requires.so_far.arity c.requires.next.arity) c.requires.at.fits.few

pub returns-in-Ok-clause-met : goal.returns-in-Ok-clause-met
returns-in-Ok-clause-met c =
    met_next (begun (goal.at.returns-in-Ok-clause-met c).In_ok-begin) _ _ _ c.in-Ok.met
    c.in-Ok.ensures.ran c.requires.due

pub returns-in-Ok-clause-list : goal.returns-in-Ok-clause-list
returns-in-Ok-clause-list c =
    met_known (begun (goal.at.returns-in-Ok-clause-list c).In_ok-begin) _ _ _ c.in-Ok.met
    c.in-Ok.ensures.ran c.requires.so_far c.requires.next c.in-Ok.ensures.intersection

pub returns-in-Ok-clause-units : goal.returns-in-Ok-clause-units
returns-in-Ok-clause-units c =
    met_units (begun (goal.at.returns-in-Ok-clause-units c).In_ok-begin) _ _ _ c.in-Ok.met
    c.in-Ok.ensures.ran

pub returns-in-Err-clause-err : goal.returns-in-Err-clause-err
returns-in-Err-clause-err c =
    subst (Stops c.args.self.now c.meet.new.meter) (sym c.in_task.ensures)
    (met_refused (begun (goal.at.returns-in-Err-clause-err c).In_ok-begin) _ _ _ c.requires.due
    c.in-Err.error c.in-Err.ensures.ran)
