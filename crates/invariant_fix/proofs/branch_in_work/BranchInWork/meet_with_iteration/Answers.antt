use Rattle.std.proofs.Common.{sym, subst}
use Rattle.invariant_fix.specs.InWork.{Stops}
use Rattle.invariant_fix.proofs.Lists.{one_arity, over_append, few_arity}
use Rattle.invariant_fix.proofs.Works.{IsBegun, begun_as, iteration_meet_at, iteration_met_next, iteration_met_known, iteration_met_units, iteration_met_refused}
use Rattle.invariant_fix.proofs.branch_in_work.BranchInWork.meet_with_iteration.Goals.{In_ok-begin}
use Rattle.invariant_fix.proofs.branch_in_work.BranchInWork.meet_with_iteration.Goals as goal

begun : (c : In_ok-begin) → IsBegun c.args.self.now
    (iteration_meet_at c.args.self.now.round c.args.taken) c.args.meter.now c.begin.new.self
    c.number_of_place.result
begun c = begun_as c.requires.at c.number_of_place.ensures c.in_ok-begin.ensures.ok

pub meet-requires-clause-alike : goal.meet-requires-clause-alike
meet-requires-clause-alike c =
    let a = c.args.self.now.setting.now.arity in
    one_arity _ (over_append a _ _ c.requires.so_far.arity c.requires.turned.arity)

pub meet-requires-clause-arity : goal.meet-requires-clause-arity
meet-requires-clause-arity c =
    let a = c.args.self.now.setting.now.arity in
    few_arity a _
    (over_append a _ _ c.requires.so_far.arity c.requires.turned.arity) c.requires.at.fits.few

pub returns-in-Ok-clause-met : goal.returns-in-Ok-clause-met
returns-in-Ok-clause-met c =
    iteration_met_next _ (begun (goal.at.returns-in-Ok-clause-met c).In_ok-begin) _ _ _ c.in-Ok.met
    c.in-Ok.ensures.ran c.requires.next

pub returns-in-Ok-clause-list : goal.returns-in-Ok-clause-list
returns-in-Ok-clause-list c =
    iteration_met_known _ (begun (goal.at.returns-in-Ok-clause-list c).In_ok-begin) _ _ _
    c.in-Ok.met c.in-Ok.ensures.ran c.requires.so_far c.requires.turned c.in-Ok.ensures.intersection

pub returns-in-Ok-clause-units : goal.returns-in-Ok-clause-units
returns-in-Ok-clause-units c =
    iteration_met_units _ (begun (goal.at.returns-in-Ok-clause-units c).In_ok-begin) _ _ _
    c.in-Ok.met c.in-Ok.ensures.ran

pub returns-in-Err-clause-err : goal.returns-in-Err-clause-err
returns-in-Err-clause-err c =
    subst (Stops c.args.self.now c.meet.new.meter) (sym c.in_task.ensures) (iteration_met_refused _
    (begun (goal.at.returns-in-Err-clause-err c).In_ok-begin) _ _ _ c.requires.next c.in-Err.error
    c.in-Err.ensures.ran)
