use Rattle.std.proofs.Common.{sym, subst}
use Rattle.invariant_fix.specs.InWork.{Stops}
use Rattle.invariant_fix.proofs.LongLaws.{none_is_above, some_is_few}
use Rattle.invariant_fix.proofs.Works.{IsBegun, begun_as, iteration_at, iteration_long, iteration_next, iteration_known, iteration_units, iteration_refused}
use Rattle.invariant_fix.proofs.branch_in_work.BranchInWork.iteration.Goals.{In_ok-begin}
use Rattle.invariant_fix.proofs.branch_in_work.BranchInWork.iteration.Goals as goal

begun : (c : In_ok-begin) → IsBegun c.args.self.now
    (iteration_at c.args.self.now.round c.args.taken) c.args.meter.now c.begin.new.self
    c.number_of_place.result
begun c = begun_as c.requires.at c.number_of_place.ensures c.in_ok-begin.ensures.ok

pub returns-then-is_none-clause-err : goal.returns-then-is_none-clause-err
returns-then-is_none-clause-err c = λ hs a.
    iteration_long c.requires.at c.index-branch.result.now c.index-branch.ensures c.args.taken
    (begun (goal.at.returns-then-is_none-clause-err c).In_ok-begin) c.args.before.now
    c.begin.new.self hs a
    (none_is_above _ _ _ c.iteration_length.ensures c.is_none.ensures c.if-is_none.true)

pub returns-in-Ok-clause-next : goal.returns-in-Ok-clause-next
returns-in-Ok-clause-next c = λ hs a.
    iteration_next c.requires.at c.index-branch.result.now c.index-branch.ensures c.args.taken
    (begun (goal.at.returns-in-Ok-clause-next c).In_ok-begin) c.args.before.now
    c.eliminated_iteration.new.meter (some_is_few _ _ _ c.iteration_length.ensures c.is_none.ensures
    c.if-is_none.false) hs a c.in-Ok.list c.in-Ok.ensures.ran

pub returns-in-Ok-clause-list : goal.returns-in-Ok-clause-list
returns-in-Ok-clause-list c =
    iteration_known c.requires.at c.index-branch.result.now c.index-branch.ensures
    c.args.taken (begun (goal.at.returns-in-Ok-clause-list c).In_ok-begin) c.args.before.now
    c.eliminated_iteration.new.meter c.in-Ok.list c.in-Ok.ensures.ran c.requires.before
    c.in-Ok.ensures.arity c.in-Ok.ensures.reduced

pub returns-in-Ok-clause-units : goal.returns-in-Ok-clause-units
returns-in-Ok-clause-units c =
    iteration_units c.requires.at c.index-branch.result.now c.index-branch.ensures
    c.args.taken (begun (goal.at.returns-in-Ok-clause-units c).In_ok-begin) c.args.before.now
    c.eliminated_iteration.new.meter c.in-Ok.list c.in-Ok.ensures.ran

pub returns-in-Err-clause-err : goal.returns-in-Err-clause-err
returns-in-Err-clause-err c = λ hs a.
    subst (Stops c.args.self.now c.eliminated_iteration.new.meter) (sym c.in_task.ensures)
    (iteration_refused c.requires.at c.index-branch.result.now c.index-branch.ensures c.args.taken
    (begun (goal.at.returns-in-Err-clause-err c).In_ok-begin) c.args.before.now
    c.eliminated_iteration.new.meter (some_is_few _ _ _ c.iteration_length.ensures c.is_none.ensures
    c.if-is_none.false) hs a c.in-Err.error c.in-Err.ensures.ran)
