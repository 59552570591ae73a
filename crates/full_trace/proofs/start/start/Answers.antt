use Rattle.std.proofs.Common.{refl, sym, subst}
use Rattle.journal.specs.declared.Task.TheVariants as task
use Rattle.task_lists.specs.View.{start_in}
use Rattle.full_trace.specs.Tasks.{Stops}
use Rattle.full_trace.proofs.TasksMade.{start_next, start_known, start_stops}
use Rattle.full_trace.proofs.start.start.Goals as goal

pub returns-in-Ok-clause-next : goal.returns-in-Ok-clause-next
returns-in-Ok-clause-next c = λ R A i a.
    start_next c.requires.fits c.deref.ensures.value c.args.meter.now c.trace_start.new.meter
    c.in_ok-begin.ensures.ok A R i a (start_in c.in-Ok.start).0 (start_in c.in-Ok.start).1
    c.in-Ok.ensures.made

pub returns-in-Ok-clause-list : goal.returns-in-Ok-clause-list
returns-in-Ok-clause-list c =
    start_known c.requires.fits c.deref.ensures.value c.args.meter.now c.trace_start.new.meter
    c.in_ok-begin.ensures.ok c.in-Ok.start.out.items (start_in c.in-Ok.start).1 c.in-Ok.ensures.made
    c.in-Ok.ensures.out

pub returns-in-Err-clause-refused : goal.returns-in-Err-clause-refused
returns-in-Err-clause-refused c = λ R A i a.
    subst (Stops A R c.trace_start.new.meter) (sym c.in_task.ensures) (start_stops c.requires.fits
    c.deref.ensures.value c.args.meter.now c.trace_start.new.meter c.in_ok-begin.ensures.ok A R i a
    task.Start refl c.in-Err.error c.in-Err.ensures.refused)
