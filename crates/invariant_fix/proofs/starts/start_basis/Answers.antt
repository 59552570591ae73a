use Rattle.std.proofs.Common.{sym, subst}
use Rattle.invariant_fix.specs.Coming.{Refuses}
use Rattle.invariant_fix.specs.Setting.{setting_of}
use Rattle.invariant_fix.proofs.Works.{start_next, start_known, start_refused}
use Rattle.invariant_fix.proofs.starts.start_basis.Goals as goal

pub returns-in-Ok-clause-next : goal.returns-in-Ok-clause-next
returns-in-Ok-clause-next c =
    start_next c.requires.fits c.deref.ensures.value c.args.meter.now _ c.in_ok-begin.ensures.ok
    c.requires.next c.in-Ok.basis c.in-Ok.ensures.ran

pub returns-in-Ok-clause-list : goal.returns-in-Ok-clause-list
returns-in-Ok-clause-list c =
    start_known c.requires.fits c.deref.ensures.value c.args.meter.now _ c.in_ok-begin.ensures.ok
    c.requires.plain c.in-Ok.basis c.in-Ok.ensures.ran c.in-Ok.ensures.sum

pub returns-in-Err-clause-err : goal.returns-in-Err-clause-err
returns-in-Err-clause-err c =
    subst (Refuses (setting_of c.args.setting.now) c.sum.new.meter) (sym c.in_task.ensures)
    (start_refused c.requires.fits c.deref.ensures.value c.args.meter.now _ c.in_ok-begin.ensures.ok
    c.requires.next c.in-Err.error c.in-Err.ensures.ran)
