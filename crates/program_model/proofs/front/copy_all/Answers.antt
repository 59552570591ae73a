use Rattle.std.proofs.Common.{[], sym, subst}
use Rattle.program_model.proofs.Moving.{CopiedAll, copied_none, copied_all, copied_next}
use Rattle.program_model.proofs.front.copy_all.Goals as goal

pub loop-path-init : goal.loop-path-init
loop-path-init c = subst (CopiedAll []) (sym c.new-again.ensures.items) copied_none

pub loop-path-preserved : goal.loop-path-preserved
loop-path-preserved c =
    subst (CopiedAll _) (sym c.in_ok-push.ensures.items)
    (copied_next c.deref-path-items.result.now c.loop-path.again.items c.loop-path.path-index
    c.path-item.result c.in_ok-copy.field-0 c.loop-path-test.true c.path-item.is
    c.loop-path.invariant c.in_ok-copy.ensures.ready c.in_ok-copy.ensures.way)

pub returns-clause-ready : goal.returns-clause-ready
returns-clause-ready c =
    (copied_all _ _ c.loop-path.again.items c.loop-path.path-index c.loop-path-test.false
    c.deref-path-items.ensures.value c.loop-path.invariant).ready

pub returns-clause-paths : goal.returns-clause-paths
returns-clause-paths c =
    (copied_all _ _ c.loop-path.again.items c.loop-path.path-index c.loop-path-test.false
    c.deref-path-items.ensures.value c.loop-path.invariant).paths
