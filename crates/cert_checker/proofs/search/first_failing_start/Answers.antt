use Rattle.std.proofs.Common.{length, refl, ap, Err, below_none}
use Rattle.loop_model.proofs.Items.{in_list, past_list}
use Rattle.cert_checker.proofs.SearchLaws.{start_at, start_past, kept_more, failed_here, all_kept}
use Rattle.cert_checker.proofs.search.first_failing_start.Goals as goal

pub loop-i-init : goal.loop-i-init
loop-i-init c = below_none _

pub returns-in-Ok-false-clause-first : goal.returns-in-Ok-false-clause-first
returns-in-Ok-false-clause-first c =
    failed_here _ (length c.args.basis.now.items) c.loop-i.invariant (start_at _
    c.args.images.now.items _ c.deref-element-items.ensures.value c.loop-i.i c.loop-i-test.true
    c.element-item.is c.in-Ok-false.ensures.holds) (in_list _ _ c.deref-element-items.ensures.value
    _ c.loop-i-test.true) c.in-Ok-false.field-0-test

pub returns-in-Err-Wide-clause-stops : goal.returns-in-Err-Wide-clause-stops
returns-in-Err-Wide-clause-stops c =
    let cause = start_past (length c.args.images.now.items) c.args.images.now.items _
    c.deref-element-items.ensures.value c.loop-i.i c.loop-i-test.true c.element-item.is
    (c.in-Err-Wide.ensures.wide (ap Err c.in-Err-Wide.field-0-is)) in (
      refl,
      record {
        within = in_list _ _ c.deref-element-items.ensures.value _ c.loop-i-test.true;
        before = c.loop-i.invariant;
        cause = cause;
      },
    )

pub loop-i-preserved : goal.loop-i-preserved
loop-i-preserved c =
    kept_more _ (length c.args.basis.now.items) c.loop-i.invariant (start_at _
    c.args.images.now.items _ c.deref-element-items.ensures.value c.loop-i.i c.loop-i-test.true
    c.element-item.is c.in-Ok-true.ensures.holds) c.in-Ok-true.field-0-test

pub returns-clause-first : goal.returns-clause-first
returns-clause-first c =
    all_kept _ _ c.loop-i.i (past_list _ _
    c.deref-element-items.ensures.value c.loop-i.i c.loop-i-test.false) c.loop-i.invariant
