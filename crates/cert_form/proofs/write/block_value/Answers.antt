use Rattle.cert_form.proofs.Listed.{written_start, written_more, written_all}
use Rattle.cert_form.proofs.write.block_value.Goals as goal

pub loop-row-init : goal.loop-row-init
loop-row-init c = written_start c.new-rows.ensures.items

pub loop-row-preserved : goal.loop-row-preserved
loop-row-preserved c =
    written_more c.deref-row-items.ensures.value c.loop-row.invariant c.loop-row-test.true
    c.row-item.is c.in_ok-row_value.ensures c.in_ok-push.ensures.items

pub returns : goal.returns
returns c = written_all c.deref-row-items.ensures.value c.loop-row.invariant
    c.loop-row-test.false c.from.ensures
