use Rattle.cert_form.proofs.Listed.{written_start, written_more, written_all}
use Rattle.cert_form.proofs.write.steps_value.Goals as goal

pub loop-block-init : goal.loop-block-init
loop-block-init c = written_start c.new-blocks.ensures.items

pub loop-block-preserved : goal.loop-block-preserved
loop-block-preserved c =
    written_more c.deref-block-items.ensures.value c.loop-block.invariant c.loop-block-test.true
    c.block-item.is c.in_ok-block_value.ensures c.in_ok-push.ensures.items

pub returns : goal.returns
returns c = written_all c.deref-block-items.ensures.value c.loop-block.invariant
    c.loop-block-test.false c.from.ensures
