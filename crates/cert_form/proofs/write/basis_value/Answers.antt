use Rattle.cert_form.proofs.Listed.{written_start, written_more, written_all}
use Rattle.cert_form.proofs.write.basis_value.Goals as goal

pub loop-p-init : goal.loop-p-init
loop-p-init c = written_start c.new-texts.ensures.items

pub loop-p-preserved : goal.loop-p-preserved
loop-p-preserved c =
    written_more c.deref-p-items.ensures.value c.loop-p.invariant c.loop-p-test.true
    c.p-item.is c.in_ok-poly_value.ensures c.in_ok-push.ensures.items

pub returns : goal.returns
returns c = written_all c.deref-p-items.ensures.value c.loop-p.invariant
    c.loop-p-test.false c.from.ensures
