use Rattle.std.proofs.Common.{refl}
use Rattle.cert_form.proofs.Listed.{written_start, written_more, written_all}
use Rattle.full_cert.proofs.list_texts.rows_value.Goals as goal

pub loop-element-init : goal.loop-element-init
loop-element-init g c = written_start c.new-values.ensures.items

pub loop-element-preserved : goal.loop-element-preserved
loop-element-preserved g c =
    let written = rw (c.deref.ensures.value) at c.in_ok-raws_value.ensures in
    written_more refl c.loop-element.invariant c.loop-element-test.true c.element-item.is written
    c.in_ok-push.ensures.items

pub returns : goal.returns
returns g c = written_all refl c.loop-element.invariant c.loop-element-test.false c.from.ensures
