use Rattle.std.proofs.Common.{refl}
use Rattle.cert_form.proofs.Listed.{written_start, written_more, written_all}
use Rattle.full_cert.proofs.poly_values.terms_value.Goals as goal

pub loop-term-init : goal.loop-term-init
loop-term-init c = written_start c.new-values.ensures.items

pub loop-term-preserved : goal.loop-term-preserved
loop-term-preserved c =
    let term = c.in_ok-term_value.ensures in
    written_more refl c.loop-term.invariant c.loop-term-test.true c.term-item.is
    (record { value = term.value; holds = term.narrow }) c.in_ok-push.ensures.items

pub returns : goal.returns
returns c = written_all refl c.loop-term.invariant c.loop-term-test.false c.from.ensures
