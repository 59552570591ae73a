use Rattle.std.proofs.Common.{string_bytes, sym, ◌∙◌, arith}
use Rattle.cert_form.proofs.Texts.{agreed_start, agreed_more, not_agreed, agreed_all}
use Rattle.cert_form.proofs.read.agree.Goals as goal

pub loop-i-init : goal.loop-i-init
loop-i-init c = agreed_start c.args.names.now c.args.list.now

pub returns-then-not-is_text : goal.returns-then-not-is_text
returns-then-not-is_text c =
    not_agreed c.args.names.now c.args.list.now c.requires c.loop-i.i
    (string_bytes c.name.result.now) c.index-list-i.result c.loop-i-test.true c.name.ensures
    c.index-list-i.is c.loop-i.invariant
    (sym c.is_text.ensures ∙ c.if-not-is_text.true)

pub loop-i-preserved : goal.loop-i-preserved
loop-i-preserved c =
    agreed_more c.args.names.now c.args.list.now c.requires c.loop-i.i
    (string_bytes c.name.result.now) c.index-list-i.result c.loop-i-test.true c.name.ensures
    c.index-list-i.is c.loop-i.invariant
    (sym c.is_text.ensures ∙ c.if-not-is_text.false)

pub returns : goal.returns
returns c = agreed_all c.args.names.now c.args.list.now c.requires c.loop-i.i
    (omega (arith, c.loop-i-test.false)) c.loop-i.invariant
