use Rattle.std.proofs.Common.{refl, sym, ap, ◌∙◌, arith, string_bytes}
use Rattle.std.proofs.lemmas.Option.{get_or_from_slice_get}
use Rattle.serde_json.specs.Data.{string}
use Rattle.cert_form.proofs.Listed.{written_start, written_more, written_all, itself}
use Rattle.cert_form.proofs.write.names_value.Goals as goal

pub loop-index-init : goal.loop-index-init
loop-index-init c = written_start c.new-texts.ensures.items

pub loop-index-preserved : goal.loop-index-preserved
loop-index-preserved c =
    let name = string_bytes c.name.result.now in
    let within = c.loop-index-test.true in
    written_more refl c.loop-index.invariant (omega (arith, within, c.len-index-end.ensures.len))
    (sym (get_or_from_slice_get c.args.names.now c.loop-index.index name name c.name.ensures))
    (record { value = c.in_ok-try_from_str.ensures ∙ ap string c.as_str.ensures.value; holds = tt })
    c.in_ok-push.ensures.items

pub returns : goal.returns
returns c =
    let past = c.loop-index-test.false in
    (itself string (λ t. Unit {0}) (written_all refl c.loop-index.invariant
    (omega (arith, past, c.len-index-end.ensures.len)) c.from.ensures)).value
