use Rattle.std.proofs.Common.{rules, All, map, subst}
use Rattle.serde_json.specs.declared.value.Value.{the_lemmas}
use Rattle.serde_json.proofs.OnLiterals.{serde_json_on_literals}
use Rattle.poly.specs.Seen.{terms_in}
use Rattle.cert_form.specs.Written.{list_data, IsWritten}
use Rattle.task_lists.specs.View.{form_in, round_in, full_of}
use Rattle.full_cert.specs.Seen.{block_of}
use Rattle.full_cert.specs.Narrow.{ArePolysNarrow, AreRowsNarrow, IsFormNarrow, IsBranchNarrow}
use Rattle.full_cert.specs.Written.{raws_data, steps_data, form_data, round_data}
use Rattle.full_cert.proofs.Wholes.{full_written}
use Rattle.full_cert.proofs.write.full_value.Goals as goal

pub returns : goal.returns
unfolding serde_json_on_literals
returns c =
    let b = c.in_ok-raws_value.field-0 in
    let f = c.in_ok-forms_value.field-0 in
    let r = c.in_ok-rounds_value.field-0 in
    let t = c.in_ok-steps_value.field-0 in
    let basis = subst (λ xs. IsWritten raws_data ArePolysNarrow (map terms_in xs) b)
    c.deref.ensures.value c.in_ok-raws_value.ensures in
    let forms = subst (λ xs. IsWritten (list_data form_data) (All IsFormNarrow) (map form_in xs) f)
    c.deref-2.ensures.value c.in_ok-forms_value.ensures in
    let rounds = subst (λ xs. IsWritten (list_data round_data) (All (All IsBranchNarrow))
    (map round_in xs) r) c.deref-3.ensures.value c.in_ok-rounds_value.ensures in
    let steps = subst (λ xs. IsWritten steps_data (All AreRowsNarrow) (map block_of xs) t)
    c.deref-4.ensures.value c.in_ok-steps_value.ensures in
    full_written c.args.names.now (full_of c.args.cert.now) b f r c.in_ok-start_value.field-0 t
    c.in_ok-names_value.field-0 c.from-2.result basis forms rounds c.in_ok-start_value.ensures steps
    c.in_ok-names_value.ensures (search (rules, the_lemmas))
