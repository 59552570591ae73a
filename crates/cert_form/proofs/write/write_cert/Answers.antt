use Rattle.std.proofs.Common.{string_bytes, sym, ap, subst, ◌≤◌, ◌∙◌}
use Rattle.std.proofs.lemmas.Str.{IsUtf8-string_bytes}
use Rattle.serde_json.specs.Data.{depth}
use Rattle.serde_json.specs.View.{view}
use Rattle.serde_json.specs.Read.{max_depth}
use Rattle.serde_json.specs.Written.{has_float, compact_text}
use Rattle.cert_form.specs.Written.{text_of}
use Rattle.cert_form.proofs.Plain.{plain}
use Rattle.cert_form.proofs.ReadingBack.{text_reads}
use Rattle.cert_form.proofs.write.write_cert.Goals as goal

pub returns-clause-text : goal.returns-clause-text
unfolding text_of
returns-clause-text c =
    let value = c.in_ok-value.ensures.value in
    c.in_ok-text.ensures.text (ap has_float value
    ∙ (plain c.args.names.now c.args.cert.now.certificate).no_float) ∙ ap compact_text value

pub returns-clause-read_back : goal.returns-clause-read_back
returns-clause-read_back c = λ few blanks are.
    let names = c.args.names.now in
    let cert = c.args.cert.now.certificate in
    let value = c.in_ok-value.ensures.value in
    text_reads names cert c.in_ok-value.ensures.holds few (string_bytes c.in_ok-text.text)
    (view c.in_ok-value.value) value (IsUtf8-string_bytes c.in_ok-text.text)
    c.in_ok-text.ensures.compact
    (c.in_ok-text.ensures.reads_back (subst (λ d. depth d ≤ max_depth) (sym value)
    (plain names cert).within)) blanks are
