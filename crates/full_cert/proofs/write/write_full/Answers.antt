use Rattle.std.proofs.Common.{string_bytes, sym, ap, subst, ◌≤◌, ◌∙◌, ◌++◌}
use Rattle.std.specs.Prelude.{Some}
use Rattle.std.proofs.lemmas.Str.{IsUtf8-string_bytes}
use Rattle.serde_json.specs.Data.{depth}
use Rattle.serde_json.specs.Read.{max_depth}
use Rattle.serde_json.specs.Written.{has_float, compact_text}
use Rattle.cert_form.proofs.Documents.{document_some}
use Rattle.cert_form.proofs.Trailing.{blanks_read, blanks_utf8}
use Rattle.task_lists.specs.View.{full_of}
use Rattle.full_cert.specs.Written.{full_text}
use Rattle.full_cert.proofs.Plain.{plain}
use Rattle.full_cert.proofs.write.write_full.Goals as goal

pub returns-clause-text : goal.returns-clause-text
unfolding full_text
returns-clause-text c =
    let value = c.in_ok-value.ensures.value in
    c.in_ok-text.ensures.text (ap has_float value
    ∙ (plain c.args.names.now (full_of c.args.cert.now)).no_float) ∙ ap compact_text value

pub returns-clause-read : goal.returns-clause-read
returns-clause-read c = λ blanks are.
    let value = c.in_ok-value.ensures.value in
    let bytes = string_bytes c.in_ok-text.text in
    document_some (bytes ++ blanks)
    (blanks_utf8 bytes blanks (IsUtf8-string_bytes c.in_ok-text.text) are)
    (blanks_read blanks are bytes c.in_ok-text.ensures.compact
    ∙ c.in_ok-text.ensures.reads_back (subst (λ d. depth d ≤ max_depth) (sym value)
    (plain c.args.names.now (full_of c.args.cert.now)).within)) ∙ ap Some value

pub returns-clause-narrow : goal.returns-clause-narrow
returns-clause-narrow c = c.in_ok-value.ensures.holds
