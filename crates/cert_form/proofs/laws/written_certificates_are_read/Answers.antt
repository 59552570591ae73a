use Rattle.std.proofs.Common.{◌≡◌, length, string_bytes, sym, ap, ◌∙◌}
use Rattle.std.proofs.lemmas.Result.{IfOk-weaker, IfErr-weaker}
use Rattle.cert_form.specs.Cert.{rows_in}
use Rattle.cert_form.specs.Form.{cert_in, ReadsAs}
use Rattle.cert_form.proofs.Kept.{seen_length}
use Rattle.cert_form.proofs.ReadingBack.{without_blanks, told_so, same_again, memory_alone}
use Rattle.cert_form.proofs.laws.written_certificates_are_read.Goals as goal
use Rattle.cert_form.proofs.laws.written_certificates_are_read.Goals.{After-read_cert}

reads_back : (c : After-read_cert) → ReadsAs (cert_in c.args.names.now c.len.result
    c.as_bytes.result.now) c.args.cert.now.certificate
reads_back c =
    let names = c.args.names.now in
    let cert = c.args.cert.now.certificate in
    let count : length cert.steps ≡ c.len.result = ap length (sym c.steps.ensures.terms)
    ∙ seen_length rows_in c.steps.result.now ∙ sym c.len.ensures in
    told_so names (length cert.steps) c.len.result (string_bytes c.in_ok-text.text)
    c.as_bytes.result.now cert count c.as_bytes.ensures.value (without_blanks names
    (length cert.steps) cert (string_bytes c.in_ok-text.text)
    (c.in_ok-text.ensures.read_back c.requires.few))

pub returns-clause-same : goal.returns-clause-same
returns-clause-same c = IfOk-weaker c.read_cert.result _ _ (λ k read. same_again _ k.certificate
    c.args.cert.now.certificate read (reads_back (goal.at-returns-clause-same c).After-read_cert))
    c.read_cert.ensures.ok

pub returns-clause-memory : goal.returns-clause-memory
returns-clause-memory c = IfErr-weaker c.read_cert.result _ _ (λ e.
    memory_alone e (reads_back (goal.at-returns-clause-memory c).After-read_cert).is)
    c.read_cert.ensures.fault
