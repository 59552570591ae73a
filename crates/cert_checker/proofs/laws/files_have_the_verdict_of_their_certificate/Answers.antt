use Rattle.std.proofs.Common.{◌≡◌, length, string_bytes, refl, sym, ap, subst, ◌∙◌}
use Rattle.std.proofs.lemmas.List.{length-map}
use Rattle.std.proofs.lemmas.Result.{IfOk-weaker, IfErr-weaker}
use Rattle.loops.specs.Certificate.{SameCertificate, AreOver}
use Rattle.loops.proofs.SameVerdict.{same_verdict}
use Rattle.loop_model.specs.View.{program_of}
use Rattle.cert_form.specs.Cert.{IsComplete}
use Rattle.cert_checker.specs.Views.{verdict_of}
use Rattle.cert_checker.proofs.FileLaws.{same_in_file}
use Rattle.cert_checker.proofs.laws.files_have_the_verdict_of_their_certificate.Goals as goal
use Rattle.cert_checker.proofs.laws.files_have_the_verdict_of_their_certificate.Goals.{In-Ok-read_cert}

pub returns-in_default-clause-refused : goal.returns-in_default-clause-refused
returns-in_default-clause-refused c = λ known. absurd (known refl)

pub returns-in_default-read_cert-clause-refused : goal.returns-in_default-read_cert-clause-refused
returns-in_default-read_cert-clause-refused c = λ known. absurd (known refl)

same : (c : In-Ok-read_cert) → SameCertificate c.in-Ok-read_cert.kept.certificate
    c.args.cert.now.certificate
same c =
    let count : length c.args.cert.now.certificate.steps ≡ length c.branches.result.now =
    c.requires.branches ∙ ap length (sym c.branches.ensures.branches)
    ∙ length-map c.branches.result.now _ in
    same_in_file c.names.result.now c.names-2.result.now (length c.branches.result.now)
    (string_bytes c.in-Ok.text) c.as_bytes.result.now c.args.cert.now.certificate
    c.names.ensures.names c.names-2.ensures.names count c.as_bytes.ensures.value
    (c.in-Ok.ensures.read_back c.requires.few) c.in-Ok-read_cert.ensures.ok

complete : (c : In-Ok-read_cert)
    → IsComplete (length (program_of c.args.lp.now).names)
    (length (program_of c.args.lp.now).branches) c.in-Ok-read_cert.kept.certificate
complete c =
    let branches = ap length (sym c.branches.ensures.branches)
    ∙ length-map c.branches.result.now _ in
    subst (λ ns. IsComplete (length ns) (length (program_of c.args.lp.now).branches)
    c.in-Ok-read_cert.kept.certificate) c.names-2.ensures.names
    (subst (λ n. IsComplete (length c.names-2.result.now) n c.in-Ok-read_cert.kept.certificate)
    (sym branches) c.in-Ok-read_cert.ensures.complete)

pub returns-clause-verdict : goal.returns-clause-verdict
returns-clause-verdict c =
    let program = program_of c.args.lp.now in
    let cert = c.args.cert.now.certificate in
    let kept = c.in-Ok-read_cert.kept.certificate in
    let over : AreOver (length program.names) kept = subst (λ ns. AreOver (length ns) kept)
    c.names-2.ensures.names c.in-Ok-read_cert.ensures.over in
    let own : AreOver (length program.names) cert = subst (λ m. AreOver m cert) c.requires.arity
    c.basis.ensures.over in
    IfOk-weaker c.check.result _ _ (λ v is. same_verdict program kept cert (verdict_of v) over own
    (same (goal.at.returns-clause-verdict c).In-Ok-read_cert) is) c.check.ensures.verdict

pub returns-clause-refused : goal.returns-clause-refused
returns-clause-refused c =
    let kept = c.in-Ok-read_cert.kept.certificate in
    let own = (goal.at.returns-clause-refused c).In-Ok-read_cert in
    IfErr-weaker c.check.result _ _ (λ e cause known. (kept, complete own, same own, cause))
    c.check.ensures.refused
