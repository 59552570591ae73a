use Rattle.std.proofs.Common.{sym, ◌∙◌, rules}
use Rattle.std.proofs.lemmas.Result.{MatchResult-weaker}
use Rattle.serde_json.specs.Errors.{IsMemory}
use Rattle.program_model.specs.GraphView.{graph_of}
use Rattle.cert_form.proofs.Each.{IfFault-map}
use Rattle.program_checker.proofs.CertDocuments.{cert_in-none, cert_in-some}
use Rattle.program_checker.proofs.read.read_program_cert.Goals as goal

pub returns-in-Ok : goal.returns-in-Ok
returns-in-Ok c =
    let same = cert_in-some c.args.names.now (graph_of c.args.graph.now) c.args.bytes.now _
    c.in-Ok.ensures.ok.0 c.in-Ok.ensures.ok.1 in
    MatchResult-weaker c.read_value.result c.read_value.ensures
    (λ k h. record { raw = h.raw; is = sym same ∙ h.is; alike = h.alike })
    (λ e. IfFault-map e (λ f is. sym same ∙ is))

pub returns-in-Err-2 : goal.returns-in-Err-2
returns-in-Err-2 c =
    let not_memory : IsMemory c.in-Err-2.field-0 → ⊥ = search rules in
    cert_in-none c.args.names.now (graph_of c.args.graph.now) c.args.bytes.now
    (c.in-Err-2.ensures.err not_memory)
