use Rattle.std.proofs.Common.{sym, ◌∙◌, rules}
use Rattle.std.proofs.lemmas.Result.{MatchResult-weaker}
use Rattle.serde_json.specs.Errors.{IsMemory}
use Rattle.cert_form.proofs.Each.{IfFault-map}
use Rattle.cert_form.proofs.Documents.{cert_in-none, cert_in-some}
use Rattle.cert_form.proofs.read.read_cert.Goals as goal

pub returns-in-Ok-clause-ok : goal.returns-in-Ok-clause-ok
returns-in-Ok-clause-ok c = MatchResult-weaker c.read_value.result c.read_value.ensures
    (λ k h. record {
      raw = h.raw;
      is = sym (cert_in-some _ _ _ _ c.in-Ok.ensures.ok.0 c.in-Ok.ensures.ok.1) ∙ h.is;
      same = h.alike.same;
    }) (λ e h. tt)

pub returns-in-Ok-clause-fault : goal.returns-in-Ok-clause-fault
returns-in-Ok-clause-fault c = MatchResult-weaker c.read_value.result c.read_value.ensures
    (λ k h. tt) (λ e. IfFault-map e (λ f is.
    sym (cert_in-some _ _ _ _ c.in-Ok.ensures.ok.0 c.in-Ok.ensures.ok.1) ∙ is))

pub returns-in-Err-2-clause-fault : goal.returns-in-Err-2-clause-fault
returns-in-Err-2-clause-fault c =
    let not_memory : IsMemory c.in-Err-2.field-0 → ⊥ = search rules in
    cert_in-none c.args.names.now c.args.branches c.args.bytes.now
    (c.in-Err-2.ensures.err not_memory)
