use Rattle.std.proofs.Common.{sym, ◌∙◌, rules}
use Rattle.std.proofs.lemmas.Result.{MatchResult-weaker}
use Rattle.serde_json.specs.Errors.{IsMemory}
use Rattle.loop_model.specs.View.{program_of}
use Rattle.cert_form.proofs.Each.{IfFault-map}
use Rattle.task_lists.specs.View.{full_of}
use Rattle.full_cert.proofs.Counted.{counted_in}
use Rattle.full_cert.proofs.Documents.{full_in-none, full_in-some}
use Rattle.full_cert.proofs.read.read_full.Goals as goal

pub returns-in-Ok-clause-ok : goal.returns-in-Ok-clause-ok
returns-in-Ok-clause-ok c = MatchResult-weaker c.read_value.result c.read_value.ensures.reads
    (λ cert h. sym (full_in-some _ _ _ c.in-Ok.ensures.ok.0 c.in-Ok.ensures.ok.1) ∙ h) (λ e h. tt)

pub returns-in-Ok-clause-counted : goal.returns-in-Ok-clause-counted
returns-in-Ok-clause-counted c =
    MatchResult-weaker c.read_value.result c.read_value.ensures.reads (λ cert h.
    counted_in (program_of c.args.lp.now) c.args.bytes.now (full_of cert)
    (sym (full_in-some _ _ _ c.in-Ok.ensures.ok.0 c.in-Ok.ensures.ok.1) ∙ h)) (λ e h. tt)

pub returns-in-Ok-clause-fault : goal.returns-in-Ok-clause-fault
returns-in-Ok-clause-fault c =
    MatchResult-weaker c.read_value.result c.read_value.ensures.reads (λ cert h. tt) (λ e.
    IfFault-map e (λ f h. sym (full_in-some _ _ _ c.in-Ok.ensures.ok.0 c.in-Ok.ensures.ok.1) ∙ h))

pub returns-in-Err-2-clause-fault : goal.returns-in-Err-2-clause-fault
returns-in-Err-2-clause-fault c =
    let not_memory : IsMemory c.in-Err-2.field-0 → ⊥ = search rules in
    full_in-none (program_of c.args.lp.now) c.args.bytes.now (c.in-Err-2.ensures.err not_memory)
