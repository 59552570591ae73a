use Rattle.std.proofs.Common.{◌≡◌, ◌∙◌, string_bytes, append_assoc}
use Rattle.std.proofs.lemmas.Result.{IfOk-weaker}
use Rattle.loop_text.proofs.family.loop_text.Goals as goal

pub returns : goal.returns
returns c = IfOk-weaker c.format.result (λ x. string_bytes x ≡ _) (λ x. string_bytes x ≡ _) (λ x is.
    is ∙ simp append_assoc) c.format.ensures.ok
