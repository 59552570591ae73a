use Rattle.std.proofs.Common.{◌≡◌, ◌∙◌, string_bytes, append_assoc, subst}
use Rattle.std.specs.Result.{IfOk}
use Rattle.std.proofs.lemmas.Result.{IfOk-weaker}
use Rattle.loop_text.specs.Family.{Counts, summary}
use Rattle.loop_text.proofs.family_counts.Counts.summary.Goals as goal

pub returns : goal.returns
returns c =
    let counted : Counts = record {
      loops = c.self.inside.loops;
      elements = c.self.inside.elements;
      degree = c.self.inside.degree;
    } in
    subst (λ v. IfOk c.format.result (λ x. string_bytes x ≡ summary v)) {x = counted} c.self.view_is
    (IfOk-weaker c.format.result (λ x. string_bytes x ≡ _) (λ x. string_bytes x ≡ summary counted)
    (λ x is. is ∙ simp append_assoc) c.format.ensures.ok)
