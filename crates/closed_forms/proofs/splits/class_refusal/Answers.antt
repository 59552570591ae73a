use Rattle.std.proofs.Common.{◌≡◌, rules, refl, subst, ◌∙◌}
use mir.Syntax.{w128}
use mir.Val.{to_z, of_z}
use Rattle.closed_forms.specs.Splits.{IfRefusedMatrix}
use Rattle.closed_forms.proofs.splits.class_refusal.Goals as goal

pub returns-in-Range : goal.returns-in-Range
returns-in-Range c = λ images h.
    let sum : to_z w128 (of_z w128 c.in-Range.sum) ≡ c.in-Range.sum = search rules in
    let k = subst (IfRefusedMatrix images c.args.class.items) c.in-Range.is h in
    (refl, (k.0, sum ∙ k.1, k.2, k.3))
