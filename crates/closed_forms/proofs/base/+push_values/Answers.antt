use Rattle.std.proofs.Common.{◌∙◌, ◌∷◌, ◌++◌, ap, refl}
use Rattle.std.proofs.lemmas.Result.{on_ok_weaker}
use Rattle.linear.specs.Rows.{fractions_of}
use Rattle.closed_forms.specs.Values.{values_in}
use Rattle.closed_forms.proofs.Mixing.{nothing_behind}
use Rattle.closed_forms.proofs.Sizing.{values_more}
use Rattle.closed_forms.proofs.base.+push_values.Goals as goal

pub returns-in_default : goal.returns-in_default
returns-in_default t c = nothing_behind values_in refl _ (fractions_of c.args.out.now.items)
    c.in_default.ensures.cases

pub returns-in_ok-extend_from_slice-in-Some-first :
    goal.returns-in_ok-extend_from_slice-in-Some-first
returns-in_ok-extend_from_slice-in-Some-first t c =
    on_ok_weaker c.push_values-in-Some-first.result (values_more _ _
    (c.in-Some.ensures.cases.0 ∙ ap (λ x. x ∷ c.in-Some.splits.now) c.in-Some-first.is)
    (c.in_ok-extend_from_slice-in-Some-first.ensures.items
    ∙ ap (λ l. c.args.out.now.items ++ l) c.as_slice.ensures.value))
    c.push_values-in-Some-first.ensures
