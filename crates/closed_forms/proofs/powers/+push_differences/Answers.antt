use Rattle.std.proofs.Common.{inl, inr, rules, SFits}
use Rattle.std.proofs.lemmas.Result.{on_ok_weaker}
use Rattle.std.proofs.lemmas.Int.{to_z-of_z}
use mir.Syntax.{w32}
use Rattle.closed_forms.proofs.Joining.{differences_none, differences_next}
use Rattle.closed_forms.proofs.powers.+push_differences.Goals as goal

pub returns-in_default : goal.returns-in_default
returns-in_default t c = differences_none _ _ c.args.out.now.items
    (inr c.in_default.ensures'.cases)

pub returns-in_default-2 : goal.returns-in_default-2
returns-in_default-2 t c = differences_none _ _ c.args.out.now.items
    (inl c.in_default.ensures.cases)

pub returns : goal.returns
returns t c =
    let fits : SFits w32 c.difference.result = search rules in
    let pushed = simp to_z-of_z at c.in_ok-push.ensures.items in
    on_ok_weaker c.push_differences.result (λ h. differences_next _
    c.push_differences.new.out.items c.in-Some-Some.ensures.cases.0 c.in-Some-Some.ensures'.cases.0
    c.difference.ensures pushed h) c.push_differences.ensures
