use Rattle.std.proofs.Common.{[], ◌∷◌, ◌++◌, ap, ◌∙◌, map}
use Rattle.loop_text.proofs.Answering.{expr_of, map_push, statement_of, between, behind}
use Rattle.loop_text.proofs.statements.OpenBranch.push_statement.Goals as goal

pub returns : goal.returns
returns c = λ n b.
    let o = c.args.self.now in
    let names = o.names.now in
    let unset = rw (c.deref.ensures.value, c.deref-2.ensures.value) at c.in_ok-unset.ensures in
    ap (λ ss. between names c.in_ok-unset.unset.items n (behind b ss))
    (ap (map statement_of) c.in_ok-push.ensures.items
    ∙ map_push statement_of o.statements.items _)
    ∙ ap (λ us. between names us n (behind b (map statement_of o.statements.items
    ++ record { targets = c.args.targets.items; values = map expr_of c.args.values.items } ∷ [])))
    unset
