use Rattle.std.proofs.Common.{◌≡◌, ◌∷◌, ◌++◌, [], ap, ◌∙◌}
use Rattle.std.proofs.lemmas.Result.{IfOk-weaker}
use Rattle.closing.proofs.Lists.{joined_alike, joined_arity, joined_nonzero}
use Rattle.closing.proofs.tasks.extended_list.Goals.{After-deref}
use Rattle.closing.proofs.tasks.extended_list.Goals as goal

joined_is : (c : After-deref) → c.deref.result.now ≡ c.in_ok-copy.field-0 ∷ []
joined_is c =
    c.deref.ensures.value ∙ c.in_ok-push.ensures.items
    ∙ ap (λ xs. xs ++ c.in_ok-copy.field-0 ∷ []) c.new-joined.ensures.items

pub sum-requires-clause-alike : goal.sum-requires-clause-alike
sum-requires-clause-alike c =
    let at = (goal.at.sum-requires-clause-alike c).After-deref in
    joined_alike c.args.rest.now.arity c.args.list.now c.deref.result.now c.in_ok-copy.field-0
    (joined_is at) c.in_ok-copy.ensures.arity c.requires.alike

pub returns-clause-arity : goal.returns-clause-arity
returns-clause-arity c =
    let at = (goal.at.returns-clause-arity c).After-deref in
    IfOk-weaker c.sum.result _ _
    (λ gs h. joined_arity c.args.rest.now.arity c.args.list.now c.deref.result.now
    c.in_ok-copy.field-0 (joined_is at) c.in_ok-copy.ensures.arity c.requires.alike gs.items h)
    c.sum.ensures.sum

pub returns-clause-nonzero : goal.returns-clause-nonzero
returns-clause-nonzero c =
    let at = (goal.at.returns-clause-nonzero c).After-deref in
    IfOk-weaker c.sum.result _ _
    (λ gs h. joined_nonzero c.args.rest.now.arity c.args.list.now c.deref.result.now
    c.in_ok-copy.field-0 (joined_is at) c.in_ok-copy.ensures.arity c.requires.alike gs.items h)
    c.sum.ensures.sum
