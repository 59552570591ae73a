use Rattle.std.proofs.Common.{◌≡◌, ◌<◌, ap, subst, ◌∙◌}
use Rattle.poly.specs.Seen.{terms_each}
use Rattle.expansion.specs.Counts.{most_terms}
use Rattle.expansion.proofs.Counting.{none_above, some_is}
use Rattle.invariant_fix.specs.Long.{form_lengths, lengths_behind}
use Rattle.invariant_fix.specs.Orbits.{vars_of}
use Rattle.invariant_fix.specs.Setting.{form_of}
use Rattle.invariant_fix.proofs.LongLaws.{before_long, map_long, iteration_sum}
use Rattle.invariant_fix.proofs.lengths.iteration_length.Goals as goal
use Rattle.invariant_fix.proofs.lengths.iteration_length.Goals.{After-form_before-2}

map_is : (c : After-form_before-2)
    → lengths_behind 0 (form_lengths (form_of c.args.branch.now.form) (vars_of c.args.branch.now))
    (terms_each c.as_slice.result.now)
    ≡ lengths_behind 0 (form_lengths (form_of c.args.branch.now.form) (vars_of c.args.branch.now))
    (terms_each c.args.branch.now.images.items)
map_is c =
    let b = c.args.branch.now in
    ap (λ ps. lengths_behind 0 (form_lengths (form_of b.form) (vars_of b)) (terms_each ps))
    c.as_slice.ensures.value

pub returns-in_default : goal.returns-in_default
returns-in_default c =
    let b = c.args.branch.now in
    before_long (form_of b.form) _ _ _ (none_above _ _ c.form_before.ensures c.in_default.not-Some)

pub returns-in_default-form_before : goal.returns-in_default-form_before
returns-in_default-form_before c =
    let b = c.args.branch.now in
    map_long (form_of b.form) _ _ _ (subst (λ n. most_terms < n)
    (map_is (goal.at.returns-in_default-form_before c).After-form_before-2)
    (none_above _ _ c.form_before-2.ensures c.in_default-form_before.not-Some))

pub returns : goal.returns
returns c =
    let b = c.args.branch.now in
    let left = some_is _ _ _ c.form_before.ensures c.in-Some.is in
    let right = some_is _ _ _ c.form_before-2.ensures c.in-Some-form_before.is in
    iteration_sum (form_of b.form) _ _ _ c.sum.result
    left.0 (right.0 ∙ map_is (goal.at.returns c).After-form_before-2) c.sum.ensures
