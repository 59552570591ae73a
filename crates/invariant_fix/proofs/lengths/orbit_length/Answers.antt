use Rattle.std.proofs.Common.{◌≡◌, ◌<◌, length, sym, ap, ap₂, subst, ◌∙◌, rules}
use Rattle.std.proofs.lemmas.List.{length-map}
use Rattle.poly.specs.Seen.{terms_each}
use Rattle.rounds.specs.Form.{front, inverse_of_form}
use Rattle.expansion.specs.Counts.{most_terms, IsCount}
use Rattle.expansion.specs.Lengths.{list_length}
use Rattle.expansion.proofs.Counting.{none_above, some_is}
use Rattle.invariant_fix.specs.Long.{form_lengths, lengths_behind}
use Rattle.invariant_fix.specs.Orbits.{vars_of}
use Rattle.invariant_fix.specs.Setting.{form_of}
use Rattle.invariant_fix.proofs.LongLaws.{orbit_whole, elements_long, form_long, late_length}
use Rattle.invariant_fix.proofs.lengths.orbit_length.Goals as goal
use Rattle.invariant_fix.proofs.lengths.orbit_length.Goals.{After-form_before-2}

form_is : (c : After-form_before-2)
    → lengths_behind c.front.result (form_lengths (form_of c.args.branch.now.form)
    (vars_of c.args.branch.now)) (terms_each c.as_slice-back.result.now)
    ≡ lengths_behind (front (length (form_of c.args.branch.now.form).base))
    (form_lengths (form_of c.args.branch.now.form) (vars_of c.args.branch.now))
    (inverse_of_form (form_of c.args.branch.now.form))
form_is c =
    let b = c.args.branch.now in
    ap₂ (λ k ps. lengths_behind k (form_lengths (form_of b.form) (vars_of b)) ps)
    (c.front.ensures ∙ ap front (c.len.ensures ∙ b.form.base.ok.0)
    ∙ ap front (sym (length-map b.form.base.items _)))
    (ap terms_each c.as_slice-back.ensures.value ∙ c.requires.branch.back)

pub returns-then-branch-eq0 : goal.returns-then-branch-eq0
returns-then-branch-eq0 c =
    let b = c.args.branch.now in
    let at_once : b.form.since ≡ 0 = search rules in
    subst (λ n. IsCount n c.list_length.result)
    (ap (list_length (terms_each c.args.basis.now))
    (ap terms_each c.as_slice-back.ensures.value ∙ c.requires.branch.back)
    ∙ orbit_whole b.form.since (form_of b.form) (vars_of b) (terms_each c.args.basis.now) at_once)
    c.list_length.ensures

pub returns-in_default : goal.returns-in_default
returns-in_default c =
    let b = c.args.branch.now in
    let late : ¬ (b.form.since ≡ 0) = search rules in
    elements_long _ (form_of b.form) _ _ late
    (none_above _ _ c.form_before.ensures c.in_default.not-Some)

pub returns-in_default-form_before : goal.returns-in_default-form_before
returns-in_default-form_before c =
    let b = c.args.branch.now in
    let late : ¬ (b.form.since ≡ 0) = search rules in
    form_long _ (form_of b.form) _ _ late (subst (λ n. most_terms < n)
    (form_is (goal.at.returns-in_default-form_before c).After-form_before-2)
    (none_above _ _ c.form_before-2.ensures c.in_default-form_before.not-Some))

pub returns : goal.returns
returns c =
    let b = c.args.branch.now in
    let late : ¬ (b.form.since ≡ 0) = search rules in
    let left = some_is _ _ _ c.form_before.ensures c.in-Some.is in
    let right = some_is _ _ _ c.form_before-2.ensures c.in-Some-form_before.is in
    late_length _ (form_of b.form) _ _ late c.sum.result left.0
    (right.0 ∙ form_is (goal.at.returns c).After-form_before-2) c.sum.ensures
