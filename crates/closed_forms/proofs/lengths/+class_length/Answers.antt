use Rattle.std.proofs.Common.{◌<◌, length, sym, ap, subst, ◌∙◌, rules}
use Rattle.frac128.specs.FracMeaning.{fraction_of}
use Rattle.poly.specs.View.{terms_of}
use Rattle.expansion.specs.Counts.{most_terms}
use Rattle.expansion.proofs.Counting.{none_above, some_is}
use Rattle.solvable.proofs.Using.{poly_at-is}
use Rattle.closed_forms.specs.Lengths.{sum_length}
use Rattle.closed_forms.proofs.LengthLaws.{none_of_class, class_more, class_past_rest, class_past_own}
use Rattle.closed_forms.proofs.Mixing.{head_all, tail_all}
use Rattle.closed_forms.proofs.lengths.+class_length.Goals as goal

pub returns-in_default : goal.returns-in_default
returns-in_default t c = none_of_class _ _
    c.args.sums.now c.in_default.ensures.cases

pub class_length-requires : goal.class_length-requires
class_length-requires t c = (
  search rules,
  (
    tail_all (λ i. i < length c.args.images.now) c.in-Some.ensures.cases.0 c.requires.inside,
    c.requires.sums,
  ),
)

pub returns-in_default-class_length : goal.returns-in_default-class_length
returns-in_default-class_length t c =
    class_past_rest _ c.args.sums.now c.in-Some.ensures.cases.0 (none_above _ _
    c.class_length.ensures c.in_default-class_length.not-Some)

pub returns-in_default-sum_length : goal.returns-in_default-sum_length
returns-in_default-sum_length t c =
    let low = head_all (λ i. i < length c.args.images.now) c.in-Some.ensures.cases.0
    c.requires.inside in
    class_past_own _ c.args.sums.now
    c.in-Some.ensures.cases.0 (sym (poly_at-is _ _ _ low c.index-images-variable.is)) (subst (λ ts.
    most_terms < sum_length (terms_of fraction_of ts) c.args.sums.now)
    (c.deref.ensures.value ∙ ap (λ v. v.items) c.terms.ensures) (none_above _ _ c.sum_length.ensures
    c.in_default-sum_length.not-Some))

pub returns : goal.returns
returns t c =
    let low = head_all (λ i. i < length c.args.images.now) c.in-Some.ensures.cases.0
    c.requires.inside in
    let rest = some_is _ _ _ c.class_length.ensures c.in-Some-class_length.is in
    let own = some_is _ _ _ c.sum_length.ensures c.in-Some-sum_length.is in
    class_more _ c.args.group.now c.args.sums.now c.sum.result c.in-Some.ensures.cases.0
    (sym (poly_at-is _ _ _ low c.index-images-variable.is)) (own.0 ∙ ap (λ ts. sum_length
    (terms_of fraction_of ts) c.args.sums.now)
    (c.deref.ensures.value ∙ ap (λ v. v.items) c.terms.ensures)) rest.0 c.sum.ensures
