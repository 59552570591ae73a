use Rattle.std.proofs.Common.{◌<◌, ◌≤◌, ℕ, All, Vec, Global, length, ap, subst, ◌∙◌, rules}
use Rattle.poly.specs.Seen.{terms_each}
use Rattle.expansion.specs.Counts.{most_terms}
use Rattle.expansion.proofs.Counting.{some_is}
use Rattle.closed_forms.specs.Lengths.{class_length}
use Rattle.closed_forms.proofs.LengthLaws.{class_counted, lengths_counted, count_counted}
use Rattle.closed_forms.proofs.Mixing.{tail_all}
use Rattle.closed_forms.proofs.lengths.+first_long.Goals as goal

pub first_long-requires : goal.first_long-requires
first_long-requires t c =
    let M = terms_each c.args.images.now in
    let g = c.as_slice-group.result.now in
    let ns = c.args.sums.now.items in
    let new = c.set_lengths.new.sums.items in
    let told = some_is _ _ _ c.class_length.ensures c.in-Some-class_length.is in
    let few = subst (λ x. class_length M g x ≤ most_terms) c.as_slice.ensures.value told.1 in
    let is = class_counted M g ns new (told.0 ∙ ap (class_length M g) c.as_slice.ensures.value)
    c.at_least_one.ensures c.set_lengths.ensures in (
      search rules,
      (
        lengths_counted M g ns new few is c.requires.sums,
        (
          count_counted M g ns new is ∙ c.requires.count,
          (
            tail_all (λ (g : Vec ℕ Global). 0 < length g.items) c.in-Some.ensures.cases.0
                c.requires.some,
            tail_all (λ (g : Vec ℕ Global). All (λ i. i < length c.args.images.now) g.items)
                c.in-Some.ensures.cases.0 c.requires.inside,
          ),
        ),
      ),
    )
