use Rattle.std.proofs.Common.{length, sym, ap, subst}
use Rattle.closed_forms.specs.Lengths.{AreLengths}
use Rattle.closed_forms.proofs.LengthLaws.{ones, classes_some}
use Rattle.closed_forms.proofs.Splitting.{groups_inside}
use Rattle.closed_forms.proofs.lengths.long_class.Goals as goal

pub first_long-requires-clause-sums : goal.first_long-requires-clause-sums
first_long-requires-clause-sums c =
    subst AreLengths (sym (c.in_ok-sums.ensures.items_if_clones_equal (λ y h. h)))
    (ones c.len.result).2

pub first_long-requires-clause-some : goal.first_long-requires-clause-some
first_long-requires-clause-some c =
    classes_some _ c.args.groups.now c.requires

pub first_long-requires-clause-inside : goal.first_long-requires-clause-inside
first_long-requires-clause-inside c =
    groups_inside _ _ (sym (ap length c.as_slice.ensures.value)) c.requires
