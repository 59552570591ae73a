use Rattle.std.proofs.Common.{ap, ap₂, subst, ◌∙◌}
use Rattle.poly.specs.Seen.{terms_each}
use Rattle.expansion.specs.Counts.{IsCount}
use Rattle.invariant_fix.specs.Long.{lengths_told, lengths_behind}
use Rattle.invariant_fix.proofs.LongLaws.{branch_lengths}
use Rattle.invariant_fix.proofs.lengths.form_before.Goals as goal

pub returns : goal.returns
returns c =
    subst (λ ns. IsCount (lengths_behind c.args.front ns (terms_each c.args.list.now))
    c.list_before.result)
    (ap₂ lengths_told c.as_slice.ensures.value (ap terms_each c.as_slice-2.ensures.value)
    ∙ branch_lengths c.requires.branch) c.list_before.ensures
