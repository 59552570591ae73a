use Rattle.std.proofs.Common.{length, ap, ◌∙◌}
use Rattle.vectors.specs.Causes.{column}
use Rattle.eigen_split.specs.Ints.{ints_of, whole_rows}
use Rattle.eigen_split.proofs.Taking.{at_more}
use Rattle.eigen_split.proofs.levels.echelon_of.Goals as goal

pub loop-j-preserved : goal.loop-j-preserved
loop-j-preserved c =
    at_more (length c.args.rows.now.items) _ c.loop-j.j c.loop-j.echelon c.add_row.new.self
    c.loop-j.invariant (c.in_ok-column.ensures ∙ ap (λ l. column c.loop-j.j
    (whole_rows (ints_of l))) c.as_slice.ensures.value) c.in-Ok.ensures.width c.in-Ok.ensures.rows
