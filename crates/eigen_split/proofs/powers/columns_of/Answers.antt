use Rattle.std.proofs.Common.{ap, ◌∙◌}
use Rattle.eigen_split.specs.Ints.{ints_of, int_column}
use Rattle.eigen_split.proofs.Squares.{rows_more}
use Rattle.eigen_split.proofs.powers.columns_of.Goals as goal

pub loop-j-preserved : goal.loop-j-preserved
loop-j-preserved c =
    rows_more (λ j. int_column j (ints_of c.args.rows.now.items)) c.loop-j.j _ _
    c.loop-j.invariant c.in_ok-push.ensures.items (c.in_ok-int_column.ensures
    ∙ ap (λ l. int_column c.loop-j.j (ints_of l)) c.as_slice.ensures.value)
