use Rattle.std.proofs.Common.{subst, sym}
use Rattle.linear.specs.Rows.{fractions_of, rows_of}
use Rattle.vectors.specs.Matrices.{row_denominator, denominator}
use Rattle.vectors.proofs.SplitDecided.{denominator_some}
use Rattle.eigen_split.specs.Fitting.{Fitting}
use Rattle.vectors.proofs.SplitDecided.{row_some}
use Rattle.eigen_split.proofs.whole.+denominator_of.Goals as goal

pub returns : goal.returns
returns t c =
    subst (λ l. Fitting c.least_multiple.result (denominator (rows_of l)))
    (sym c.in-Some.ensures.cases.0)
    (c.least_multiple.ensures (row_denominator (fractions_of c.in-Some.first.now.items))
    (denominator (rows_of c.in-Some.rest.now))
    (row_some (fractions_of c.in-Some.first.now.items))
    (denominator_some (rows_of c.in-Some.rest.now))
    (subst (λ l. Fitting c.row_denominator.result (row_denominator (fractions_of l)))
    c.as_slice.ensures.value c.row_denominator.ensures) c.denominator_of.ensures)
