use Rattle.std.proofs.Common.{◌<◌, ◌^◌, subst, sym}
use Rattle.algebra.proofs.Fractions.{some}
use Rattle.frac128.specs.FracMeaning.{fraction_of}
use Rattle.linear.specs.Rows.{fractions_of}
use Rattle.vectors.specs.Matrices.{row_denominator}
use Rattle.eigen_split.specs.Fitting.{Fitting}
use Rattle.eigen_split.proofs.Reading.{den_small}
use Rattle.vectors.proofs.SplitDecided.{row_some}
use Rattle.eigen_split.proofs.whole.+row_denominator.Goals as goal

pub returns : goal.returns
returns t c =
    subst (λ l. Fitting c.least_multiple.result (row_denominator (fractions_of l)))
    (sym c.in-Some.ensures.cases.0)
    (c.least_multiple.ensures (fraction_of c.in-Some.first.now).den
    (row_denominator (fractions_of c.in-Some.rest.now))
    (some (fraction_of c.in-Some.first.now)) (row_some (fractions_of c.in-Some.rest.now)) (
      c.den_of.ensures,
      subst (λ m. m < 2 ^ 127) (sym c.den_of.ensures)
          (den_small c.in-Some.first.now),
    ) c.row_denominator.ensures)
