use Rattle.eigen_split.specs.Ints.{shifted_row}
use Rattle.eigen_split.specs.WholeMultiple.{rows_in}
use Rattle.eigen_split.proofs.Squares.{rows_more}
use Rattle.eigen_split.proofs.multiple.WholeMultiple.less_candidate.Goals as goal

pub loop-i-preserved : goal.loop-i-preserved
loop-i-preserved c =
    rows_more (λ i. shifted_row c.args.self.now.denominator c.args.candidate.now.value
    (rows_in c.args.self.now) i) c.loop-i.i _ _
    c.loop-i.invariant c.in_ok-push.ensures.items c.in_ok-shifted_row.ensures
