use Rattle.std.proofs.Common.{◌+ℤ◌, neg_ℤ, ap₂, ◌∙◌}
use Rattle.eigen_split.specs.Ints.{shifted_entry}
use Rattle.eigen_split.specs.WholeMultiple.{rows_in}
use Rattle.eigen_split.proofs.Squares.{ints_more}
use Rattle.eigen_split.proofs.multiple.WholeMultiple.shifted_row.Goals as goal

pub loop-j-preserved : goal.loop-j-preserved
loop-j-preserved c =
    ints_more (λ j. shifted_entry c.args.self.now.denominator c.args.candidate.now.value
    (rows_in c.args.self.now) c.args.i j) c.loop-j.j c.loop-j.out.items
    c.push.new.self.items c.less.result
    c.loop-j.invariant c.in_ok-push.ensures.items (c.less.ensures
    ∙ ap₂ (λ a b. a +ℤ neg_ℤ b) c.entry.ensures.is c.shift.ensures)
