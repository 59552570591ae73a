use Rattle.std.proofs.Common.{◌≤◌, ◌^◌, length, subst, arith}
use native.Mathlib.Nat as N
use Rattle.linear.specs.Rows.{rows_of}
use Rattle.vectors.specs.Matrices.{sum_of_column}
use Rattle.vectors.proofs.SplitDecided.{at_most_greatest}
use Rattle.eigen_split.proofs.whole.greatest_sum.Goals as goal

pub returns-in-None : goal.returns-in-None
returns-in-None c =
    let f = sum_of_column c.args.denominator (rows_of c.args.rows.now.items) in
    let past = subst (λ l. 2 ^ 127 ≤ sum_of_column c.args.denominator (rows_of l)
    c.loop-column.column) c.as_slice.ensures.value c.in-None.ensures in
    N.le_trans past (at_most_greatest (length c.args.rows.now.items) f c.loop-column.column (let l =
    c.loop-column-test.true in let e = c.len-column-end.ensures in let v =
    c.args.rows.now.ok.0 in omega (arith, l, e, v)))
