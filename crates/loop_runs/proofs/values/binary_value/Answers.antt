use Rattle.std.proofs.Common.{sym, ap, ◌∙◌}
use Rattle.algebra.specs.Fraction.{ℚ}
use Rattle.frac128.specs.FracMeaning.{fraction_of}
use Rattle.loop_runs.specs.Checked.{binary_value}
use Rattle.loop_runs.proofs.Operations.{sum_is, product_is}
use Rattle.loop_runs.proofs.values.binary_value.Goals as goal

pub returns-in-Add : goal.returns-in-Add
returns-in-Add c =
    let p = fraction_of c.args.left.now in
    let q = fraction_of c.args.right.now in
    sum_is c.add.result p q c.add.ensures.ok c.add.ensures.wide
    ∙ ap (λ o. binary_value o p q) (sym c.in-Add.is)

pub returns-in-Sub : goal.returns-in-Sub
returns-in-Sub c =
    let p = fraction_of c.args.left.now in
    let q = fraction_of c.args.right.now in
    sum_is c.sub.result p (ℚ.neg q) c.sub.ensures.ok c.sub.ensures.wide
    ∙ ap (λ o. binary_value o p q) (sym c.in-Sub.is)

pub returns-in-Mul : goal.returns-in-Mul
returns-in-Mul c =
    let p = fraction_of c.args.left.now in
    let q = fraction_of c.args.right.now in
    product_is c.mul.result p q c.mul.ensures.ok c.mul.ensures.wide
    ∙ ap (λ o. binary_value o p q) (sym c.in-Mul.is)
