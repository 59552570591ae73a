use Rattle.std.proofs.Common.{◌≤ℤ◌, ◌<ℤ◌, pos, arith}
use borrow.Author.Differences.{ints}
use Rattle.frac128.specs.FracMeaning.{fraction_of}
use Rattle.closed_forms.proofs.Bounding.{opposite_positive, own_positive, back_again}
use Rattle.closed_forms.proofs.powers.sign_and_size.Goals as goal

pub returns-then-num-lt0-clause-positive : goal.returns-then-num-lt0-clause-positive
returns-then-num-lt0-clause-positive c =
    let low : (fraction_of c.args.value.now).num <ℤ pos 0 = omega (
      arith,
      ints,
      c.num.ensures,
      c.if-num-lt0.true,
    ) in
    opposite_positive (fraction_of c.args.value.now) _ low c.neg.ensures

pub returns-then-num-lt0-clause-value : goal.returns-then-num-lt0-clause-value
returns-then-num-lt0-clause-value c = back_again (fraction_of c.args.value.now) _ c.neg.ensures

pub returns-else-num-lt0-clause-positive : goal.returns-else-num-lt0-clause-positive
returns-else-num-lt0-clause-positive c =
    let high : pos 0 ≤ℤ (fraction_of c.args.value.now).num = omega (
      arith,
      ints,
      c.num.ensures,
      c.if-num-lt0.false,
    ) in
    own_positive (fraction_of c.args.value.now) c.requires high
