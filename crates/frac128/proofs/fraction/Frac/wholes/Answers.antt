use Rattle.std.proofs.Common.{◌≡◌, rules}
use Rattle.algebra.specs.Ratio.{ratio}
use Rattle.frac128.specs.FracMeaning.{frac_meaning}
use Rattle.frac128.proofs.FracResults.{whole_at}
use Rattle.frac128.proofs.fraction.Frac.wholes.Goals as goal

pub returns-then-other-eq1 : goal.returns-then-other-eq1
returns-then-other-eq1 c =
    let x = c.args.self.now in
    let y = c.args.other.now in
    let left : frac_meaning x ≡ ratio x.num.value 1 = search rules in
    let right : frac_meaning y ≡ ratio y.num.value 1 = search rules in
    (whole_at x.num.value x left, whole_at y.num.value y right)
