use Rattle.std.proofs.Common.{rules, ◌∙◌, ◌≡◌, ◌≢◌, pos, sym}
use Rattle.algebra.specs.Fraction.{whole}
use Rattle.algebra.proofs.Wholes.{whole_injective}
use Rattle.frac128.specs.FracMeaning.{fraction_of}
use Rattle.frac128.proofs.fraction.FracRing.unit.Goals as goal

pub reciprocal-requires : goal.reciprocal-requires
reciprocal-requires c =
    let some : c.args.value ≢ pos 0 = search rules in
    let is : fraction_of c.whole-whole.result ≡ whole c.args.value = search rules in
    λ e. some (whole_injective c.args.value (pos 0) (sym is ∙ e))
