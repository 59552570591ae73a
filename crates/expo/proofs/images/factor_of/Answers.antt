use Rattle.std.proofs.Common.{unsigned_abs, sym, ap, ◌∙◌}
use Rattle.algebra.specs.Fraction.{inverse}
use Rattle.expo.specs.Images.{factor}
use Rattle.expo.proofs.Binomials.{some_natural}
use Rattle.expo.proofs.images.factor_of.Goals as goal

pub reciprocal-requires : goal.reciprocal-requires
reciprocal-requires c = some_natural _ _ c.requires c.size_of-size.ensures

pub returns-then-inverted : goal.returns-then-inverted
returns-then-inverted c = c.reciprocal.ensures ∙ ap inverse c.size_of-size.ensures
    ∙ ap (λ b. factor b (unsigned_abs c.args.number.now.value)) (sym c.if-inverted.true)

pub returns-else-inverted : goal.returns-else-inverted
returns-else-inverted c = c.size_of-size.ensures
    ∙ ap (λ b. factor b (unsigned_abs c.args.number.now.value)) (sym c.if-inverted.false)
