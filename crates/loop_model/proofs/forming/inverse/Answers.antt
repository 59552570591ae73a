use Rattle.std.proofs.Common.{pos, sym, ap, ◌∙◌}
use Rattle.algebra.specs.Fraction.{inverse}
use Rattle.algebra.proofs.Wholes.{whole_injective}
use Rattle.loop_model.proofs.forming.inverse.Goals as goal

pub reciprocal-requires : goal.reciprocal-requires
reciprocal-requires c =
    λ e. c.requires (whole_injective c.args.value.now.value (pos 0) (sym c.whole.ensures ∙ e))

pub returns : goal.returns
returns c = c.reciprocal.ensures ∙ ap inverse c.whole.ensures
