use Rattle.std.proofs.Common.{rules}
use Rattle.expo.proofs.Ratios.{lowest_fractions_have_no_error}
use Rattle.expo.proofs.powers.signed_ratio.Goals as goal

pub returns-in_default-new-clause-wide : goal.returns-in_default-new-clause-wide
returns-in_default-new-clause-wide c =
    λ e. absurd (lowest_fractions_have_no_error c.in_default-new.field-0 _ _ c.args.num c.args.den
    (search rules)
    (search rules) c.requires.den c.requires.coprime c.in-Ok-Ok.ensures.0.sfits
    c.in-Ok-Ok.ensures'.0.sfits c.in_default-new.ensures.zero.0
    c.in_default-new.ensures.wide.0)
