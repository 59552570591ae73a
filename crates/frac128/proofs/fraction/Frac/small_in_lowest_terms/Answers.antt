use Rattle.std.proofs.Common.{SFits, ◌∙◌, rules}
use mir.Syntax.{w64}
use Rattle.std.proofs.lemmas.Int.{to_z-of_z}
use Rattle.frac128.specs.Sums.{over}
use Rattle.frac128.proofs.FracResults.{Means, means_fraction}
use Rattle.frac128.proofs.ShortResults.{lowered_means}
use Rattle.frac128.proofs.fraction.Frac.small_in_lowest_terms.Goals.{After-quotient-2}
use Rattle.frac128.proofs.fraction.Frac.small_in_lowest_terms.Goals as goal

lowest : (c : After-quotient-2) → Means c.quotient.result c.quotient-2.result
    (over c.args.num c.args.den).ratio
lowest c =
    let num : SFits w64 c.args.num = search rules in
    let den : SFits w64 c.args.den = search rules in
    let common : SFits w64 c.divisor-common.result = search rules in
    lowered_means c.args.num c.args.den _ _ _ c.requires
    (simp to_z-of_z at c.divisor-common.ensures.value) (simp to_z-of_z at c.quotient.ensures)
    (simp to_z-of_z at c.quotient-2.ensures)

pub coprime-requires-clause-low : goal.coprime-requires-clause-low
coprime-requires-clause-low c =
    let bottom : SFits w64 c.quotient-2.result = search rules in
    simp to_z-of_z (lowest (goal.at.coprime-requires-clause-low c).After-quotient-2).low

pub coprime-requires-clause-lowest : goal.coprime-requires-clause-lowest
coprime-requires-clause-lowest c =
    let top : SFits w64 c.quotient.result = search rules in
    let bottom : SFits w64 c.quotient-2.result = search rules in
    simp to_z-of_z (lowest (goal.at.coprime-requires-clause-lowest c).After-quotient-2).lowest

pub returns : goal.returns
returns c =
    let top : SFits w64 c.quotient.result = search rules in
    let bottom : SFits w64 c.quotient-2.result = search rules in
    simp to_z-of_z at c.coprime.ensures
    ∙ means_fraction _ _ _ (lowest (goal.at.returns c).After-quotient-2)
