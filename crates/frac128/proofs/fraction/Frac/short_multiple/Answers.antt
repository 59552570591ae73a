use Rattle.std.proofs.Common.{SFits, ◌∙◌, ap, rules}
use mir.Syntax.{w64}
use mir.Val.{to_z}
use Rattle.std.proofs.lemmas.Int.{to_z-of_z}
use Rattle.algebra.specs.Fraction.{product}
use Rattle.frac128.specs.FracMeaning.{fraction_of}
use Rattle.frac128.proofs.FracResults.{Means, means_fraction}
use Rattle.frac128.proofs.ShortResults.{short_multiple_means, one_multiple}
use Rattle.frac128.proofs.fraction.Frac.short_multiple.Goals.{After-quotient-2}
use Rattle.frac128.proofs.fraction.Frac.short_multiple.Goals as goal

lowest : (c : After-quotient-2) → Means c.in_ok-top.top c.quotient-2.result
    (product (fraction_of c.args.self.now) (fraction_of c.args.factor.now)).ratio
lowest c =
    let num : SFits w64 c.in_ok-num.num = search rules in
    let den : SFits w64 c.in_ok-num.den = search rules in
    let number : SFits w64 c.in_ok-number.number = search rules in
    let common : SFits w64 c.divisor-common.result = search rules in
    let part : SFits w64 c.quotient.result = search rules in
    let top : SFits w64 c.in_ok-top.top = search rules in
    short_multiple_means c.args.self.now c.args.factor.now _ _ _ _ _ _ _ c.requires
    c.in_ok-num.ensures.0 c.in_ok-num.ensures.1 c.in_ok-number.ensures.0
    (simp to_z-of_z at c.divisor-common.ensures.value) (simp to_z-of_z at c.quotient.ensures)
    (simp to_z-of_z at c.quotient-2.ensures) (simp to_z-of_z at c.in_ok-top.ensures.1)

pub coprime-requires-clause-low : goal.coprime-requires-clause-low
coprime-requires-clause-low c =
    let bottom : SFits w64 c.quotient-2.result = search rules in
    simp to_z-of_z (lowest (goal.at.coprime-requires-clause-low c).After-quotient-2).low

pub coprime-requires-clause-lowest : goal.coprime-requires-clause-lowest
coprime-requires-clause-lowest c =
    let top : SFits w64 c.in_ok-top.top = search rules in
    let bottom : SFits w64 c.quotient-2.result = search rules in
    simp to_z-of_z (lowest (goal.at.coprime-requires-clause-lowest c).After-quotient-2).lowest

pub returns : goal.returns
returns c =
    let top : SFits w64 c.in_ok-top.top = search rules in
    let bottom : SFits w64 c.quotient-2.result = search rules in
    simp to_z-of_z at c.coprime.ensures
    ∙ means_fraction _ _ _ (lowest (goal.at.returns c).After-quotient-2)

pub returns-then-number-eq1 : goal.returns-then-number-eq1
returns-then-number-eq1 c =
    let number : SFits w64 c.in_ok-number.number = search rules in
    one_multiple c.args.self.now c.args.factor.now _ c.requires c.in_ok-number.ensures.0
    (simp to_z-of_z at (ap (to_z w64) c.if-number-eq1.true))
