use Rattle.std.proofs.Common.{◌∙◌, ap, refl, true, false}
use Rattle.coprime_base.specs.Sizes.{sizes}
use Rattle.expo.specs.Powers.{side_product}
use Rattle.expo.proofs.Ratios.{above_past, below_past, made_coprime, made_some, made_number, made_past}
use Rattle.expo.proofs.powers.Power.evaluate.Goals as goal

pub returns-in_err-num-clause-wide : goal.returns-in_err-num-clause-wide
returns-in_err-num-clause-wide c =
    let p = c.args.self.now in
    λ e. above_past (sizes c.args.base.now) c.requires.base p.exponents.items _ p.negative
    c.deref.ensures.value (c.in_err-num.ensures.wide refl)

pub returns-in_err-den-clause-wide : goal.returns-in_err-den-clause-wide
returns-in_err-den-clause-wide c =
    let p = c.args.self.now in
    λ e. below_past (sizes c.args.base.now) c.requires.base p.exponents.items _ p.negative
    c.deref-2.ensures.value (c.in_err-den.ensures.wide refl)

pub signed_ratio-requires-clause-den : goal.signed_ratio-requires-clause-den
signed_ratio-requires-clause-den c =
    let bs = sizes c.args.base.now in
    made_some bs c.requires.base c.args.self.now.exponents.items c.in_ok-num.num c.in_ok-den.den
    (c.in_ok-num.ensures.product ∙ ap (side_product bs false) c.deref.ensures.value)
    (c.in_ok-den.ensures.product ∙ ap (side_product bs true) c.deref-2.ensures.value)

pub signed_ratio-requires-clause-coprime : goal.signed_ratio-requires-clause-coprime
signed_ratio-requires-clause-coprime c =
    let bs = sizes c.args.base.now in
    made_coprime bs c.requires.base c.args.self.now.exponents.items c.in_ok-num.num c.in_ok-den.den
    (c.in_ok-num.ensures.product ∙ ap (side_product bs false) c.deref.ensures.value)
    (c.in_ok-den.ensures.product ∙ ap (side_product bs true) c.deref-2.ensures.value)

pub returns-in_err-number-clause-wide : goal.returns-in_err-number-clause-wide
returns-in_err-number-clause-wide c =
    let bs = sizes c.args.base.now in
    let p = c.args.self.now in
    λ e. made_past bs c.requires.base p.exponents.items c.in_ok-num.num c.in_ok-den.den
    (c.in_ok-num.ensures.product ∙ ap (side_product bs false) c.deref.ensures.value)
    (c.in_ok-den.ensures.product ∙ ap (side_product bs true) c.deref-2.ensures.value)
    p.negative (c.in_err-number.ensures.wide refl)

pub returns-clause-number : goal.returns-clause-number
returns-clause-number c =
    let bs = sizes c.args.base.now in
    let p = c.args.self.now in
    made_number bs c.requires.base p.exponents.items c.in_ok-num.num c.in_ok-den.den
    (c.in_ok-num.ensures.product ∙ ap (side_product bs false) c.deref.ensures.value)
    (c.in_ok-den.ensures.product ∙ ap (side_product bs true) c.deref-2.ensures.value)
    p.negative _ c.in_ok-number.ensures.ok
