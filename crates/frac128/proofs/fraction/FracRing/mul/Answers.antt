use Rattle.std.proofs.Common.{rules, ◌∙◌, refl, subst, unsigned_abs, ◌<◌, ◌^◌}
use Rattle.frac128.proofs.FracResults.{is_fraction, frac_fits, past_num, past_den, not_past, product_means}
use Rattle.frac128.proofs.WholeNumbers.{whole_product_is, whole_product_past, whole_product_fits}
use Rattle.frac128.proofs.fraction.FracRing.mul.Goals as goal

pub returns-in_err-mul-clause-wide : goal.returns-in_err-mul-clause-wide
returns-in_err-mul-clause-wide c = (
  λ _. whole_product_past _ _ _ _ c.in-Some.ensures.0 c.in-Some.ensures.1
      (c.in_err-mul.ensures.wide.0 refl),
  λ _. search rules,
)

pub returns-in-Some-clause-ok : goal.returns-in-Some-clause-ok
returns-in-Some-clause-ok c = c.whole.ensures ∙ whole_product_is _ _ _ _ _ c.in-Some.ensures.0
    c.in-Some.ensures.1 c.in_ok-mul.ensures.ok

pub returns-in-Some-clause-wide : goal.returns-in-Some-clause-wide
returns-in-Some-clause-wide c =
    let fits = whole_product_fits _ _ _ _ c.in-Some.ensures.0 c.in-Some.ensures.1 in (
      λ e. cc,
      λ past.
          absurd (fits (subst (λ z. unsigned_abs z < 2 ^ 127) c.in_ok-mul.ensures.ok
          c.in_ok-mul.field-0.in_range) past),
    )

pub returns-in-Some-short_product-clause-wide : goal.returns-in-Some-short_product-clause-wide
returns-in-Some-short_product-clause-wide c = (
  λ e. cc,
  λ past.
      absurd (frac_fits c.in-Some-short_product.product _ c.in-Some-short_product.ensures past),
)

pub returns-in_err-num-clause-wide : goal.returns-in_err-num-clause-wide
returns-in_err-num-clause-wide c =
    let means = product_means c.args.self.now c.args.other.now _ _ _ _ _ _ _ _
    c.gcd-left.ensures.value c.gcd-right.ensures.value c.over.ensures c.over-2.ensures refl refl
    refl refl in
    (λ _. past_num _ _ _ means (c.in_err-num.ensures.wide.0 refl), λ _. search rules)

pub returns-in_err-den-clause-wide : goal.returns-in_err-den-clause-wide
returns-in_err-den-clause-wide c =
    let means = product_means c.args.self.now c.args.other.now _ _ _ _ _ _ _ _
    c.gcd-left.ensures.value c.gcd-right.ensures.value c.over.ensures c.over-2.ensures
    c.over-3.ensures c.over-4.ensures refl refl in
    (λ _. past_den _ _ _ means (c.in_err-den.ensures.wide.0 refl), λ _. search rules)

pub invariant_of-result : goal.invariant_of-result
invariant_of-result c =
    let means = product_means c.args.self.now c.args.other.now _ _ _ _ _ _ _ _
    c.gcd-left.ensures.value c.gcd-right.ensures.value c.over.ensures c.over-2.ensures
    c.over-3.ensures c.over-4.ensures c.in_ok-num.ensures.ok c.in_ok-den.ensures.ok in
    record { den_low = means.low; lowest = means.lowest }

pub returns-clause-ok : goal.returns-clause-ok
returns-clause-ok c =
    let means = product_means c.args.self.now c.args.other.now _ _ _ _ _ _ _ _
    c.gcd-left.ensures.value c.gcd-right.ensures.value c.over.ensures c.over-2.ensures
    c.over-3.ensures c.over-4.ensures c.in_ok-num.ensures.ok c.in_ok-den.ensures.ok in
    is_fraction _ _ means

pub returns-clause-wide : goal.returns-clause-wide
returns-clause-wide c =
    let means = product_means c.args.self.now c.args.other.now _ _ _ _ _ _ _ _
    c.gcd-left.ensures.value c.gcd-right.ensures.value c.over.ensures c.over-2.ensures
    c.over-3.ensures c.over-4.ensures c.in_ok-num.ensures.ok c.in_ok-den.ensures.ok in (
      λ e. cc,
      λ past. absurd (not_past _ _ _ means c.in_ok-num.num.in_range c.in_ok-den.den.in_range
          past),
    )
