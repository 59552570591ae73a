use Rattle.std.proofs.Common.{rules, refl, sym, subst, ◌≤◌, ◌^◌}
use Rattle.frac128.proofs.FracResults.{is_fraction, reduced_means, past_num, past_den, not_past, abs-signed}
use Rattle.frac128.proofs.fraction.Frac.in_lowest_terms.Goals as goal

pub returns-in_err-num-clause-wide : goal.returns-in_err-num-clause-wide
returns-in_err-num-clause-wide c =
    let means = reduced_means c.args.negative c.args.size c.args.den c.common_divisor-common.result
    _ _ c.requires c.common_divisor-common.ensures.value refl refl in (
      λ _. past_num _ _ _ means (subst (λ n. 2 ^ 127 ≤ n) (sym (abs-signed c.args.negative _))
          (c.in_err-num.ensures.wide.0 refl)),
      λ _. search rules,
    )

pub returns-in_err-den-clause-wide : goal.returns-in_err-den-clause-wide
returns-in_err-den-clause-wide c =
    let means = reduced_means c.args.negative c.args.size c.args.den c.common_divisor-common.result
    _ _ c.requires c.common_divisor-common.ensures.value refl refl in
    (λ _. past_den _ _ _ means (c.in_err-den.ensures.wide.0 refl), λ _. search rules)

pub invariant_of-result : goal.invariant_of-result
invariant_of-result c =
    let means = reduced_means c.args.negative c.args.size c.args.den c.common_divisor-common.result
    _ _ c.requires c.common_divisor-common.ensures.value c.in_ok-num.ensures.ok
    c.in_ok-den.ensures.ok in
    record { den_low = means.low; lowest = means.lowest }

pub returns-clause-ok : goal.returns-clause-ok
returns-clause-ok c =
    is_fraction _ _ (reduced_means c.args.negative c.args.size c.args.den
    c.common_divisor-common.result _ _ c.requires c.common_divisor-common.ensures.value
    c.in_ok-num.ensures.ok c.in_ok-den.ensures.ok)

pub returns-clause-wide : goal.returns-clause-wide
returns-clause-wide c =
    let means = reduced_means c.args.negative c.args.size c.args.den c.common_divisor-common.result
    _ _ c.requires c.common_divisor-common.ensures.value c.in_ok-num.ensures.ok
    c.in_ok-den.ensures.ok in (
      λ e. cc,
      λ past. absurd (not_past _ _ _ means c.in_ok-num.num.in_range c.in_ok-den.den.in_range
          past),
    )
