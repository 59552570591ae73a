use Rattle.std.proofs.Common.{rules, ◌∙◌, refl, subst, unsigned_abs, ◌<◌, ◌^◌}
use Rattle.frac128.proofs.FracResults.{is_fraction, sum_means, sum_left, sum_right, sum_top, sum_den, sum_fits}
use Rattle.frac128.proofs.WholeNumbers.{whole_sum_is, whole_sum_past, whole_sum_fits}
use Rattle.frac128.proofs.fraction.FracRing.add.Goals as goal

pub returns-in_err-add-clause-wide : goal.returns-in_err-add-clause-wide
returns-in_err-add-clause-wide c = (
  λ _. whole_sum_past _ _ _ _ c.in-Some.ensures.0 c.in-Some.ensures.1
      (c.in_err-add.ensures.wide.0 refl),
  λ _. search rules,
)

pub returns-in-Some-clause-ok : goal.returns-in-Some-clause-ok
returns-in-Some-clause-ok c = c.whole.ensures ∙ whole_sum_is _ _ _ _ _ c.in-Some.ensures.0
    c.in-Some.ensures.1 c.in_ok-add.ensures.ok

pub returns-in-Some-clause-wide : goal.returns-in-Some-clause-wide
returns-in-Some-clause-wide c =
    let fits = whole_sum_fits _ _ _ _ c.in-Some.ensures.0 c.in-Some.ensures.1 c.in-Some.num.in_range
    c.in-Some.other_num.in_range in (
      λ e. cc,
      λ past.
          absurd (fits (subst (λ z. unsigned_abs z < 2 ^ 127) c.in_ok-add.ensures.ok
          c.in_ok-add.field-0.in_range) past),
    )

pub returns-in_err-left-clause-wide : goal.returns-in_err-left-clause-wide
returns-in_err-left-clause-wide c =
    let means = sum_means c.args.self.now c.args.other.now _ _ _ _ _ _ _ _ _ _ _
    c.gcd-common.ensures.value c.over.ensures refl refl refl refl refl refl refl refl refl in
    (λ _. sum_left _ _ _ _ _ _ means (c.in_err-left.ensures.wide.0 refl), λ _. search rules)

pub returns-in_err-right-clause-wide : goal.returns-in_err-right-clause-wide
returns-in_err-right-clause-wide c =
    let means = sum_means c.args.self.now c.args.other.now _ _ _ _ _ _ _ _ _ _ _
    c.gcd-common.ensures.value c.over.ensures c.in_ok-left.ensures.ok c.over-2.ensures refl refl
    refl refl refl refl refl in
    (λ _. sum_right _ _ _ _ _ _ means (c.in_err-right.ensures.wide.0 refl), λ _. search rules)

pub returns-in_err-top-clause-wide : goal.returns-in_err-top-clause-wide
returns-in_err-top-clause-wide c =
    let means = sum_means c.args.self.now c.args.other.now _ _ _ _ _ _ _ _ _ _ _
    c.gcd-common.ensures.value c.over.ensures c.in_ok-left.ensures.ok c.over-2.ensures
    c.in_ok-right.ensures.ok refl refl refl refl refl refl in
    (λ _. sum_top _ _ _ _ _ _ means (c.in_err-top.ensures.wide.0 refl), λ _. search rules)

pub returns-in_err-den-clause-wide : goal.returns-in_err-den-clause-wide
returns-in_err-den-clause-wide c =
    let means = sum_means c.args.self.now c.args.other.now _ _ _ _ _ _ _ _ _ _ _
    c.gcd-common.ensures.value c.over.ensures c.in_ok-left.ensures.ok c.over-2.ensures
    c.in_ok-right.ensures.ok c.in_ok-top.ensures.ok c.gcd-shared.ensures.value c.over-3.ensures
    c.over-4.ensures refl refl in
    (λ _. sum_den _ _ _ _ _ _ means (c.in_err-den.ensures.wide.0 refl), λ _. search rules)

pub invariant_of-result : goal.invariant_of-result
invariant_of-result c =
    let means = sum_means c.args.self.now c.args.other.now _ _ _ _ _ _ _ _ _ _ _
    c.gcd-common.ensures.value c.over.ensures c.in_ok-left.ensures.ok c.over-2.ensures
    c.in_ok-right.ensures.ok c.in_ok-top.ensures.ok c.gcd-shared.ensures.value c.over-3.ensures
    c.over-4.ensures c.in_ok-den.ensures.ok c.over-5.ensures in
    record { den_low = means.means_sum.low; lowest = means.means_sum.lowest }

pub returns-clause-ok : goal.returns-clause-ok
returns-clause-ok c =
    let means = sum_means c.args.self.now c.args.other.now _ _ _ _ _ _ _ _ _ _ _
    c.gcd-common.ensures.value c.over.ensures c.in_ok-left.ensures.ok c.over-2.ensures
    c.in_ok-right.ensures.ok c.in_ok-top.ensures.ok c.gcd-shared.ensures.value c.over-3.ensures
    c.over-4.ensures c.in_ok-den.ensures.ok c.over-5.ensures in
    is_fraction _ _ means.means_sum

pub returns-clause-wide : goal.returns-clause-wide
returns-clause-wide c =
    let means = sum_means c.args.self.now c.args.other.now _ _ _ _ _ _ _ _ _ _ _
    c.gcd-common.ensures.value c.over.ensures c.in_ok-left.ensures.ok c.over-2.ensures
    c.in_ok-right.ensures.ok c.in_ok-top.ensures.ok c.gcd-shared.ensures.value c.over-3.ensures
    c.over-4.ensures c.in_ok-den.ensures.ok c.over-5.ensures in
    let top : unsigned_abs c.in_ok-top.top.value < 2 ^ 127 = c.in_ok-top.top.in_range in (
      λ e. cc,
      λ past. absurd (sum_fits _ _ _ _ _ _ means c.in_ok-left.left.in_range
          c.in_ok-right.right.in_range (subst (λ z. unsigned_abs z < 2 ^ 127)
          c.in_ok-top.ensures.ok top) c.in_ok-den.den.in_range past),
    )
