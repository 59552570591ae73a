use Rattle.std.proofs.Common.{subst}
use Rattle.poly.specs.Seen.{terms_in}
use Rattle.closed_forms.specs.Later.{IsSumOf, IsPastSum, sum_past, start_past, joined_past}
use Rattle.closed_forms.specs.Recurrences.{base_by, number_by, inhomogeneity_in}
use Rattle.closed_forms.proofs.Mixing.{wide_on}
use Rattle.closed_forms.proofs.recurrence.Recurrence.solve_later.Goals as goal
use Rattle.closed_forms.proofs.recurrence.Recurrence.solve_later.Goals.{In_ok-sum}

pub returns-in_err-sum-clause-wide : goal.returns-in_err-sum-clause-wide
returns-in_err-sum-clause-wide c =
    let r = c.args.self.now in
    wide_on c.from_residual.ensures.1 (λ w. sum_past (subst (λ l. IsPastSum (base_by r) r.vars l
    (inhomogeneity_in r)) r.power.is (c.in_err-sum.ensures.wide w)))

sum_is : (c : In_ok-sum) → IsSumOf (base_by c.args.self.now) c.args.self.now.vars
    (number_by c.args.self.now) (inhomogeneity_in c.args.self.now)
    (terms_in c.in_ok-sum.sum.body)
sum_is c =
    let r = c.args.self.now in
    subst (λ l. IsSumOf (base_by r) r.vars l (inhomogeneity_in r) (terms_in c.in_ok-sum.sum.body))
    r.power.is c.in_ok-sum.ensures.sum

pub returns-in_err-start-clause-wide : goal.returns-in_err-start-clause-wide
returns-in_err-start-clause-wide c =
    wide_on c.from_residual-in_err-start.ensures.1 (λ w. start_past (terms_in c.in_ok-sum.sum.body)
    (sum_is (goal.at.returns-in_err-start-clause-wide c).In_ok-sum) (c.in_err-start.ensures.wide w))

pub returns-clause-wide : goal.returns-clause-wide
returns-clause-wide c =
    let r = c.args.self.now in
    λ w. joined_past r.own.negative r.own.exponents.items r.power
    (terms_in c.in_ok-sum.sum.body) (sum_is (goal.at.returns-clause-wide c).In_ok-sum)
    (terms_in c.in_ok-start.start) c.in_ok-start.ensures.start (c.joined.ensures.wide w)
