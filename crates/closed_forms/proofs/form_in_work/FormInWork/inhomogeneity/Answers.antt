use Rattle.std.proofs.Common.{Err, refl, sym, ap, subst, ◌∙◌}
use Rattle.std.proofs.lemmas.Result.{IfOk-weaker}
use Rattle.algebra.specs.Fraction.{fractions, fraction_size}
use Rattle.algebra.specs.Size.{IsPast}
use Rattle.polynomials.specs.Weight.{weight, IsPastSum}
use Rattle.poly.specs.Seen.{terms_in, terms_each}
use Rattle.closed_forms.specs.Inhomogeneities.{part}
use Rattle.closed_forms.specs.Inhomogeneities as past
use Rattle.expo.proofs.Outcomes.{wide_of}
use Rattle.closed_forms.proofs.Making.{normal_over, room_before, inhomogeneity_is, sum_is}
use Rattle.closed_forms.proofs.Mixing.{wide_on}
use Rattle.closed_forms.proofs.form_in_work.FormInWork.inhomogeneity.Goals as goal

pub add-requires-clause-arity : goal.add-requires-clause-arity
add-requires-clause-arity c = c.in_ok-moved.ensures.arity
    ∙ sym c.in_ok-combination_of_earlier.ensures.arity

pub normal-requires-clause-front : goal.normal-requires-clause-front
normal-requires-clause-front c =
    room_before _ _ (c.in_ok-sum.ensures.sum.arity ∙ c.in_ok-moved.ensures.arity)

pub returns-clause-over : goal.returns-clause-over
returns-clause-over c =
    let a = c.in_ok-sum.ensures.sum.arity ∙ c.in_ok-moved.ensures.arity in
    IfOk-weaker c.normal.result _ _ (λ e h. normal_over _ _ e a h) c.normal.ensures.normal

pub returns-clause-inhomogeneity : goal.returns-clause-inhomogeneity
returns-clause-inhomogeneity c =
    let s = c.args.self.now.class.now.setting in
    let i = c.in_ok-sum.ensures.sum in
    let sum = sum_is c.in_ok-moved.moved c.in_ok-combination_of_earlier.combination_of_earlier
    c.in_ok-sum.sum c.in_ok-moved.ensures.arity c.in_ok-combination_of_earlier.ensures.arity
    i.arity c.in_ok-moved.ensures.terms refl i.same in
    IfOk-weaker c.normal.result _ _ (λ e h. inhomogeneity_is _ _ _ _ _ _ _ _ e
    _ c.in_ok-combination_of_earlier.ensures.terms sum h) c.normal.ensures.normal

pub returns-clause-wide : goal.returns-clause-wide
returns-clause-wide c =
    let s = c.args.self.now.class.now.setting in
    let i = c.in_ok-sum.ensures.sum in
    let is = c.in_ok-combination_of_earlier.ensures.terms in
    λ h. past.normal_past is.by is.is_by (subst (λ ts. IsPast (weight fraction_size ts))
    (sum_is c.in_ok-moved.moved c.in_ok-combination_of_earlier.combination_of_earlier
    c.in_ok-sum.sum c.in_ok-moved.ensures.arity c.in_ok-combination_of_earlier.ensures.arity
    i.arity c.in_ok-moved.ensures.terms is.terms i.same) (c.normal.ensures.wide h))

pub returns-in_err-moved-clause-wide : goal.returns-in_err-moved-clause-wide
returns-in_err-moved-clause-wide c = wide_on
    c.from_residual.ensures.1 (λ h. past.moved_past (c.in_err-moved.ensures.wide h))

pub returns-in_err-combination_of_earlier-clause-wide :
    goal.returns-in_err-combination_of_earlier-clause-wide
returns-in_err-combination_of_earlier-clause-wide c =
    wide_on c.from_residual-in_err-combination_of_earlier.ensures.1 (λ h. past.before_past
    (c.in_err-combination_of_earlier.ensures.wide h))

pub returns-in_err-sum-clause-wide : goal.returns-in_err-sum-clause-wide
returns-in_err-sum-clause-wide c =
    let is = c.in_ok-combination_of_earlier.ensures.terms in
    λ h. past.sum_past is.by is.is_by (subst (λ ts. IsPastSum fractions ts
    (part is.by (terms_each c.args.done.now)))
    c.in_ok-moved.ensures.terms (subst (λ ts. IsPastSum
    fractions (terms_in c.in_ok-moved.moved) ts) is.terms (c.in_err-sum.ensures.wide (ap Err
    (wide_of _ c.in_err-sum.field-0.0 c.from_residual-in_err-sum.ensures.1 h)))))
