use Rattle.std.proofs.Common.{[], ◌∷◌, sym, ap, subst, ◌∙◌}
use Rattle.algebra.specs.Arithmetic.{power}
use Rattle.algebra.specs.Fraction.{ℚ, inverse}
use Rattle.polynomials.specs.Terms.{Same, value_at}
use Rattle.poly.specs.Seen.{terms_in}
use Rattle.expo.specs.View.{base_of}
use Rattle.solvable_maps.specs.Expo.{at_iteration}
use Rattle.solvable_maps.specs.Iterations.{point}
use Rattle.closed_forms.specs.Later.{IsPastAt, iteration_past, difference_past}
use Rattle.closed_forms.specs.Recurrences.{base_by, number_by}
use Rattle.closed_forms.specs.Sums.{IsPastMix}
use Rattle.closed_forms.proofs.LaterForms.{at-arity, start_is, start_numbers}
use Rattle.closed_forms.proofs.Making.{poly_is}
use Rattle.closed_forms.proofs.Mixing.{ok_both, wide_on}
use Rattle.closed_forms.proofs.recurrence.Recurrence.start.Goals as goal

pub returns-in_err-at-clause-wide : goal.returns-in_err-at-clause-wide
returns-in_err-at-clause-wide c =
    let r = c.args.self.now in
    let q = terms_in c.args.sum.now.body in
    wide_on c.from_residual-in_err-at.ensures.1 (λ w. iteration_past (subst (λ b. IsPastAt b r.vars
    c.args.iterations q) c.requires.sum.over_base (subst (λ k. IsPastAt (base_of c.args.sum.now) k
    c.args.iterations q) c.requires.sum.over_vars (c.in_err-at.ensures.wide w))))

pub returns-clause-start : goal.returns-clause-start
returns-clause-start c =
    let r = c.args.self.now in
    let q = terms_in c.args.sum.now.body in
    ok_both _ _ _ _ (λ p a e. start_is (number_by r) c.args.iterations
    (c.in_ok-factor.ensures.ok ∙ ap (λ x. power ℚ x c.args.iterations) c.reciprocal.ensures)
    c.neg-opposite.ensures (base_by r) r.vars c.args.there c.in_ok-at.at p q a
    (λ s l. c.in_ok-at.ensures.values s (l ∙ sym c.requires.sum.over_vars)
    ∙ ap (λ b. value_at ℚ q (point b c.args.iterations s)) c.requires.sum.over_base) e)
    c.weighted_sum.ensures.arity c.weighted_sum.ensures.terms

pub returns-clause-wide : goal.returns-clause-wide
returns-clause-wide c =
    let r = c.args.self.now in
    let q = terms_in c.args.sum.now.body in
    let at = c.in_ok-at.at in
    let k = power ℚ (inverse (number_by r)) c.args.iterations in
    let iteration = c.in_ok-at.ensures.iteration in
    let at_is = poly_is at _ (at-arity (base_by r) r.vars c.args.iterations q)
    (iteration.arity ∙ c.requires.sum.over_vars)
    (subst (λ b. Same ℚ (terms_in at) (at_iteration b r.vars c.args.iterations q))
    c.requires.sum.over_base
    (subst (λ k. Same ℚ (terms_in at) (at_iteration (base_of c.args.sum.now) k c.args.iterations q))
    c.requires.sum.over_vars iteration.same)) in
    λ w. difference_past (subst (λ p. IsPastMix (k ∷ ℚ.neg k ∷ []) (terms_in c.args.there ∷ p ∷ []))
    at_is (subst (λ ns. IsPastMix ns (terms_in c.args.there ∷ terms_in at ∷ []))
    (start_numbers (number_by r) c.args.iterations
    (c.in_ok-factor.ensures.ok ∙ ap (λ x. power ℚ x c.args.iterations) c.reciprocal.ensures)
    c.neg-opposite.ensures) (c.weighted_sum.ensures.wide w)))
