use Rattle.std.proofs.Common.{length, refl, sym, ap, subst, ◌∙◌}
use Rattle.algebra.specs.Fraction.{ℚ}
use Rattle.polynomials.specs.Exponent.{plus, Divides}
use Rattle.polynomials.specs.Terms.{Same, shift}
use Rattle.polynomials.specs.Weight.{degrees, FitsMonomial}
use Rattle.machines.specs.Cut.{lead_of}
use Rattle.poly.specs.Seen.{terms_in}
use Rattle.poly.proofs.IsLaws.{is_as}
use Rattle.task_lists.proofs.Raised.{lead_length, factor_over}
use Rattle.task_lists.proofs.s_polynomial.multiple_with_lead.Goals as goal

pub quotient-requires-clause-arity : goal.quotient-requires-clause-arity
quotient-requires-clause-arity g c =
    c.requires.long ∙ sym (lead_length _ _ c.requires.nonzero c.args.f.now.polynomial.arity)
    ∙ ap length (sym c.lead_monomial.ensures)

pub quotient-requires-clause-divides : goal.quotient-requires-clause-divides
quotient-requires-clause-divides g c =
    subst (λ d. Divides d c.args.multiple.now) (sym c.lead_monomial.ensures) c.requires.divided

pub returns-clause-product : goal.returns-clause-product
returns-clause-product g c =
    let p = terms_in c.args.f.now in
    let lead = c.lead_monomial.ensures in
    let long = c.in_ok-factor.ensures.arity ∙ c.requires.long
    ∙ sym (lead_length _ p c.requires.nonzero c.args.f.now.polynomial.arity) in
    let is = factor_over _ (lead_of p)
    (ap (λ d. plus d c.in_ok-factor.factor) (sym lead) ∙ c.in_ok-factor.ensures.ok) long in
    is_as _ _ _ _ _ _ _ refl refl (λ q same. subst (λ d. Same ℚ (terms_in q) (shift ℚ d ℚ.one p)) is
    same) c.shift.ensures.product

pub returns-clause-wide : goal.returns-clause-wide
returns-clause-wide g c =
    let p = terms_in c.args.f.now in
    let lead = c.lead_monomial.ensures in
    let long = c.in_ok-factor.ensures.arity ∙ c.requires.long
    ∙ sym (lead_length _ p c.requires.nonzero c.args.f.now.polynomial.arity) in
    let is = factor_over _ (lead_of p)
    (ap (λ d. plus d c.in_ok-factor.factor) (sym lead) ∙ c.in_ok-factor.ensures.ok) long in
    λ w fits. c.shift.ensures.wide w (subst (λ d. FitsMonomial (plus d (degrees p))) (sym is) fits)
