use Rattle.std.proofs.Common.{◌≡◌, length, inl, inr, sym, ap, ap₂, subst, ◌∙◌}
use Rattle.std.proofs.lemmas.Result.{err_from_is_err_and}
use Rattle.polynomials.specs.Exponent.{plus, Divides}
use Rattle.polynomials.specs.Polynomial.{Arity}
use Rattle.polynomials.specs.Terms.{Same, shift}
use Rattle.polynomials.specs.Weight.{degrees, FitsMonomial}
use Rattle.polynomials.proofs.Arity.{arity-shift}
use Rattle.polynomials.proofs.Degrees.{divides-left, divides-right}
use Rattle.polynomials.proofs.Exponent.{length-lcm}
use Rattle.polynomials.proofs.Same.{Same-refl}
use Rattle.machines.specs.Cut.{lead_of}
use Rattle.poly.specs.Seen.{terms_in}
use Rattle.divide.proofs.OneCut.{along, lead_long}
use Rattle.complete.specs.Raising.{raised_to}
use Rattle.complete.proofs.Made.{if_ok, pair_made, past_pair}
use Rattle.complete.proofs.element.s_polynomial.Given.{Over}
use Rattle.complete.proofs.element.s_polynomial.Goals.{Start, In_ok-left}
use Rattle.complete.proofs.element.s_polynomial.Goals as goal

-- the multiple has an exponent for each variable
long : (g : Over) (c : Start g) → length c.args.multiple.now ≡ c.args.f.now.arity
long g c =
    let lf = lead_long _ (terms_in c.args.f.now) c.requires.nonzero.0
    c.args.f.now.polynomial.arity in
    let lg = lead_long _ (terms_in c.args.g.now) c.requires.nonzero.1
    c.args.g.now.polynomial.arity in
    ap length c.requires.multiple ∙ length-lcm _ _ (lf ∙ c.requires.arity ∙ sym lg) ∙ lf

pub quotient_by_lead-requires-clause-long : goal.quotient_by_lead-requires-clause-long
quotient_by_lead-requires-clause-long g c =
    long g (goal.at.quotient_by_lead-requires-clause-long g c).Start

pub quotient_by_lead-requires-clause-divided : goal.quotient_by_lead-requires-clause-divided
quotient_by_lead-requires-clause-divided g c =
    subst (λ e. Divides (lead_of (terms_in c.args.f.now)) e) (sym c.requires.multiple)
    (divides-left (lead_of (terms_in c.args.f.now)) (lead_of (terms_in c.args.g.now)))

pub returns-in_err-left-clause-wide : goal.returns-in_err-left-clause-wide
returns-in_err-left-clause-wide g c =
    let p = err_from_is_err_and c.from_residual-in_err-left.result
    c.from_residual-in_err-left.ensures.1 in
    λ w. inr (inl (λ fits. c.in_err-left.ensures.wide (cc (p.1, p.2, w))
    (subst (λ d. FitsMonomial (plus d (degrees (terms_in c.args.f.now))))
    (sym c.in_ok-by.ensures.quotient)
    fits)))

pub quotient_by_lead-requires-2-clause-long : goal.quotient_by_lead-requires-2-clause-long
quotient_by_lead-requires-2-clause-long g c =
    long g (goal.at.quotient_by_lead-requires-2-clause-long g c).Start ∙ c.requires.arity

pub quotient_by_lead-requires-2-clause-divided : goal.quotient_by_lead-requires-2-clause-divided
quotient_by_lead-requires-2-clause-divided g c =
    subst (λ e. Divides (lead_of (terms_in c.args.g.now)) e) (sym c.requires.multiple)
    (divides-right (lead_of (terms_in c.args.f.now)) (lead_of (terms_in c.args.g.now)))

pub sub_multiple-requires-clause-factor : goal.sub_multiple-requires-clause-factor
sub_multiple-requires-clause-factor g c = c.in_ok-mono.ensures.long ∙ sym c.requires.arity
    ∙ sym c.in_ok-left.ensures.product.arity

-- the element that is raised first
raised : (g : Over) (c : In_ok-left g) → Same g.K.Ring.scalars.arithmetic
    (terms_in c.in_ok-left.left)
    (raised_to g.K.Ring.scalars c.args.multiple.now (terms_in c.args.f.now))
raised g c =
    let S = g.K.Ring.scalars in
    subst (λ d. Same S.arithmetic (terms_in c.in_ok-left.left)
    (shift S.arithmetic d S.one (terms_in c.args.f.now))) c.in_ok-by.ensures.quotient
    c.in_ok-left.ensures.product.same

pub returns-clause-terms : goal.returns-clause-terms
returns-clause-terms g c =
    let S = g.K.Ring.scalars in
    let at = goal.at.returns-clause-terms g c in
    let f = c.args.f.now in
    let q = terms_in c.args.g.now in
    let left = c.in_ok-left.ensures.product in
    let right = shift S.arithmetic c.in_ok-mono.mono (g.K.Ring.meaning c.one.result) q in
    let is : right ≡ raised_to S c.args.multiple.now q =
    ap₂ (λ d a. shift S.arithmetic d a q) c.in_ok-mono.ensures.quotient c.one.ensures in
    if_ok _ (λ p. terms_in p ≡ _) c.sub_multiple.result
    (λ p i. pair_made S g.met.K.Ring.ring g.met.K.Field.field g.met.K.Ring.zero_is
    (g.O.Order.order f.order) (g.met.O.Order.is_order f.order) f.arity (terms_in p)
    (terms_in c.in_ok-left.left) right (raised_to S c.args.multiple.now (terms_in f))
    (raised_to S c.args.multiple.now q)
    (along S g.O.Order.order _ _ _ _ _ (i.order ∙ left.order) (i.arity ∙ left.arity) p.polynomial)
    (raised g at.In_ok-left) (subst (Same S.arithmetic right) is (Same-refl S.arithmetic right))
    (arity-shift f.arity S.arithmetic _ S.one (terms_in f)
    (sym (ap length c.in_ok-by.ensures.quotient) ∙ c.in_ok-by.ensures.long) f.polynomial.arity)
    (subst (λ n. Arity n (raised_to S c.args.multiple.now q)) (sym c.requires.arity)
    (arity-shift c.args.g.now.arity S.arithmetic _ S.one q
    (sym (ap length c.in_ok-mono.ensures.quotient) ∙ c.in_ok-mono.ensures.long)
    c.args.g.now.polynomial.arity)) i.same)
    c.sub_multiple.ensures.difference

pub returns-clause-wide : goal.returns-clause-wide
returns-clause-wide g c =
    let S = g.K.Ring.scalars in
    let at = goal.at.returns-clause-wide g c in
    let f = c.args.f.now in
    let left = c.in_ok-left.ensures.product in
    λ w. past_pair S g.met.K.Ring.ring g.met.K.Ring.bounded (g.O.Order.order f.order)
    (g.met.O.Order.is_order f.order) f.arity _ (terms_in c.in_ok-left.left) (terms_in f)
    (terms_in c.args.g.now) _ _ _
    (along S g.O.Order.order _ _ _ _ _ left.order left.arity c.in_ok-left.left.polynomial)
    (raised g at.In_ok-left) c.in_ok-mono.ensures.quotient
    (c.sub_multiple.ensures.shifted c.one.ensures w)
