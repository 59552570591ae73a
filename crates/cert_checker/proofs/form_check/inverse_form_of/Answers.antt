use Rattle.std.proofs.Common.{◌≡◌, ℕ, List, [], get_or, length, sym, ap, ap₂, subst, ◌∙◌, arith, true≢false}
use Rattle.std.proofs.lemmas.List.{length-map}
use Rattle.std.proofs.lemmas.Result.{err_from_is_err_and}
use Rattle.algebra.specs.Fraction.{rationals}
use Rattle.polynomials.specs.Order.{grevlex}
use Rattle.machines.specs.Collect.{collect}
use Rattle.solvable_maps.specs.Expo.{inverse_form_terms}
use Rattle.solvable_maps.specs.Iterations.{width, IsNormal}
use Rattle.poly.specs.Seen.{terms_in, terms_each}
use Rattle.poly.specs.Standing.{IsInVariables}
use Rattle.coprime_base.specs.Sizes.{sizes}
use Rattle.cert_checker.specs.Passing.{IsExpoWhereNormal, IsExpoOf}
use Rattle.cert_checker.proofs.Normal.{kept_vars}
use Rattle.cert_checker.proofs.Passings.{seen_at, start_tells, next_tells, next_past}
use Rattle.cert_checker.proofs.form_check.inverse_form_of.Goals as goal
use Rattle.cert_checker.proofs.form_check.inverse_form_of.Goals.{In-Some}

-- what is kept of the polynomial, and of how many variables it is
kept : (c : In-Some) → IsExpoOf (sizes c.args.base.now.items) c.index.result.now c.in-Some.e
kept c = subst (IsExpoWhereNormal (sizes c.args.base.now.items) c.index.result.now) c.in-Some.is
    c.in_ok-e.ensures.normal

vars : (c : In-Some) → c.in-Some.e.vars ≡ length (terms_each c.args.images.now.items)
vars c = kept_vars (sizes c.args.base.now.items) _
    c.args.polys.now.items c.args.place c.index.result.now c.in-Some.e
    (let n = c.requires.fits.count in omega (arith, c.requires.place, n)) c.index.ensures
    c.requires.fits.over_width (kept c) ∙ sym (length-map c.args.images.now.items terms_in)

body : (c : In-Some) → terms_in c.in-Some.e.body
    ≡ get_or (terms_each c.args.polys.now.items) c.args.place []
body c = (kept c).terms ∙ seen_at terms_in c.args.polys.now.items c.args.place
    (let n = c.requires.fits.count in omega (arith, c.requires.place, n)) c.index.ensures

pub returns-then-not-begins-clause-passes : goal.returns-then-not-begins-clause-passes
returns-then-not-begins-clause-passes c =
    let at = (goal.at.returns-then-not-begins-clause-passes c).In-Some in
    let tells = start_tells _ _ _ c.args.place
    (vars at) (kept at).base (body at) c.in_ok-begins.ensures.holds in
    λ h. true≢false (sym (tells.1 h.at_zero) ∙ c.if-not-begins.true)

pub returns-in_err-follows-clause-wide : goal.returns-in_err-follows-clause-wide
returns-in_err-follows-clause-wide c =
    let at = (goal.at.returns-in_err-follows-clause-wide c).In-Some in
    let p = err_from_is_err_and c.from_residual-in_err-follows.result
    c.from_residual-in_err-follows.ensures.1 in
    λ w. next_past _ _ c.index-2.result.now.arity _ _ c.args.place (terms_in c.in-Some.e.body)
    (subst (IsInVariables (length c.args.images.now.items)) (sym c.index-2.ensures)
    (c.requires.fits.over_variables c.args.place c.index-2.result.now c.requires.place))
    (kept at).base (sym (length-map c.args.images.now.items terms_in)) (seen_at terms_in
    c.args.images.now.items c.args.place c.requires.place c.index-2.ensures) (body at)
    (c.in_err-follows.ensures.wide (cc (p.1, p.2, w)))

pub returns-then-not-follows-clause-passes : goal.returns-then-not-follows-clause-passes
returns-then-not-follows-clause-passes c =
    let at = (goal.at.returns-then-not-follows-clause-passes c).In-Some in
    let tells = next_tells _ _ _ _ _ (subst (IsInVariables (length c.args.images.now.items))
    (sym c.index-2.ensures) (c.requires.fits.over_variables c.args.place c.index-2.result.now
    c.requires.place) ∙ sym (length-map c.args.images.now.items terms_in)) (kept at).base
    (seen_at terms_in c.args.images.now.items c.args.place c.requires.place c.index-2.ensures)
    (body at) c.in_ok-follows.ensures.holds in
    λ h. true≢false (sym (tells.1 h.goes_on) ∙ c.if-not-follows.true)

pub returns-clause-passes : goal.returns-clause-passes
returns-clause-passes c =
    let at = (goal.at.returns-clause-passes c).In-Some in
    let bs = sizes c.args.base.now.items in
    let m = length (terms_each c.args.images.now.items) in
    let starts = start_tells bs m _ c.args.place (vars at) (kept at).base
    (body at) c.in_ok-begins.ensures.holds in
    let follows = next_tells bs m _ _ _ (subst (IsInVariables (length c.args.images.now.items))
    (sym c.index-2.ensures) (c.requires.fits.over_variables c.args.place c.index-2.result.now
    c.requires.place) ∙ sym (length-map c.args.images.now.items terms_in)) (kept at).base
    (seen_at terms_in c.args.images.now.items c.args.place c.requires.place c.index-2.ensures)
    (body at) c.in_ok-follows.ensures.holds in
    let is = c.in_ok-inverse_form.ensures.inverse_form in (
      record {
        normal = subst (IsNormal bs) (sym (kept at).terms ∙ body at) (kept at).normal;
        at_zero = starts.0 c.if-not-begins.false;
        goes_on = follows.0 c.if-not-follows.false;
      },
      (
        ap terms_in c.into_body.ensures ∙ is.terms
            ∙ ap (collect rationals grevlex)
            (ap₂ (λ (cs : List ℕ) p. inverse_form_terms (length cs) p) (kept at).base (body at)),
        ap (λ p. p.arity) c.into_body.ensures ∙ c.in_ok-inverse_form.field-0.arity
            ∙ ap₂ (λ (cs : List ℕ) n. width (length cs) n) (is.over_base ∙ (kept at).base)
            (is.over_vars ∙ vars at ∙ length-map c.args.images.now.items terms_in),
      ),
    )
