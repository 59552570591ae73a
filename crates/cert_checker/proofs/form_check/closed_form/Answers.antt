use Rattle.std.proofs.Common.{◌≡◌, ◌<◌, ◌≤◌, ◌++◌, ◌∷◌, [], get_or, length, map, sym, ap, ap₂, subst, ◌∙◌, arith, true≢false}
use Rattle.std.proofs.lemmas.List.{length-map, map-append, take_all, get_or_default}
use Rattle.std.proofs.lemmas.List.Elements.{All-nil, All-same}
use Rattle.std.proofs.lemmas.Result.{err_from_is_err_and}
use borrow.Author.Count.{below_more}
use Rattle.algebra.proofs.Lists.{take_next, have_more}
use Rattle.polynomials.specs.Order.{grevlex}
use Rattle.solvable_maps.specs.Iterations.{width}
use Rattle.rounds.specs.Form.{inverse_form}
use Rattle.corollaries.specs.FormIdentities.{IsRightForm}
use Rattle.poly.specs.Seen.{terms_in, terms_each}
use Rattle.poly.specs.Standing.{IsInVariables}
use Rattle.coprime_base.specs.Sizes.{sizes}
use Rattle.expo.specs.Bases.{IsCoprimeBase}
use Rattle.cert_checker.specs.Passing.{IsPastForm, form_with, Passes, PassesAt}
use Rattle.cert_checker.proofs.Passings.{passes_all, passes_at, past_at}
use Rattle.cert_checker.proofs.form_check.closed_form.Goals as goal

pub returns-then-not-proper-clause-passes : goal.returns-then-not-proper-clause-passes
returns-then-not-proper-clause-passes c = λ h. true≢false
    (sym (c.is_base-proper.ensures.1 (subst (λ ws. IsCoprimeBase (sizes ws))
    (sym c.deref.ensures.value) (h.coprime, h.ascending))) ∙ c.if-not-proper.true)

pub loop-place-init : goal.loop-place-init
loop-place-init c =
    let w = width (length (sizes c.args.base.now.items)) (length c.args.images.now.items) in
    record {
      within = omega arith;
      passes = λ j l. absurd (omega (arith, l));
      backs = ap terms_each c.new-found.ensures.items;
      over = All-same (IsInVariables w) _ [] c.new-found.ensures.items (All-nil (IsInVariables w));
    }

pub returns-in_err-next-clause-wide : goal.returns-in_err-next-clause-wide
returns-in_err-next-clause-wide c =
    let images = terms_each c.args.images.now.items in
    let ps = terms_each c.args.polys.now.items in
    let p = err_from_is_err_and c.from_residual.result c.from_residual.ensures.1 in
    let few = length-map c.args.images.now.items terms_in in
    let many = length-map c.args.polys.now.items terms_in in
    let count : length ps ≡ length images = many ∙ c.requires.fits.count ∙ sym few in
    let size : c.len-place-end.result ≡ length c.args.polys.now.items = c.len-place-end.ensures
    ∙ c.args.polys.now.ok.0 in
    let inside : c.loop-place.place < length ps =
    omega (arith, c.loop-place-test.true, size, many) in
    λ w. subst (λ k. IsPastForm images k (form_with c.args.base.now c.args.polys.now)) few
    (past_at (sizes c.args.base.now.items) images ps count c.loop-place.place inside
    (c.in_err-next.ensures.wide (cc (p.1, p.2, w))))

pub returns-in-None-clause-passes : goal.returns-in-None-clause-passes
returns-in-None-clause-passes c =
    let bs = sizes c.args.base.now.items in
    let images = terms_each c.args.images.now.items in
    let ps = terms_each c.args.polys.now.items in
    let few = length-map c.args.images.now.items terms_in in
    let many = length-map c.args.polys.now.items terms_in in
    let count : length ps ≡ length images = many ∙ c.requires.fits.count ∙ sym few in
    let size : c.len-place-end.result ≡ length c.args.polys.now.items = c.len-place-end.ensures
    ∙ c.args.polys.now.ok.0 in
    let inside : c.loop-place.place < length ps =
    omega (arith, c.loop-place-test.true, size, many) in
    let no = subst (Passes (PassesAt bs images ps c.loop-place.place) _) c.in-None.is
    c.in_ok-next.ensures.passes in
    λ h. no (passes_at bs images ps count (subst (λ k. IsRightForm images k
    (form_with c.args.base.now c.args.polys.now)) (sym few) h) c.loop-place.place inside)

pub loop-place-preserved : goal.loop-place-preserved
loop-place-preserved c =
    let bs = sizes c.args.base.now.items in
    let images = terms_each c.args.images.now.items in
    let ps = terms_each c.args.polys.now.items in
    let w = width (length bs) (length c.args.images.now.items) in
    let i = c.loop-place.place in
    let b = inverse_form grevlex (length bs) in
    let many = length-map c.args.polys.now.items terms_in in
    let size : c.len-place-end.result ≡ length c.args.polys.now.items = c.len-place-end.ensures
    ∙ c.args.polys.now.ok.0 in
    let inside : i < length ps = omega (arith, c.loop-place-test.true, size, many) in
    let yes = subst (Passes (PassesAt bs images ps i)
    (λ q. (terms_in q ≡ b (get_or ps i [])) × IsInVariables w q)) c.in-Some.is
    c.in_ok-next.ensures.passes in
    let items = c.in_ok-push-in-Some.ensures.items in
    record {
      within = omega (arith, c.loop-place-test.true, size);
      passes = below_more (PassesAt bs images ps) i c.loop-place.invariant.passes yes.0;
      backs = ap terms_each items ∙ map-append terms_in c.loop-place.found.items _
          ∙ ap₂ (λ xs x. xs ++ x ∷ []) c.loop-place.invariant.backs yes.1.0
          ∙ sym (take_next b ps i _ inside (get_or_default ps i [] _ inside));
      over = have_more (IsInVariables w) _ _ _ items c.loop-place.invariant.over yes.1.1;
    }

pub returns-clause-passes : goal.returns-clause-passes
returns-clause-passes c =
    let bs = sizes c.args.base.now.items in
    let images = terms_each c.args.images.now.items in
    let ps = terms_each c.args.polys.now.items in
    let few = length-map c.args.images.now.items terms_in in
    let many = length-map c.args.polys.now.items terms_in in
    let count : length ps ≡ length images = many ∙ c.requires.fits.count ∙ sym few in
    let size : c.len-place-end.result ≡ length c.args.polys.now.items = c.len-place-end.ensures
    ∙ c.args.polys.now.ok.0 in
    let last : length ps ≤ c.loop-place.place =
    omega (arith, c.loop-place-test.false, size, many) in
    let base = subst (λ ws. IsCoprimeBase (sizes ws)) c.deref.ensures.value
    (c.is_base-proper.ensures.0 c.if-not-proper.false) in (
      subst (λ k. IsRightForm images k (form_with c.args.base.now c.args.polys.now)) few
          (passes_all bs images ps count base
          (λ j l. c.loop-place.invariant.passes j (omega (arith, l, last)))),
      (
        c.loop-place.invariant.backs
            ∙ ap (map (inverse_form grevlex (length bs))) (take_all _ ps last),
        c.loop-place.invariant.over,
        base,
      ),
    )
