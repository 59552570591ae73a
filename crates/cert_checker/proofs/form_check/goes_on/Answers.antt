use Rattle.std.proofs.Common.{◌≡◌, ◌≤◌, length, inl, refl, sym, ap, subst, ◌∙◌, arith, Vec, Global}
use Rattle.std.proofs.lemmas.Result.{err_from_is_err_and}
use Rattle.algebra.specs.Fraction.{ℚ}
use Rattle.polynomials.specs.Terms.{Same, compose}
use Rattle.solvable_maps.specs.Expo.{with_normal_keys, next_images}
use Rattle.solvable_maps.specs.Iterations.{width}
use Rattle.poly.specs.Seen.{arity_of, terms_in, terms_each, Is}
use Rattle.poly.proofs.Standing.{first_arity}
use Rattle.frac128.specs.declared.Whole.{Whole}
use Rattle.coprime_base.specs.Sizes.{sizes}
use Rattle.expo.specs.Operations.{normal_of, vars_of}
use Rattle.expo.specs.View.{IsExpo}
use Rattle.cert_checker.proofs.Normal.{normal_same, next_same, same_tells, moved_past}
use Rattle.cert_checker.proofs.form_check.goes_on.Goals as goal

pub returns-in_err-normal-clause-wide : goal.returns-in_err-normal-clause-wide
returns-in_err-normal-clause-wide c =
    let w = width (length (sizes c.args.e.now.base.items)) c.args.image.now.arity in
    let ps = c.args.polys.now.items in
    let moved = c.in_ok-moved.moved in
    let is = c.in_ok-moved.ensures.composition in
    let first : arity_of ps ≡ w = first_arity w ps c.requires.polys
    (omega (arith, c.requires.some, c.requires.count)) in
    let stands : Is moved.order w (compose ℚ w (terms_in c.args.image.now) (terms_each ps)) moved =
    record {
      order = refl;
      arity = is.arity ∙ first;
      same = subst (λ n. Same ℚ (terms_in moved)
          (compose ℚ n (terms_in c.args.image.now) (terms_each ps))) first is.same;
    } in
    let p = err_from_is_err_and c.from_residual-in_err-normal.result
    c.from_residual-in_err-normal.ensures.1 in
    λ e. inl (moved_past w (terms_in c.args.image.now) (terms_each ps) moved stands
    (c.in_err-normal.ensures.wide (cc (p.1, p.2, e))))

pub returns-clause-holds : goal.returns-clause-holds
returns-clause-holds c =
    let bs = sizes c.args.e.now.base.items in
    let w = width (length bs) c.args.image.now.arity in
    let ps = c.args.polys.now.items in
    let moved = c.in_ok-moved.moved in
    let is = c.in_ok-moved.ensures.composition in
    let first : arity_of ps ≡ w = first_arity w ps c.requires.polys
    (omega (arith, c.requires.some, c.requires.count)) in
    let wide : moved.arity ≡ w = is.arity ∙ first in
    let room : width (length bs) 0 ≤ moved.arity = omega (arith, wide) in
    let left = normal_same bs moved _ c.in_ok-normal.normal room (subst (λ (v : Vec Whole Global).
    IsExpo (sizes v.items) (vars_of (sizes v.items) moved.arity)
    (normal_of (sizes v.items) (terms_in moved)) c.in_ok-normal.normal) c.base.ensures
    c.in_ok-normal.ensures.normal) (subst (λ n. Same ℚ (terms_in moved)
    (compose ℚ n (terms_in c.args.image.now) (terms_each ps))) first is.same) in
    let right = next_same bs c.args.image.now.arity c.args.e.now c.in_ok-next.next
    refl c.requires.vars c.in_ok-next.ensures.shifted in
    let one = c.body.ensures in
    let other = c.body-2.ensures in
    same_tells _ _ c.eq.result (c.eq.ensures.decides refl (ap (λ p. p.arity) one ∙ left.0 ∙ wide
    ∙ sym right.0 ∙ sym (ap (λ p. p.arity) other))) (subst (λ p. Same ℚ (terms_in p)
    (with_normal_keys (length bs) (compose ℚ w (terms_in c.args.image.now) (terms_each ps))))
    (sym one) left.1) (subst (λ p. Same ℚ (terms_in p) (compose ℚ w (terms_in c.args.e.now.body)
    (next_images bs c.args.image.now.arity))) (sym other) right.1)
