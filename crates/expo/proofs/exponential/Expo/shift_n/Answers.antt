use Rattle.std.proofs.Common.{All, length, ap, ap₂, sym, subst, ◌≡◌, ◌∙◌}
use Rattle.algebra.specs.Fraction.{ℚ, fractions}
use Rattle.polynomials.specs.Terms.{Same, compose}
use Rattle.polynomials.specs.Weight.{IsPastComposition}
use Rattle.poly.specs.Seen.{terms_in, terms_each, arity_of}
use Rattle.poly.proofs.Standing.{first_arity}
use Rattle.coprime_base.specs.Sizes.{sizes}
use Rattle.solvable_maps.specs.Expo.{with_normal_keys, next_images}
use Rattle.solvable_maps.specs.Iterations.{width}
use Rattle.expo.specs.Operations.{at_next}
use Rattle.expo.specs.View.{base_of}
use Rattle.expo.proofs.Calls.{AreNext, are_next, shifted_made}
use Rattle.expo.proofs.Outcomes.{wide_of}
use Rattle.expo.proofs.Results.{IsNormalList, made_expo, shifted_past}
use Rattle.expo.proofs.Values.{shifted_values}
use Rattle.expo.proofs.exponential.Expo.shift_n.Goals as goal
use Rattle.expo.proofs.exponential.Expo.shift_n.Goals.{In_ok-images, In_ok-body}

images_are : (c : In_ok-images) → AreNext c.args.self.now c.in_ok-images.images.items
    (λ p. terms_in p) (λ p. p.arity)
images_are c =
    are_next c.args.self.now c.in_ok-images.images.items (λ p. terms_in p) (λ p. p.arity)
    (λ p. p.polynomial) _ _ (ap sizes (c.deref.ensures.value
    ∙ ap (λ v. v.items) c.base.ensures)) c.vars.ensures
    c.in_ok-images.ensures.arities c.in_ok-images.ensures.images

list_is : (c : In_ok-body) → AreNext c.args.self.now c.in_ok-images.images.items (λ p. terms_in p)
    (λ p. p.arity) → IsNormalList (length (base_of c.args.self.now)) (at_next c.args.self.now)
    (terms_in c.in_ok-body.body)
list_is c are =
    let ims = c.in_ok-images.images.items in
    let i = c.in_ok-body.ensures.composition in
    shifted_made c.args.self.now (terms_each ims) are.arities are.like (terms_in c.in_ok-body.body)
    (arity_of ims) c.in_ok-body.body.arity (first_arity _ ims are.over are.some) i.arity
    c.in_ok-body.body.polynomial
    (subst (λ x. Same ℚ (terms_in c.in_ok-body.body) (compose ℚ (arity_of ims) x (terms_each ims)))
    (ap terms_in c.body.ensures) i.same)

pub compose-requires-clause-count : goal.compose-requires-clause-count
compose-requires-clause-count c =
    (images_are (goal.at.compose-requires-clause-count c).In_ok-images).count
    ∙ sym (ap (λ p. p.arity) c.body.ensures)

pub compose-requires-clause-arities : goal.compose-requires-clause-arities
compose-requires-clause-arities c =
    let are = images_are (goal.at.compose-requires-clause-arities c).In_ok-images in
    let ims = c.in_ok-images.images.items in
    subst (λ n. All (λ p. p.arity ≡ n) ims) (sym (first_arity _ ims are.over are.some)) are.over

pub of-requires-clause-arity : goal.of-requires-clause-arity
of-requires-clause-arity c =
    let are = images_are (goal.at.of-requires-clause-arity c).In_ok-images in
    c.in_ok-body.ensures.composition.arity ∙ first_arity _ c.in_ok-images.images.items are.over
    are.some
    ∙ sym (ap₂ (λ ws v. width (length (sizes ws)) v) (c.deref-2.ensures.value
    ∙ ap (λ v. v.items) c.base-2.ensures) c.vars-2.ensures)

pub of-requires-clause-normal : goal.of-requires-clause-normal
of-requires-clause-normal c =
    let at = goal.at.of-requires-clause-normal c in
    let q = terms_in c.in_ok-body.body in
    subst (λ ws. with_normal_keys (length (sizes ws)) q ≡ q) (sym (c.deref-2.ensures.value
    ∙ ap (λ v. v.items) c.base-2.ensures))
    (list_is at.In_ok-body (images_are at.In_ok-images)).normal

pub returns-clause-shifted : goal.returns-clause-shifted
returns-clause-shifted c =
    let at = goal.at.returns-clause-shifted c in
    made_expo _ _ _ _ (terms_in c.in_ok-body.body) (at_next c.args.self.now)
    (ap sizes (c.deref-2.ensures.value ∙ ap (λ v. v.items) c.base-2.ensures)) c.vars-2.ensures
    (list_is at.In_ok-body (images_are at.In_ok-images)).is
    c.in_ok-of.field-0
    c.in_ok-of.ensures.base c.in_ok-of.ensures.vars c.in_ok-of.ensures.terms

pub returns-clause-values : goal.returns-clause-values
returns-clause-values c =
    let e = c.args.self.now in
    shifted_values (base_of e) e.coprime.0 e.vars c.in_ok-of.field-0 (terms_in e.body)
    (returns-clause-shifted c)

pub returns-in_err-body-clause-wide : goal.returns-in_err-body-clause-wide
returns-in_err-body-clause-wide c =
    let e = c.args.self.now in
    let ims = c.in_ok-images.images.items in
    λ w. shifted_past (next_images (base_of e) e.vars) (terms_each ims) (terms_in e.body)
    (images_are (goal.at.returns-in_err-body-clause-wide c).In_ok-images).like
    (subst (λ x. IsPastComposition fractions x (terms_each ims)) (ap terms_in c.body.ensures)
    (c.in_err-body.ensures.wide
    (cc (wide_of c.from_residual-in_err-body.result c.in_err-body.field-0.0
    c.from_residual-in_err-body.ensures.1 w))))
