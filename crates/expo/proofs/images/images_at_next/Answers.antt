use Rattle.std.proofs.Common.{◌≡◌, [], ◌∷◌, ◌++◌, All, length, sym, ap, subst, ◌∙◌, arith}
use Rattle.std.proofs.lemmas.List.{length-map}
use Rattle.algebra.specs.Fraction.{ℚ}
use Rattle.poly.specs.Seen.{terms_in, terms_each}
use Rattle.coprime_base.specs.Sizes.{sizes}
use Rattle.solvable_maps.specs.Iterations.{width}
use Rattle.expo.specs.Images.{IsMultiple}
use Rattle.expo.proofs.ImageLists.{all_made}
use Rattle.expo.proofs.Single.{minus_nonzero}
use Rattle.expo.proofs.images.images_at_next.Goals as goal

pub multiple-requires-clause-nonzero : goal.multiple-requires-clause-nonzero
multiple-requires-clause-nonzero c = minus_nonzero _ _ c.one.ensures c.neg.ensures

pub returns-clause-images : goal.returns-clause-images
returns-clause-images c =
    let ws = c.args.base.now in
    let n : length ws ≡ length (sizes ws) = sym (length-map ws _) in
    let w = c.width-arity.ensures in
    let front = c.width.ensures in
    all_made (sizes ws) c.args.vars _ _ _ _ _ _ _ (terms_in c.in_ok-one_more.field-0)
    (terms_in c.in_ok-multiple.field-0) (omega (arith, n, w)) (omega (arith, n))
    (omega (arith, n, front))
    (ap terms_each (c.in_ok-push-2.ensures.items ∙ ap (λ l. l ++ c.in_ok-multiple.field-0 ∷ [])
    (c.in_ok-push.ensures.items ∙ ap (λ l. l ++ c.in_ok-one_more.field-0 ∷ [])
    c.in_ok-images.ensures.items))) c.in_ok-one_more.ensures.terms
    (subst (λ x. IsMultiple c.width-arity.result x 1
    (terms_in c.in_ok-multiple.field-0)) (c.neg.ensures ∙ ap ℚ.neg c.one.ensures)
    c.in_ok-multiple.ensures.terms)
    c.in_ok-push_multiples.ensures.images c.in_ok-push_multiples-2.ensures.images
    c.in_ok-push_variables.ensures.images

pub returns-clause-arities : goal.returns-clause-arities
returns-clause-arities c =
    let ws = c.args.base.now in
    let n : length ws ≡ length (sizes ws) = sym (length-map ws _) in
    let w = c.width-arity.ensures in
    let wide : c.width-arity.result ≡ width (length (sizes ws)) c.args.vars =
    omega (arith, n, w) in
    subst (λ n. All (λ p. p.arity ≡ n) c.push_variables.new.images.items) wide
    c.in_ok-push_variables.ensures.arities
