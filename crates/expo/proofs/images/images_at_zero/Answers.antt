use Rattle.std.proofs.Common.{◌≡◌, ◌+◌, ◌*◌, [], ◌∷◌, All, replicate, ap, sym, subst, ◌∙◌, arith}
use Rattle.std.proofs.lemmas.List.Elements.{All-push}
use Rattle.algebra.specs.Fraction.{ℚ}
use Rattle.polynomials.specs.Order.{grevlex}
use Rattle.polynomials.specs.Polynomial.{IsPolynomial}
use Rattle.polynomials.specs.Terms.{constant}
use Rattle.poly.specs.Seen.{terms_in}
use Rattle.expo.proofs.ImageLists.{one_pushed, zero_made}
use Rattle.expo.proofs.Single.{one_is}
use Rattle.expo.proofs.images.images_at_zero.Goals as goal

pub loop-preserved : goal.loop-preserved
loop-preserved c =
    let p = c.in_ok-one.field-0 in
    let i = c.in_ok-one.ensures.one in
    record {
      terms = one_pushed (λ p. terms_in p) c.loop.images.items c.push-in-loop.new.self.items p
          c.in_ok-push-2.ensures.items c.args.vars c.loop.counter _ (omega arith)
          (one_is c.args.vars (terms_in p) (subst (λ n. IsPolynomial ℚ grevlex n (terms_in p))
          i.arity p.polynomial) i.same) c.loop.invariant.terms;
      arities = subst (λ l. All (λ p. p.arity ≡ c.args.vars) l) (sym c.in_ok-push-2.ensures.items)
          (All-push (λ p. p.arity ≡ c.args.vars) c.loop.images.items p c.loop.invariant.arities
          i.arity);
    }

pub returns-clause-images : goal.returns-clause-images
returns-clause-images c =
    let done : c.loop.counter ≡ 2 * c.args.count + 1 = omega arith in
    c.in_ok-push_variables.ensures.images
    ∙ zero_made c.args.count c.args.vars _ (c.loop.invariant.terms
    ∙ ap (λ n. [] ∷ replicate n (constant c.args.vars ℚ.one)) done)
