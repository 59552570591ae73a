use Rattle.std.proofs.Common.{◌≡◌, All, length, refl, sym, subst, ◌∙◌, arith}
use Rattle.std.proofs.lemmas.List.Elements.{All-push}
use Rattle.poly.specs.Seen.{terms_in}
use Rattle.coprime_base.specs.Sizes.{sizes}
use Rattle.expo.specs.Images.{factor, factors_of}
use Rattle.expo.proofs.ImageLists.{multiple_pushed, multiples_done}
use Rattle.expo.proofs.Wholes.{item_above, item_nonzero, numbers_from, numbers_count}
use Rattle.expo.proofs.images.push_multiples.Goals as goal

pub factor_of-factor-requires : goal.factor_of-factor-requires
factor_of-factor-requires c = let above = item_above c.args.base.now c.loop-place.place
    c.index-base-place.result c.loop-place-test.true c.index-base-place.is c.requires.base in
    omega (arith, above)

pub multiple-requires-clause-nonzero : goal.multiple-requires-clause-nonzero
multiple-requires-clause-nonzero c = item_nonzero c.args.base.now c.loop-place.place
    c.index-base-place.result c.loop-place-test.true c.index-base-place.is c.args.inverted _
    c.requires.base c.factor_of-factor.ensures

pub loop-place-preserved : goal.loop-place-preserved
loop-place-preserved c =
    let ws = c.args.base.now in
    record {
      terms = multiple_pushed (λ p. terms_in p) c.loop-place.images.items c.push.new.self.items
          c.in_ok-multiple.field-0 c.in_ok-push.ensures.items c.args.arity c.args.from
          c.loop-place.place _ _ _ _ (factors_of c.args.inverted (sizes ws)) _ (omega arith)
          refl c.factor_of-factor.ensures (numbers_from ws c.loop-place.place
          c.index-base-place.result c.loop-place-test.true c.index-base-place.is
          (λ b. factor c.args.inverted b)) c.in_ok-multiple.ensures.terms
          c.loop-place.invariant.terms;
      arities = subst (λ l. All (λ p. p.arity ≡ c.args.arity) l) (sym c.in_ok-push.ensures.items)
          (All-push (λ p. p.arity ≡ c.args.arity) c.loop-place.images.items c.in_ok-multiple.field-0
          c.loop-place.invariant.arities c.in_ok-multiple.ensures.arity);
    }

pub returns-clause-images : goal.returns-clause-images
returns-clause-images c =
    let ws = c.args.base.now in
    let done : c.loop-place.place ≡ length ws = omega (
      arith,
      c.loop-place-test.false,
      c.loop-place.auto.place-end,
    ) in
    multiples_done c.args.arity (factors_of c.args.inverted (sizes ws)) _ c.loop-place.place _ _
    (done ∙ numbers_count (λ b. factor c.args.inverted b) ws) c.loop-place.invariant.terms
