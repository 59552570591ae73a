use Rattle.std.proofs.Common.{◌≡◌, All, sym, subst, arith}
use Rattle.std.proofs.lemmas.List.Elements.{All-push}
use Rattle.poly.specs.Seen.{terms_in}
use Rattle.expo.proofs.ImageLists.{variable_pushed, variables_done}
use Rattle.expo.proofs.Binomials.{some_natural}
use Rattle.expo.proofs.images.push_variables.Goals as goal

pub multiple-requires-clause-nonzero : goal.multiple-requires-clause-nonzero
multiple-requires-clause-nonzero c = some_natural 1 _ (omega arith) c.one.ensures

pub loop-place-preserved : goal.loop-place-preserved
loop-place-preserved c = record {
  terms = variable_pushed (λ p. terms_in p) c.loop-place.images.items c.push.new.self.items
      c.in_ok-multiple.field-0 c.in_ok-push.ensures.items c.args.arity c.loop-place.place _ _ _
      (omega arith) c.one.ensures c.in_ok-multiple.ensures.terms c.loop-place.invariant.terms;
  arities = subst (λ l. All (λ p. p.arity ≡ c.args.arity) l) (sym c.in_ok-push.ensures.items)
      (All-push (λ p. p.arity ≡ c.args.arity) c.loop-place.images.items c.in_ok-multiple.field-0
      c.loop-place.invariant.arities c.in_ok-multiple.ensures.arity);
}

pub returns-clause-images : goal.returns-clause-images
returns-clause-images c = variables_done c.args.arity c.loop-place.place _ _
    (omega (arith, c.loop-place-test.false, c.loop-place.auto.place-end, c.requires.from))
    c.loop-place.invariant.terms
