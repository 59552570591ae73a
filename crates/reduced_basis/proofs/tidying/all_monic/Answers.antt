use Rattle.std.proofs.Common.{◌≡◌, ◌≢◌, [], ◌∷◌, ◌++◌, map, take, sym, ap, ap₂, subst, ◌∙◌}
use Rattle.std.proofs.lemmas.List.{map-append}
use Rattle.std.proofs.lemmas.List.Elements.{All-push}
use Rattle.std.proofs.lemmas.Result.{err_from_is_err_and}
use Rattle.algebra.specs.Scalars.{field}
use Rattle.machines.specs.Cut.{monic}
use Rattle.poly.specs.Seen.{terms_in, terms_each}
use Rattle.divide.specs.Current.{AreDivisors}
use Rattle.divide.proofs.Divided.{pushed}
use Rattle.complete.proofs.Coming.{start_past}
use Rattle.algebra.proofs.Lists.{take_next}
use Rattle.reduced_basis.proofs.tidying.all_monic.Goals as goal

pub returns-in_err-made_monic-clause-wide : goal.returns-in_err-made_monic-clause-wide
returns-in_err-made_monic-clause-wide g c =
    let p = err_from_is_err_and c.from_residual-in_err-made_monic.result
    c.from_residual-in_err-made_monic.ensures.1 in
    λ w. start_past g.K.Ring.scalars terms_in c.args.list.now c.loop-g.g-index c.g-item.result
    c.loop-g-test.true c.g-item.is (c.in_err-made_monic.ensures.wide (cc (p.1, p.2, w)))

pub loop-g-preserved : goal.loop-g-preserved
loop-g-preserved g c =
    let M = monic (field g.K.Ring.scalars) in
    let list = c.args.list.now in
    let f = c.g-item.result in
    let q = c.in_ok-made_monic.field-0 in
    let seen = terms_each (take c.loop-g.g-index list) in
    let made = c.in_ok-made_monic.ensures in
    let first = subst (λ h. (h.order ≡ c.args.order) × (h.arity ≡ c.args.arity) × (terms_in h ≢ []))
    (sym c.g-item.is) (c.requires.divisors c.loop-g.g-index f c.loop-g-test.true) in (
      pushed terms_in c.loop-g.out.items c.push.new.self.items q c.in_ok-push.ensures.items
          ∙ ap₂ (λ l t. l ++ t ∷ []) c.loop-g.invariant.0 made.monic
          ∙ sym (map-append M seen (terms_in f ∷ []))
          ∙ ap (map M) (sym (take_next terms_in list c.loop-g.g-index f c.loop-g-test.true
          c.g-item.is)),
      subst (AreDivisors c.args.order c.args.arity) (sym c.in_ok-push.ensures.items)
          (All-push (λ h. (h.order ≡ c.args.order) × (h.arity ≡ c.args.arity) × (terms_in h ≢ []))
          c.loop-g.out.items q c.loop-g.invariant.1 (
            made.order ∙ first.0,
            made.arity
                ∙ first.1,
            made.nonzero,
          )),
    )
