use Rattle.std.proofs.Common.{◌≡◌, ◌≢◌, ◌+◌, false, [], ◌∷◌, refl, sym, ap, subst, ◌∙◌, arith}
use Rattle.std.proofs.lemmas.List.{map-append}
use Rattle.std.proofs.lemmas.List.Elements.{All-nil, All-same}
use Rattle.machines.specs.Elimination.{all_free}
use Rattle.poly.specs.Seen.{terms_in, terms_each}
use Rattle.machines.specs.Front.{IsFreeOfFirst}
use Rattle.algebra.proofs.Lists.{take_next, have_more}
use Rattle.ideal_ops.specs.Eliminating.{AreKept}
use Rattle.machines.proofs.Keeping.{kept_none, kept_step_in, kept_step_out, free_all, not_free, rest_made, rest_some}
use Rattle.ideal_ops.proofs.Lists.{block_here, block_polynomial}
use Rattle.ideal_ops.proofs.eliminating.without_first.Goals as goal
use Rattle.ideal_ops.proofs.eliminating.without_first.Goals.{then-is_free_of_first+in_ok-without_first+in_ok-push, else-is_free_of_first}

pub loop-g-init : goal.loop-g-init
loop-g-init g c = (
  kept_none c.args.first _ (ap terms_each c.new-list.ensures.items),
  All-same (λ p. (p.arity ≡ c.args.rest) × (terms_in p ≢ [])) c.new-list.result.items []
      c.new-list.ensures.items (All-nil (λ p. (p.arity ≡ c.args.rest) × (terms_in p ≢ []))),
)

pub loop-g-preserved : goal.loop-g-preserved
loop-g-preserved g c =
    let S = g.K.Ring.scalars in
    let k = c.args.first in
    let m = c.args.rest in
    let e = c.g-item.result in
    let here = block_here k (k + m) c.args.basis.now c.loop-g.g-index e c.requires.block
    c.loop-g-test.true c.g-item.is in
    let more = take_next terms_in c.args.basis.now c.loop-g.g-index e c.loop-g-test.true
    c.g-item.is in
    elim c.if-is_free_of_first.branch [
      | then-is_free_of_first+in_ok-without_first+in_ok-push w ↦ (
          let q = w.in_ok-without_first.field-0 in
          let free : IsFreeOfFirst k (terms_in e) =
          c.is_free_of_first.ensures.0 w.if-is_free_of_first.true in
          let made = rest_made S g.met.K.Ring.ring g.met.K.Field.field g.met.K.Ring.zero_is k m
          q.arity (terms_in e) (terms_in q) free (block_polynomial (λ o. refl) k (k + m) e
          here.0 here.1) q.polynomial w.in_ok-without_first.ensures.rest.same in
          let arity : q.arity ≡ m = w.in_ok-without_first.ensures.rest.arity
          ∙ (let l = here.1 in omega (arith, l)) in
          let items = ap (λ v. v.items) w.list-is ∙ w.in_ok-push.ensures.items in (
            kept_step_in k _ _ (terms_each c.loop-g.list.items)
                (terms_each c.if-is_free_of_first.list.items) (terms_in e) (terms_in q) more
                (free_all k (terms_in e) free) (ap terms_each items
                ∙ map-append terms_in c.loop-g.list.items (q ∷ [])) made c.loop-g.invariant.0,
            have_more (λ p. (p.arity ≡ m) × (terms_in p ≢ [])) c.loop-g.list.items
                c.if-is_free_of_first.list.items q items c.loop-g.invariant.1 (
                  arity,
                  rest_some S g.met.K.Ring.ring g.met.K.Field.field g.met.K.Ring.zero_is k m
                      (terms_in e) (terms_in q) here.2 made,
                ),
          ))
      | else-is_free_of_first w ↦ (
          let out : all_free k (terms_in e) ≡ false = not_free k (terms_in e)
          (λ f. (let yes = c.is_free_of_first.ensures.1 f in let no =
          w.if-is_free_of_first.false in let z : ⊥ = cc in z)) in (
            ap (λ v. terms_each v.items) w.list-is
                ∙ kept_step_out k _ _ (terms_each c.loop-g.list.items) (terms_in e) more out
                c.loop-g.invariant.0,
            subst (λ v. AreKept m v.items) (sym w.list-is) c.loop-g.invariant.1,
          ))
    ]
