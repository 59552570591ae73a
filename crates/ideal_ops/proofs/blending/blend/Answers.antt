use Rattle.std.proofs.Common.{◌≡◌, ◌+◌, ◌++◌, [], map, sym, ap, ◌∙◌}
use Rattle.std.proofs.lemmas.List.{append-nil, take_all}
use Rattle.std.proofs.lemmas.List.Elements.{All-nil, All-same}
use Rattle.algebra.specs.Scalars.{field}
use Rattle.machines.specs.Elimination.{with_first}
use Rattle.poly.specs.Seen.{terms_in, terms_each}
use Rattle.algebra.proofs.Growing.{grown_through}
use Rattle.algebra.proofs.Lists.{have_more}
use Rattle.poly.specs.Blending.{times_rest}
use Rattle.ideal_ops.proofs.Lists.{arity_here}
use Rattle.ideal_ops.proofs.blending.blend.Goals as goal

pub loop-p-init : goal.loop-p-init
loop-p-init g c = (
  ap terms_each c.new-gens.ensures.items,
  All-same (λ q. (q.order.first ≡ 1) × (q.arity ≡ 1 + c.args.arity)) c.new-gens.result.items []
      c.new-gens.ensures.items (All-nil (λ q. (q.order.first ≡ 1) × (q.arity ≡ 1 + c.args.arity))),
)

pub loop-p-preserved : goal.loop-p-preserved
loop-p-preserved g c =
    let q = c.in_ok-times_t.field-0 in (
      grown_through terms_in with_first terms_in [] c.args.left.now c.loop-p.p-index c.p-item.result
          c.loop-p.gens.items c.push.new.self.items q c.loop-p-test.true c.p-item.is
          c.in_ok-push.ensures.items c.in_ok-times_t.ensures.product c.loop-p.invariant.0,
      have_more (λ p. (p.order.first ≡ 1) × (p.arity ≡ 1 + c.args.arity)) c.loop-p.gens.items
          c.push.new.self.items q c.in_ok-push.ensures.items c.loop-p.invariant.1 (
            c.in_ok-times_t.ensures.order,
            c.in_ok-times_t.ensures.arity
                ∙ ap (λ n. 1 + n) (arity_here c.args.arity c.args.left.now c.loop-p.p-index
                c.p-item.result c.requires.left c.loop-p-test.true c.p-item.is),
          ),
    )

pub loop-q-init : goal.loop-q-init
loop-q-init g c = (
  c.loop-p.invariant.0 ∙ ap (λ ps. map with_first (terms_each ps))
      (take_all c.loop-p.p-index c.args.left.now c.loop-p-test.false)
      ∙ sym (append-nil (map with_first (terms_each c.args.left.now))),
  c.loop-p.invariant.1,
)

pub loop-q-preserved : goal.loop-q-preserved
loop-q-preserved g c =
    let p = c.in_ok-times_one_less_t.field-0 in (
      grown_through terms_in (times_rest (field g.K.Ring.scalars)) terms_in
          (map with_first (terms_each c.args.left.now)) c.args.right.now c.loop-q.q-index
          c.q-item.result c.loop-q.gens.items c.push-in-loop-q.new.self.items p c.loop-q-test.true
          c.q-item.is c.in_ok-push-2.ensures.items c.in_ok-times_one_less_t.ensures.product
          c.loop-q.invariant.0,
      have_more (λ q. (q.order.first ≡ 1) × (q.arity ≡ 1 + c.args.arity)) c.loop-q.gens.items
          c.push-in-loop-q.new.self.items p c.in_ok-push-2.ensures.items c.loop-q.invariant.1 (
            c.in_ok-times_one_less_t.ensures.order,
            c.in_ok-times_one_less_t.ensures.arity
                ∙ ap (λ n. 1 + n) (arity_here c.args.arity c.args.right.now c.loop-q.q-index
                c.q-item.result c.requires.right c.loop-q-test.true c.q-item.is),
          ),
    )

pub returns-clause-blend : goal.returns-clause-blend
returns-clause-blend g c = c.loop-q.invariant.0
    ∙ ap (λ ps. map with_first (terms_each c.args.left.now)
    ++ map (times_rest (field g.K.Ring.scalars)) (terms_each ps))
    (take_all c.loop-q.q-index c.args.right.now c.loop-q-test.false)
