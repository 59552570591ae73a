use Rattle.std.proofs.Common.{◌≡◌, ◌++◌, sym, ap, ◌∙◌}
use Rattle.std.proofs.lemmas.List.{append-nil, take_all}
use Rattle.poly.specs.Seen.{terms_in, terms_each}
use Rattle.algebra.proofs.Growing.{grown_behind}
use Rattle.algebra.proofs.Lists.{have_more}
use Rattle.ideal_ops.proofs.Lists.{arity_here}
use Rattle.ideal_ops.proofs.operations.push_copies.Goals as goal

pub loop-p-init : goal.loop-p-init
loop-p-init g c = (sym (append-nil _), (λ m a b. a))

pub loop-p-preserved : goal.loop-p-preserved
loop-p-preserved g c =
    let q = c.in_ok-copy.field-0 in (
      grown_behind terms_in terms_in _ c.args.list.now c.loop-p.p-index c.p-item.result
          c.loop-p.gens.items c.push.new.self.items q c.loop-p-test.true c.p-item.is
          c.in_ok-push.ensures.items c.in_ok-copy.ensures.terms c.loop-p.invariant.0,
      (λ m a b. have_more (λ p. p.arity ≡ m) c.loop-p.gens.items c.push.new.self.items q
          c.in_ok-push.ensures.items (c.loop-p.invariant.1 m a b)
          (c.in_ok-copy.ensures.arity ∙ arity_here m c.args.list.now c.loop-p.p-index
          c.p-item.result b c.loop-p-test.true c.p-item.is)),
    )

pub returns-clause-terms : goal.returns-clause-terms
returns-clause-terms g c = c.loop-p.invariant.0
    ∙ ap (λ ps. terms_each c.args.gens.now.items ++ terms_each ps)
    (take_all _ _ c.loop-p-test.false)

pub returns-clause-arity : goal.returns-clause-arity
returns-clause-arity g c = c.loop-p.invariant.1
