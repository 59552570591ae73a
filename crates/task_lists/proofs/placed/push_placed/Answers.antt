use Rattle.std.proofs.Common.{◌≡◌, ◌+◌, ◌∷◌, drop, refl, ap, ◌∙◌, sym}
use Rattle.std.proofs.lemmas.List.{drop_all, drop_more}
use Rattle.algebra.specs.Fraction.{rationals}
use Rattle.polynomials.specs.Order.{grevlex, blocks}
use Rattle.machines.specs.Collect.{collect}
use Rattle.algebra.proofs.Lists.{have_more}
use Rattle.poly.specs.Standing.{IsInVariables}
use Rattle.task_lists.specs.Blocks.{Blocked}
use Rattle.task_lists.proofs.Differences.{all_at}
use Rattle.task_lists.proofs.Placing.{placed_is, left_next, left_end}
use Rattle.task_lists.proofs.placed.push_placed.Goals as goal

pub loop-p-init : goal.loop-p-init
loop-p-init c = record {
  placed = λ w qs a h. record { left = qs; stand = a; long = h; are = refl };
  block = λ w all old. old;
}

pub loop-p-preserved : goal.loop-p-preserved
loop-p-preserved c =
    let list = c.args.list.now in
    let i = c.loop-p.p-index in
    let p = c.p-item.result in
    let b = c.in_ok-reorder.field-0 in
    let is = c.in_ok-reorder.ensures.same in
    record {
      placed =
          λ w qs a h. left_next w (collect rationals (blocks c.args.first grevlex grevlex)) _ b
          c.in_ok-push.ensures.items p (λ q s e. placed_is c.args.first w p b is q s e) _ _
          (drop_more list i p c.loop-p-test.true ∙ ap (λ q. q ∷ drop (i + 1) list)
          (sym c.p-item.is)) (c.loop-p.invariant.placed w qs a h);
      block = λ w all old. have_more (λ (q : Blocked). (q.order.first ≡ c.args.first)
          × (q.arity ≡ w)) _ _ b c.in_ok-push.ensures.items (c.loop-p.invariant.block w all old) (
            ap (λ o. o.first) is.order,
            is.arity ∙ all_at (IsInVariables w) list i p c.loop-p-test.true c.p-item.is all,
          );
    }

pub returns-clause-placed : goal.returns-clause-placed
returns-clause-placed c = λ w qs a h.
    left_end w _ _ _ _ (drop_all _ _ c.loop-p-test.false) (c.loop-p.invariant.placed w qs a h)

pub returns-clause-block : goal.returns-clause-block
returns-clause-block c = c.loop-p.invariant.block
