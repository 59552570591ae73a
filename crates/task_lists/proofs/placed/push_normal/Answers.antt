use Rattle.std.proofs.Common.{◌≡◌, ◌≤◌, ◌+◌, ◌∷◌, drop, length, refl, ap, ◌∙◌, sym}
use Rattle.std.proofs.lemmas.List.{drop_all, drop_more}
use Rattle.std.proofs.lemmas.Result.{err_from_is_err_and}
use Rattle.polynomials.specs.Order.{grevlex, blocks}
use Rattle.coprime_base.specs.Sizes.{sizes}
use Rattle.algebra.proofs.Growing.{any_mapped}
use Rattle.algebra.proofs.Lists.{have_more}
use Rattle.poly.specs.Seen.{terms_in}
use Rattle.poly.specs.Standing.{IsInVariables}
use Rattle.loop_model.specs.FracPoly.{FracPoly}
use Rattle.rounds.specs.Form.{front, normal}
use Rattle.task_lists.specs.Blocks.{Blocked}
use Rattle.task_lists.proofs.Differences.{all_at}
use Rattle.task_lists.proofs.Placing.{normal_is, left_next, left_end}
use Rattle.task_lists.proofs.placed.push_normal.Goals as goal

pub loop-p-init : goal.loop-p-init
loop-p-init c = record {
  normal = λ w qs a h. record { left = qs; stand = a; long = h; are = refl };
  block = λ w all old. old;
}

pub loop-p-preserved : goal.loop-p-preserved
loop-p-preserved c =
    let r = length (sizes c.args.base.now.items) in
    let list = c.args.list.now in
    let i = c.loop-p.p-index in
    let p = c.p-item.result in
    let b = c.in_ok-reorder.field-0 in
    let is = c.in_ok-reorder.ensures.same in
    let some = all_at (λ (q : FracPoly). front r ≤ q.arity) list i p c.loop-p-test.true c.p-item.is
    c.requires.front in
    record {
      normal =
          λ w qs a h. left_next w (normal (blocks c.args.first grevlex grevlex) r) _ b
          c.in_ok-push.ensures.items p (λ q s e. normal_is c.args.first w r p c.in_ok-normal.normal
          b c.in_ok-normal.ensures.normal c.in_ok-normal.ensures.arity some is q s e) _ _
          (drop_more list i p c.loop-p-test.true ∙ ap (λ q. q ∷ drop (i + 1) list)
          (sym c.p-item.is)) (c.loop-p.invariant.normal w qs a h);
      block = λ w all old. have_more (λ (q : Blocked). (q.order.first ≡ c.args.first)
          × (q.arity ≡ w)) _ _ b c.in_ok-push.ensures.items (c.loop-p.invariant.block w all old) (
            ap (λ o. o.first) is.order,
            is.arity ∙ c.in_ok-normal.ensures.arity
                ∙ all_at (IsInVariables w) list i p c.loop-p-test.true c.p-item.is all,
          );
    }

pub returns-clause-normal : goal.returns-clause-normal
returns-clause-normal c = λ w qs a h.
    left_end w _ _ _ _ (drop_all _ _ c.loop-p-test.false) (c.loop-p.invariant.normal w qs a h)

pub returns-clause-block : goal.returns-clause-block
returns-clause-block c = c.loop-p.invariant.block

pub returns-in_err-normal-clause-wide : goal.returns-in_err-normal-clause-wide
returns-in_err-normal-clause-wide c =
    let p = err_from_is_err_and c.from_residual.result c.from_residual.ensures.1 in
    λ w. any_mapped terms_in _ _ _ _
    c.loop-p-test.true c.p-item.is (c.in_err-normal.ensures.wide (cc (p.1, p.2, w)))
