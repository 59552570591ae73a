use Rattle.std.proofs.Common.{◌≢◌, [], inl, inr, sym, true≢false, ◌∙◌}
use Rattle.std.proofs.lemmas.Result.{err_from_is_err_and, IfOk-weaker}
use Rattle.poly.specs.Seen.{terms_in}
use Rattle.poly.proofs.Standing.{arity_over}
use Rattle.task_lists.proofs.Combining.{place_in, at_place, image_at}
use Rattle.task_lists.proofs.Represented.{pair_past, holds_by, fails_by}
use Rattle.task_lists.proofs.Raised.{multiple_length}
use Rattle.task_lists.proofs.pairs.is_lcm_representation.Goals as goal

pub returns-in_err-pair-clause-wide : goal.returns-in_err-pair-clause-wide
returns-in_err-pair-clause-wide g c =
    let ps = c.args.list.now in
    let first = place_in terms_in ps c.args.left c.requires.left in
    let other = place_in terms_in ps c.args.right c.requires.right in
    let p = err_from_is_err_and c.from_residual-in_err-pair.result
    c.from_residual-in_err-pair.ensures.1 in
    λ w. inl (pair_past _ _ (first.1 c.index-list-left.result c.index-list-left.is)
    (other.1 c.index-list-right.result c.index-list-right.is) c.in_ok-multiple.ensures.multiple
    first.0 other.0 (c.in_err-pair.ensures.wide (cc (p.1, p.2, w))))

pub returns-in_err-sum-clause-wide : goal.returns-in_err-sum-clause-wide
returns-in_err-sum-clause-wide g c =
    let p = err_from_is_err_and c.from_residual-in_err-sum.result
    c.from_residual-in_err-sum.ensures.1 in
    λ w. inr (c.in_err-sum.ensures.wide (cc (p.1, p.2, w)))

pub are_below-requires-clause-long : goal.are_below-requires-clause-long
are_below-requires-clause-long g c =
    let ps = c.args.list.now in
    let f = c.index-list-left.result in
    let h = c.index-list-right.result in
    multiple_length c.args.arity _ _ (at_place (λ x. terms_in x ≢ []) ps c.requires.nonzero
    c.args.left f c.requires.left c.index-list-left.is) (at_place (λ x. terms_in x ≢ []) ps
    c.requires.nonzero c.args.right h c.requires.right c.index-list-right.is) (arity_over _ f
    (image_at _ _ ps c.requires.list _ f c.requires.left c.index-list-left.is).arity) (arity_over _
    h (image_at _ _ ps c.requires.list _ h c.requires.right c.index-list-right.is).arity)
    c.in_ok-multiple.ensures.multiple

pub returns-then-eq-clause-holds : goal.returns-then-eq-clause-holds
returns-then-eq-clause-holds g c =
    let ps = c.args.list.now in
    let f = c.index-list-left.result in
    let first = place_in terms_in ps c.args.left c.requires.left in
    let other = place_in terms_in ps c.args.right c.requires.right in
    let image = image_at _ _ ps c.requires.list _ f c.requires.left c.index-list-left.is in
    let pair = c.in_ok-pair.ensures.difference in
    let sum = c.in_ok-sum.ensures.sum in
    let tells = c.eq.ensures.decides (pair.order ∙ image.order ∙ sym sum.order)
    (pair.arity ∙ image.arity ∙ sym sum.arity) in
    IfOk-weaker c.are_below.result _ _ (λ b below. holds_by _ _ (first.1 f c.index-list-left.is)
    (other.1 c.index-list-right.result c.index-list-right.is) c.in_ok-multiple.ensures.multiple
    first.0 other.0 (g.met.O.Order.is_order c.args.order) _ _ _
    pair.same sum.same (tells.0 c.if-eq.true) b below) c.are_below.ensures.below

pub returns-then-eq-clause-wide : goal.returns-then-eq-clause-wide
returns-then-eq-clause-wide g c = λ w. inr (c.are_below.ensures.wide w)

pub returns-clause-holds : goal.returns-clause-holds
returns-clause-holds g c =
    let ps = c.args.list.now in
    let f = c.index-list-left.result in
    let first = place_in terms_in ps c.args.left c.requires.left in
    let other = place_in terms_in ps c.args.right c.requires.right in
    let image = image_at _ _ ps c.requires.list _ f c.requires.left c.index-list-left.is in
    let pair = c.in_ok-pair.ensures.difference in
    let sum = c.in_ok-sum.ensures.sum in
    let tells = c.eq.ensures.decides (pair.order ∙ image.order ∙ sym sum.order)
    (pair.arity ∙ image.arity ∙ sym sum.arity) in (
      λ t. absurd (true≢false (sym t)),
      λ h. absurd (fails_by _ _ (first.1 f c.index-list-left.is)
          (other.1 c.index-list-right.result c.index-list-right.is)
          c.in_ok-multiple.ensures.multiple first.0 other.0 (g.met.O.Order.is_order c.args.order) _
          _ _ pair.same sum.same (λ s. true≢false (sym (tells.1 s) ∙ c.if-eq.false)) h),
    )
