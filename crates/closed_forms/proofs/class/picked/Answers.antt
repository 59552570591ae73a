use Rattle.std.proofs.Common.{◌≡◌, sym, ◌∙◌}
use Rattle.solvable_maps.specs.Uses.{poly_at}
use Rattle.poly.specs.Seen.{terms_in, terms_each}
use Rattle.algebra.proofs.Lists.{have_more}
use Rattle.solvable.proofs.Using.{FracPoly, poly_at-is, arity_at}
use Rattle.closed_forms.proofs.Alone.{made_next}
use Rattle.closed_forms.proofs.class.picked.Goals as goal

pub loop-variable-preserved : goal.loop-variable-preserved
loop-variable-preserved c =
    let state = c.args.state.now in
    let g = c.args.group.now in
    let i = c.loop-variable.variable-index in
    let low = c.requires i 0 c.loop-variable-test.true in
    let p = c.in_ok-copy.field-0 in
    let own = c.index-state-variable.result in (
      λ w h. have_more (λ (p : FracPoly). p.arity ≡ w) _ _ p c.in_ok-push.ensures.items
          (c.loop-variable.invariant.0 w h)
          (c.in_ok-copy.ensures.arity ∙ arity_at state w _ own low c.index-state-variable.is h),
      made_next terms_in (poly_at (terms_each state)) g i _ p c.loop-variable-test.true
          c.loop-variable.invariant.1
          c.in_ok-push.ensures.items (c.in_ok-copy.ensures.terms
          ∙ sym (poly_at-is state _ own low c.index-state-variable.is)),
    )
