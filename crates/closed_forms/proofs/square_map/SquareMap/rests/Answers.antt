use Rattle.std.proofs.Common.{length, sym, ap, ◌∙◌, ◌≡◌}
use Rattle.solvable_maps.specs.Uses.{poly_at}
use Rattle.poly.specs.Seen.{terms_in, terms_each}
use Rattle.solvable_maps.specs.AfterIterations.{rest_of}
use Rattle.solvable.proofs.Using.{FracPoly, poly_at-is, arity_at}
use Rattle.algebra.proofs.Lists.{have_more}
use Rattle.closed_forms.proofs.Alone.{made_next}
use Rattle.closed_forms.proofs.square_map.SquareMap.rests.Goals as goal

pub loop-variable-preserved : goal.loop-variable-preserved
loop-variable-preserved c =
    let images = c.args.self.now.images.now.items in
    let g = c.args.group.now in
    let i = c.loop-variable.variable-index in
    let low = c.requires i 0 c.loop-variable-test.true in (
      have_more (λ (p : FracPoly). p.arity ≡ length images) _ _ _ c.in_ok-push.ensures.items
          c.loop-variable.invariant.0 (c.in_ok-rest_of.ensures.arity ∙ arity_at images _ _ _ low
          c.index.ensures c.args.self.now.square),
      made_next terms_in (λ i. rest_of g (poly_at (terms_each images) i)) g i _
          c.in_ok-rest_of.field-0
          c.loop-variable-test.true
          c.loop-variable.invariant.1 c.in_ok-push.ensures.items
          (c.in_ok-rest_of.ensures.terms ∙ ap (rest_of g)
          (sym (poly_at-is images _ _ low c.index.ensures))),
    )
