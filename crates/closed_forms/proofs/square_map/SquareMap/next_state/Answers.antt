use Rattle.std.proofs.Common.{◌≡◌, ◌<◌, ◌≤◌, ◌∙◌, List, length, ap, subst, arith}
use Rattle.std.proofs.lemmas.List.{take_all}
use Rattle.algebra.proofs.Lists.{have_more}
use Rattle.solvable.proofs.Using.{FracPoly}
use Rattle.closed_forms.specs.SquareMap.{size_by}
use Rattle.closed_forms.proofs.Making.{arity_of_is, over_images}
use Rattle.closed_forms.proofs.StateLists.{image_next, images_all, past_image}
use Rattle.closed_forms.proofs.Mixing.{wide_on, read_of}
use Rattle.closed_forms.proofs.square_map.SquareMap.next_state.Goals as goal
use Rattle.closed_forms.proofs.square_map.SquareMap.next_state.Goals.{After-image-item}

-- a state isn't empty where an image is left
some : (c : After-image-item) → 0 < length c.args.state.now.items
some c =
    let k = c.loop-image-test.true in
    let e = ap length c.deref-image-items.ensures.value in
    let n = c.requires.count in
    omega (arith, k, e, n)

pub compose-requires-clause-arities : goal.compose-requires-clause-arities
compose-requires-clause-arities c = over_images _ _
    (some (goal.at.compose-requires-clause-arities c).After-image-item) c.requires.arities

pub loop-image-preserved : goal.loop-image-preserved
loop-image-preserved c =
    let S = c.args.state.now.items in
    let m = size_by c.args.self.now in
    let p = c.in_ok-compose.field-0 in
    let i = c.in_ok-compose.ensures.composition in
    let at = read_of c.deref-image-items.ensures.value c.loop-image-test.true c.image-item.is in
    let some = some (goal.at.loop-image-preserved c).After-image-item in (
      image_next m S _ _ _ p some
          c.requires.arities at.0 at.1 c.in_ok-push.ensures.items
          i.arity i.same c.loop-image.invariant.0,
      have_more (λ (p : FracPoly). p.arity ≡ m) _ _ p c.in_ok-push.ensures.items
          c.loop-image.invariant.1 (i.arity ∙ arity_of_is m S some c.requires.arities),
    )

pub returns-clause-terms : goal.returns-clause-terms
returns-clause-terms c =
    images_all _ _ _ _ c.loop-image.invariant.0 (take_all _ _ (subst (λ (ps : List FracPoly). length
    ps ≤ c.loop-image.image-index) c.deref-image-items.ensures.value c.loop-image-test.false))

pub returns-in_err-compose-clause-wide : goal.returns-in_err-compose-clause-wide
returns-in_err-compose-clause-wide c =
    let at = read_of c.deref-image-items.ensures.value c.loop-image-test.true c.image-item.is in
    wide_on c.from_residual.ensures.1 (λ w. past_image _ _ _ at.0 at.1
    (c.in_err-compose.ensures.wide w))
