use Rattle.std.proofs.Common.{◌↔◌, IsTrue, refl, sym, subst, arith, true≢false}
use Rattle.std.proofs.lemmas.List.{length-map}
use Rattle.std.proofs.lemmas.Result.{err_from_is_err_and}
use Rattle.algebra.specs.Fraction.{ℚ, rationals}
use Rattle.polynomials.specs.Terms.{times}
use Rattle.corollaries.specs.Representation.{IsLeadBelow}
use Rattle.poly.specs.Seen.{terms_in}
use Rattle.task_lists.proofs.Below.{below_start, below_more, below_fails, below_end}
use Rattle.task_lists.proofs.Combining.{place_in, product_past, image_at}
use Rattle.task_lists.proofs.pairs.are_below.Goals as goal

pub loop-i-init : goal.loop-i-init
loop-i-init g c = below_start rationals _ _ _ _

pub returns-in_err-below-clause-wide : goal.returns-in_err-below-clause-wide
returns-in_err-below-clause-wide g c =
    let within = c.loop-i-test.true in
    let first = place_in terms_in c.args.cofactors.now c.loop-i.i within in
    let inside = place_in terms_in c.args.list.now c.loop-i.i
    (omega (arith, within, c.requires.count)) in
    let p = err_from_is_err_and c.from_residual.result c.from_residual.ensures.1 in
    rw (p.1, p.2) (λ e. product_past _ _ c.loop-i.i inside.0
    (first.1 c.index-cofactors-i.result c.index-cofactors-i.is)
    (inside.1 c.index-list-i.result c.index-list-i.is) (c.in_err-below.ensures.wide e))

pub returns-then-not-below-clause-below : goal.returns-then-not-below-clause-below
returns-then-not-below-clause-below g c =
    let within = c.loop-i-test.true in
    let first = place_in terms_in c.args.cofactors.now c.loop-i.i within in
    let inside = place_in terms_in c.args.list.now c.loop-i.i
    (omega (arith, within, c.requires.count)) in
    let element = image_at _ _ _ c.requires.list c.loop-i.i
    c.index-list-i.result (omega (arith, within, c.requires.count)) c.index-list-i.is in (
      λ t. absurd (true≢false (sym t)),
      λ h. absurd (below_fails rationals _ _ _ _ first.0 inside.0
          (first.1 c.index-cofactors-i.result c.index-cofactors-i.is)
          (inside.1 c.index-list-i.result c.index-list-i.is) c.loop-i.invariant (subst (λ o. IsTrue
          c.in_ok-below.below ↔ IsLeadBelow rationals (g.O.Order.order o) c.args.multiple.now
          (times ℚ (terms_in c.index-cofactors-i.result) (terms_in c.index-list-i.result)))
          element.order c.in_ok-below.ensures.below) c.if-not-below.true h),
    )

pub loop-i-preserved : goal.loop-i-preserved
loop-i-preserved g c =
    let within = c.loop-i-test.true in
    let first = place_in terms_in c.args.cofactors.now c.loop-i.i within in
    let inside = place_in terms_in c.args.list.now c.loop-i.i
    (omega (arith, within, c.requires.count)) in
    let element = image_at _ _ _ c.requires.list c.loop-i.i
    c.index-list-i.result (omega (arith, within, c.requires.count)) c.index-list-i.is in
    below_more rationals _ _ _ _ first.0 inside.0
    (first.1 c.index-cofactors-i.result c.index-cofactors-i.is)
    (inside.1 c.index-list-i.result c.index-list-i.is) c.loop-i.invariant (subst (λ o. IsTrue
    c.in_ok-below.below ↔ IsLeadBelow rationals (g.O.Order.order o) c.args.multiple.now (times ℚ
    (terms_in c.index-cofactors-i.result) (terms_in c.index-list-i.result))) element.order
    c.in_ok-below.ensures.below) c.if-not-below.false

pub returns-clause-below : goal.returns-clause-below
returns-clause-below g c =
    let all = below_end rationals _ _ _ _ c.loop-i.i (omega (
      arith,
      c.loop-i-test.false,
      length-map
          c.args.cofactors.now terms_in,
    )) c.loop-i.invariant in
    (λ t. all, λ h. refl)
