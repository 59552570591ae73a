use Rattle.std.proofs.Common.{◌+◌, map, take, refl, sym, ap, subst, ◌∙◌, true≢false, arith, inr}
use Rattle.std.proofs.lemmas.List.{map-append}
use Rattle.poly.specs.Grid.{Read}
use Rattle.poly.specs.View.{term_of}
use Rattle.algebra.proofs.Lists.{take_next}
use Rattle.poly.proofs.GridHolds.{read-nil, read-zero, read-term}
use Rattle.poly.proofs.GridSteps.{length_before}
use Rattle.poly.proofs.grid.terms_at.Goals as goal
use Rattle.poly.proofs.grid.terms_at.Goals.{then-not-is_zero+in_ok-mono+in_ok-push, else-not-is_zero}

pub loop-place-init : goal.loop-place-init
loop-place-init g c = read-nil g.K.Ring.scalars c.args.base c.args.arity _ _ refl
    (ap (map (term_of g.K.Ring.meaning)) c.new-out.ensures.items)

pub loop-place-preserved : goal.loop-place-preserved
loop-place-preserved g c =
    let k = g.K.Ring.meaning in
    let S = g.K.Ring.scalars in
    let count = length_before k c.args.grid.now c.loop-place.place c.loop-place-test.true in
    let more = take_next k c.args.grid.now c.loop-place.place _ c.loop-place-test.true
    c.index-grid-place.is in
    elim c.if-not-is_zero.branch [
      | then-not-is_zero+in_ok-mono+in_ok-push w
          ↦ read-term S c.args.base c.args.arity g.met.K.Ring.ring _ _ _ _ w.in_ok-mono.mono
          (k c.index-grid-place.result) c.loop-place.place c.requires.positive
          (omega (arith, c.loop-place-test.true, c.requires.size))
          (sym count) w.in_ok-mono.ensures.ok more
          (inr (
            (λ z. true≢false (sym (c.is_zero.ensures.1 z) ∙ w.if-not-is_zero.true)),
            ap (λ v. map (term_of k) v.items) w.out-is
                ∙ ap (map (term_of k)) w.in_ok-push.ensures.items
                ∙ map-append (term_of k) c.loop-place.out.items _,
          )) c.loop-place.invariant
      | else-not-is_zero w
          ↦ subst (λ v. Read S.arithmetic c.args.base c.args.arity
          (map k (take (c.loop-place.place + 1) c.args.grid.now)) (map (term_of k) v.items))
          (sym w.out-is)
          (read-zero S c.args.base c.args.arity g.met.K.Ring.ring _ _ _
          (k c.index-grid-place.result) c.requires.positive
          (omega (arith, count, c.loop-place-test.true, c.requires.size))
          (c.is_zero.ensures.0 w.if-not-is_zero.false) more c.loop-place.invariant)
    ]
