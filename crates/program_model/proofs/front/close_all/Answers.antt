use Rattle.std.proofs.Common.{◌++◌, arith, sym, ap, subst, ◌∙◌}
use Rattle.program_model.specs.UnderWay.{AreOpen}
use Rattle.program_model.proofs.Moving.{taken_more, taken_all}
use Rattle.program_model.proofs.Closings.{ClosedAll, closed_none, closed_more, closed_stops}
use Rattle.program_model.proofs.front.close_all.Goals as goal

pub loop-path-init : goal.loop-path-init
loop-path-init c = (sym c.into_iter-path-iterator.ensures.into_iter_gives.0, closed_none _ _ _)

pub loop-path-preserved : goal.loop-path-preserved
loop-path-preserved c =
    let i = c.loop-path.invariant in
    let l = c.if-len-ge-MOST_TRANSITIONS.false in
    let m = c.loop-path.transitions.ok.0 in
    let k = c.len.ensures in (
      taken_more _ c.loop-path.yielded _ _ c.in-Some.path i.0 c.in-Some.ensures.steps.0,
      subst (ClosedAll c.args.to c.args.at _ _) (sym c.in_ok-push.ensures.items)
          (closed_more c.args.to c.args.at _ c.loop-path.yielded c.loop-path.transitions.items i.1
          c.in-Some.path _ (omega (arith, l, m, k)) c.close.ensures),
    )

pub returns-then-len-ge-MOST_TRANSITIONS : goal.returns-then-len-ge-MOST_TRANSITIONS
returns-then-len-ge-MOST_TRANSITIONS c n es os a b =
    let i = c.loop-path.invariant in
    let l = c.if-len-ge-MOST_TRANSITIONS.true in
    let m = c.loop-path.transitions.ok.0 in
    let k = c.len.ensures in
    closed_stops c.args.to c.args.at _ c.loop-path.yielded c.loop-path.transitions.items i.1
    c.in-Some.path _ (omega (arith, l, m, k)) n es os a
    (subst (AreOpen n os) (i.0 ∙ ap (λ xs. c.loop-path.yielded ++ xs) c.in-Some.ensures.steps.0) b)

pub returns : goal.returns
returns c n es os a b =
    let i = c.loop-path.invariant in
    let e = c.in-None.ensures.steps.0 in
    let k = c.loop-path.path-iterator.rest.ok in
    let o = subst (AreOpen n os) (sym (taken_all _ c.loop-path.yielded _ i.0
    (let a = k.0 in omega (arith, a, e)))) b in
    (i.1.edges n es os a o, i.1.free n es os a o)
