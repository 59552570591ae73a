use Rattle.std.proofs.Common.{◌++◌, [], arith, sym, ap, subst, ◌∙◌}
use Rattle.program_model.specs.UnderWay.{IsReady, AreOpen}
use Rattle.program_model.proofs.EventLaws.{handed_on}
use Rattle.program_model.proofs.Moving.{Moved, moved_none, moved_more, moved_stops, opens, taken_more, taken_all, first_ready}
use Rattle.program_model.proofs.front.step_all.Goals as goal

pub loop-path-init : goal.loop-path-init
loop-path-init c = (
  sym c.into_iter-path-iterator.ensures.into_iter_gives.0,
  subst (Moved c.args.variables _ _ []) (sym c.new-next.ensures.items) (moved_none _ _ _),
)

pub loop-path-preserved : goal.loop-path-preserved
loop-path-preserved c =
    let i = c.loop-path.invariant in
    let n = c.args.variables in (
      taken_more _ c.loop-path.yielded _ _ c.in-Some.path i.0 c.in-Some.ensures.steps.0,
      subst (Moved n _ _ _) (sym c.in_ok-push.ensures.items)
          (moved_more n _ _ c.loop-path.yielded c.loop-path.next.items c.in-Some.path _ i.1
          (subst (λ m. IsReady m c.in_ok-step.field-0)
          (first_ready n _ c.loop-path.yielded _ c.in-Some.path c.requires.ready
          (i.0 ∙ ap (λ xs. c.loop-path.yielded ++ xs) c.in-Some.ensures.steps.0)).variables
          c.in_ok-step.ensures.ready)
          (λ o h. opens n o c.in-Some.path _ _ _ h c.in_ok-step.ensures.ready
          (c.in_ok-step.ensures.makes n o.from o.steps h.way))),
    )

pub returns-in_err-step-clause-makes : goal.returns-in_err-step-clause-makes
returns-in_err-step-clause-makes c os h =
    let i = c.loop-path.invariant in
    let n = c.args.variables in
    handed_on _ _ c.in_err-step.field-0.0 _ c.from_residual.ensures.1
    (moved_stops n _ _ c.loop-path.yielded c.loop-path.next.items c.in-Some.path _ i.1
    c.in_err-step.field-0.0 (λ o k. c.in_err-step.ensures.makes n o.from o.steps k.way) os
    (subst (AreOpen n os) (i.0 ∙ ap (λ xs. c.loop-path.yielded ++ xs) c.in-Some.ensures.steps.0) h))

pub returns-clause-ready : goal.returns-clause-ready
returns-clause-ready c = c.loop-path.invariant.1.ready

pub returns-clause-makes : goal.returns-clause-makes
returns-clause-makes c os h =
    let i = c.loop-path.invariant in
    let e = c.in-None.ensures.steps.0 in
    let k = c.loop-path.path-iterator.rest.ok in
    i.1.paths os (subst (AreOpen c.args.variables os)
    (sym (taken_all _ c.loop-path.yielded _ i.0
    (let a = k.0 in omega (arith, a, e)))) h)
