use Rattle.std.proofs.Common.{◌++◌, [], map, subst, ◌∙◌, sym, All}
use Rattle.std.proofs.lemmas.List.{take_all}
use Rattle.program_model.specs.SyntaxView.{comparison_of}
use Rattle.program_model.specs.WellFormed.{IsComparison}
use Rattle.program_model.specs.PathEvents.{true_steps, true_events}
use Rattle.program_model.specs.Events.{AreFree, Makes}
use Rattle.program_model.specs.UnderWay.{IsUnderWay}
use Rattle.program_model.proofs.Cuts.{item_of}
use Rattle.program_model.proofs.Entering.{entering_none, entering_more, entering_stops}
use Rattle.program_model.proofs.path.Path.enter.Goals as goal

pub loop-comparison-init : goal.loop-comparison-init
loop-comparison-init c = entering_none _ c.requires.ready

pub compare-requires-clause-comparison : goal.compare-requires-clause-comparison
compare-requires-clause-comparison c =
    let same = c.deref-comparison-items.ensures.value in
    subst (λ n. IsComparison n (comparison_of c.comparison-item.result))
    (sym c.loop-comparison.invariant.ready.variables)
    (item_of comparison_of c.deref-comparison-items.result.now c.loop-comparison.comparison-index
    (IsComparison c.args.self.variables) c.comparison-item.result
    (subst (λ ks. All (IsComparison c.args.self.variables) (map comparison_of ks)) (sym same)
    c.requires.says)
    c.loop-comparison-test.true c.comparison-item.is)

pub returns-in_err-path-clause-makes : goal.returns-in_err-path-clause-makes
returns-in_err-path-clause-makes c n u cs h =
    subst (λ ks. Makes (true_events n cs (map comparison_of ks)) (IsUnderWay n u
    (cs ++ true_steps (map comparison_of c.args.guard.now.says.items)) []) c.from_residual.result)
    c.deref-comparison-items.ensures.value
    (entering_stops c.args.self c.loop-comparison.path c.deref-comparison-items.result.now
    c.loop-comparison.comparison-index c.comparison-item.result c.loop-comparison-test.true
    c.comparison-item.is c.loop-comparison.invariant _ c.in_err-path.field-0.0
    c.from_residual.result c.from_residual.ensures.1 n u cs h
    (λ g. c.in_err-path.ensures.makes n u _ g))

pub loop-comparison-preserved : goal.loop-comparison-preserved
loop-comparison-preserved c =
    entering_more c.args.self c.loop-comparison.path c.deref-comparison-items.result.now
    c.loop-comparison.comparison-index c.comparison-item.result c.loop-comparison-test.true
    c.comparison-item.is c.loop-comparison.invariant c.in_ok-path.path
    c.in_ok-path.ensures.ready (λ n u cs h. c.in_ok-path.ensures.makes n u cs h)

pub returns-clause-makes : goal.returns-clause-makes
returns-clause-makes c n u cs h =
    let same = take_all _ _ c.loop-comparison-test.false ∙ c.deref-comparison-items.ensures.value in
    let i = c.loop-comparison.invariant in (
      subst (λ ks. IsUnderWay n u (cs ++ true_steps (map comparison_of ks)) []
          c.loop-comparison.path) same (i.way n u cs h),
      subst (λ ks. AreFree (true_events n cs (map comparison_of ks))) same (i.free n u cs h),
    )
