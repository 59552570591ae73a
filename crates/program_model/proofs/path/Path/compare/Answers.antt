use Rattle.std.proofs.Common.{◌++◌, ◌∷◌, [], sym, subst₂}
use Rattle.program_model.specs.SyntaxView.{comparison_of}
use Rattle.program_model.specs.Events.{Makes}
use Rattle.program_model.specs.UnderWay.{IsUnderWay}
use Rattle.program_model.proofs.StepViews.{equal_asked, differ_asked, equal_events, differ_events}
use Rattle.program_model.proofs.path.Path.compare.Goals as goal

pub returns-then-comparison-holds-clause-makes : goal.returns-then-comparison-holds-clause-makes
returns-then-comparison-holds-clause-makes c n u cs h =
    let k = comparison_of c.args.comparison.now in
    let t = c.if-comparison-holds.true in
    subst₂ (λ es g. Makes es (IsUnderWay n u (cs ++ g ∷ []) []) c.equal.result)
    (sym (equal_events k c.args.holds n cs t)) (sym (equal_asked k c.args.holds t))
    (c.equal.ensures.makes n u cs h)

pub returns-else-comparison-holds-clause-makes : goal.returns-else-comparison-holds-clause-makes
returns-else-comparison-holds-clause-makes c n u cs h =
    let k = comparison_of c.args.comparison.now in
    let t = c.if-comparison-holds.false in
    subst₂ (λ es g. Makes es (IsUnderWay n u (cs ++ g ∷ []) []) c.differ.result)
    (sym (differ_events k c.args.holds n cs t)) (sym (differ_asked k c.args.holds t))
    (c.differ.ensures.makes n u cs h)
