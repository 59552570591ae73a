use Rattle.std.proofs.Common.{◌≡◌, ◌++◌, [], length, arith, sym, ap, subst, subst₂, ◌∙◌}
use Rattle.std.proofs.lemmas.List.{append-nil}
use Rattle.std.proofs.lemmas.List.Elements.{All-nil}
use Rattle.program_model.specs.Events.{IsPastLimit, AreFree, Makes}
use Rattle.program_model.specs.UnderWay.{IsUnderWay}
use Rattle.program_model.specs.SyntaxView.{comparison_of}
use Rattle.program_model.specs.WellFormed.{IsComparison}
use Rattle.program_model.proofs.Cuts.{item_of}
use Rattle.program_model.proofs.StepViews.{told_one, told_none}
use Rattle.program_model.proofs.path.Path.leave.Goals as goal
use Rattle.program_model.proofs.path.Path.leave.Goals.{else-guard-via-then-guard+else-len-eq1, else-guard-via-else-guard}

pub returns-then-len-eq1-clause-makes : goal.returns-then-len-eq1-clause-makes
returns-then-len-eq1-clause-makes c n u cs h =
    let g = c.args.guard.now in
    let one : length g.says.items ≡ 1 =
    (let a = c.len.ensures in let b = c.if-len-eq1.true in let d = g.says.ok.0 in
    omega (arith, a, b, d)) in
    let t = told_one n cs g.alone g.says.items c.index.result.now c.if-guard.true one
    c.index.ensures in
    subst₂ (λ es gs. Makes es (IsUnderWay n u (cs ++ gs) []) c.compare.result)
    (sym t.1) (sym t.0) (c.compare.ensures.makes n u cs h)

pub returns-else-guard-clause-makes : goal.returns-else-guard-clause-makes
returns-else-guard-clause-makes c n u cs h =
    let g = c.args.guard.now in
    let t = told_none n cs g.alone g.says.items (λ t l.
    elim c.else-guard.branch [
      | else-guard-via-then-guard+else-len-eq1 w ↦
          (let a = w.len.ensures in let b = w.if-len-eq1.false in let d = g.says.ok.0 in
          absurd (omega (arith, a, b, d, l)))
      | else-guard-via-else-guard w ↦ (let f = w.if-guard.false in absurd (cc))
    ]) in (
      subst (λ gs. IsUnderWay n u gs [] c.args.self)
          (sym (ap (λ gs. cs ++ gs) t.0 ∙ append-nil cs)) h,
      subst AreFree (sym t.1) (All-nil (λ e. ¬ (IsPastLimit e))),
    )

pub compare-requires-clause-comparison : goal.compare-requires-clause-comparison
compare-requires-clause-comparison c =
    let g = c.args.guard.now in
    let a = c.len.ensures in
    let b = c.if-len-eq1.true in
    let d = g.says.ok.0 in
    item_of comparison_of g.says.items 0 (IsComparison c.args.self.variables) c.index.result.now
    c.requires.says (omega (arith, a, b, d)) c.index.ensures
