use Rattle.std.proofs.Common.{◌+◌, ◌||◌, ◌==◌, drop, sym, ap, ◌∙◌}
use Rattle.std.specs.List.{list_any}
use Rattle.invariant_fix.specs.Code.{assigned_by}
use Rattle.invariant_fix.proofs.Assigned.{look, look_end}
use Rattle.invariant_fix.proofs.chain_code.is_assigned.Goals as goal

pub returns-then-contains : goal.returns-then-contains
returns-then-contains c =
    let v = c.args.var in
    let b = c.args.code.now in
    let k = c.loop-statement.statement-index in
    sym (sym c.loop-statement.invariant
    ∙ look v b k c.statement-item.result c.loop-statement-test.true c.statement-item.is
    ∙ ap (λ t. t || assigned_by (drop (k + 1) b) v) (ap (list_any (λ j. j == v))
    (sym c.deref.ensures.value) ∙ sym c.contains.ensures.value ∙ c.if-contains.true))

pub loop-statement-preserved : goal.loop-statement-preserved
loop-statement-preserved c =
    let v = c.args.var in
    let b = c.args.code.now in
    let k = c.loop-statement.statement-index in
    sym (look v b k c.statement-item.result c.loop-statement-test.true c.statement-item.is
    ∙ ap (λ t. t || assigned_by (drop (k + 1) b) v) (ap (list_any (λ j. j == v))
    (sym c.deref.ensures.value) ∙ sym c.contains.ensures.value ∙ c.if-contains.false))
    ∙ c.loop-statement.invariant

pub returns : goal.returns
returns c =
    sym (look_end c.args.var c.args.code.now _ c.loop-statement-test.false)
    ∙ c.loop-statement.invariant
