use Rattle.std.proofs.Common.{◌++◌, ◌∷◌, [], pos, ◌<ℤ◌}
use Rattle.std.proofs.lemmas.List.Elements.{All-push, All-same}
use Rattle.frac128.specs.declared.Whole.{Whole}
use Rattle.computation_rows.proofs.bases.base_of.Goals as goal

abbrev IsPositive : Whole → Type 0
IsPositive w = pos 0 <ℤ w.value

pub loop-number-preserved : goal.loop-number-preserved
loop-number-preserved c =
    All-same IsPositive c.push.new.self.items (c.loop-number.list.items
    ++ c.in_ok-positive_of.field-0 ∷ []) c.in_ok-push.ensures.items
    (All-push IsPositive c.loop-number.list.items c.in_ok-positive_of.field-0
    c.loop-number.invariant c.in_ok-positive_of.ensures)
