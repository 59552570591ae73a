use Rattle.std.proofs.Common.{◌≡◌, ◌++◌, ◌∷◌, [], ℕ, length, Global, Vec, rules, ◌∙◌}
use Rattle.std.proofs.lemmas.List.Elements.{All-push, All-same}
use Rattle.frac128.specs.declared.fraction.Frac.{Frac}
use Rattle.computation_rows.proofs.rows.Row.push_split.Goals as goal

abbrev HasWidth : ℕ → Vec Frac Global → Type 0
HasWidth n row = length row.items ≡ n

pub loop-row-preserved : goal.loop-row-preserved
loop-row-preserved c =
    All-same (HasWidth c.count-size.result) c.push.new.self.items (c.loop-row.rows.items
    ++ c.in_ok-row_of.field-0 ∷ []) c.in_ok-push.ensures.items
    (All-push (HasWidth c.count-size.result) c.loop-row.rows.items c.in_ok-row_of.field-0
    c.loop-row.invariant c.in_ok-row_of.ensures)

pub split-requires-2-clause-square : goal.split-requires-2-clause-square
split-requires-2-clause-square c = λ i d within. c.loop-row.invariant i d within ∙ (search rules)
