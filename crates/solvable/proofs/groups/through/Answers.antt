use Rattle.std.proofs.Common.{◌≡◌, ◌&&◌, ◌||◌, rules, subst, IfOk, ◌∙◌}
use Rattle.solvable.specs.Tables.{at, IsTable}
use Rattle.solvable.proofs.Rows.{table_where}
use Rattle.solvable.proofs.groups.through.Goals as goal

pub returns : goal.returns
returns c =
    let r = at c.args.reach.now.items in
    let k = c.args.between in
    subst (λ n. IfOk c.table.result (λ t. IsTable n (λ i j b. b ≡ (r i j || (r i k && r k j)))
    t.items)) (c.len.ensures ∙ c.args.reach.now.ok.0)
    (table_where c.table.result c.len.result _ (λ i j b. b ≡ (r i j || (r i k && r k j)))
    (λ i j b l n h. search rules) c.table.ensures)
