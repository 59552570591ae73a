use Rattle.std.proofs.Common.{◌≡◌, rules, subst, IfOk, ◌∙◌}
use Rattle.poly.specs.Seen.{terms_each}
use Rattle.solvable.specs.Tables.{IsTable}
use Rattle.solvable.specs.Terms.{is_used}
use Rattle.solvable.proofs.Rows.{table_where}
use Rattle.solvable.proofs.users.Goals as goal

pub returns : goal.returns
returns c =
    let map = terms_each c.args.images.now.items in
    subst (λ n. IfOk c.table.result (λ t. IsTable n (λ i j b. b ≡ is_used c.args.below map i j)
    t.items)) (c.len.ensures ∙ c.args.images.now.ok.0)
    (table_where c.table.result c.len.result _ (λ i j b. b ≡ is_used c.args.below map i j)
    (λ i j b l n h. search rules) c.table.ensures)
