use Rattle.std.proofs.Common.{◌≡◌, rules, eqb}
use Rattle.std.proofs.lemmas.Result.{IfOk-weaker}
use Rattle.solvable.specs.Tables.{at, IsTable}
use Rattle.solvable.proofs.Rows.{table_where}
use Rattle.solvable.proofs.Walks.{standing_is}
use Rattle.solvable.proofs.cycle.walks_of_no_step.Goals as goal

pub returns : goal.returns
returns c =
    IfOk-weaker c.table.result (λ t. IsTable c.args.size (λ i j b. b ≡ eqb i j) t.items) _
    (λ t h uses. record {
      square = h.square;
      each = λ i j k l. standing_is uses i j (at t.items i j)
          (h.each i j k l);
    })
    (table_where c.table.result c.args.size _ (λ i j b. b ≡ eqb i j) (λ i j b k l h. search rules)
    c.table.ensures)
