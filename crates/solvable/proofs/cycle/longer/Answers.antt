use Rattle.std.proofs.Common.{◌&&◌, rules, length, subst, IfOk, ◌∙◌}
use Rattle.std.proofs.lemmas.Result.{IfOk-weaker}
use Rattle.solvable.specs.Tables.{at, IsTable, Found}
use Rattle.solvable.proofs.Rows.{table_where}
use Rattle.solvable.proofs.Walks.{longer_is}
use Rattle.solvable.proofs.cycle.longer.Goals as goal

pub returns : goal.returns
returns c =
    let m = length c.args.walks.now.items in
    IfOk-weaker c.table.result
    (λ t. IsTable m (λ i j b.
    Found (λ d. at c.args.used.now.items i d && at c.args.walks.now.items d j) b) t.items) _
    (λ t h n w. record {
      square = h.square;
      each = λ i j k l. longer_is m n c.args.used.now.items
          c.args.walks.now.items c.requires.used w i j (at t.items i j) k l (h.each i j k l);
    })
    (subst (λ n.
    IfOk c.table.result
    (λ t. IsTable n (λ i j b.
    Found (λ d. at c.args.used.now.items i d && at c.args.walks.now.items d j) b)
    t.items)) (c.len.ensures ∙ c.args.walks.now.ok.0)
    (table_where c.table.result c.len.result _ (λ i j b.
    Found (λ d. at c.args.used.now.items i d && at c.args.walks.now.items d j) b)
    (λ i j b k l h. search rules) c.table.ensures))
