use Rattle.std.proofs.Common.{arith}
use Rattle.complete.proofs.Tables.{row_long}
use Rattle.complete.proofs.table.Table.waits.Goals as goal

pub index-requires-then-i-j : goal.index-requires-then-i-j
index-requires-then-i-j c =
    let long = row_long (λ row. row.items) c.args.self.now.rows.items c.args.j c.index.result.now
    c.requires.inside.1 c.index.ensures c.args.self.now.triangle in
    let less = c.if-i-j.true in
    omega (arith, long, less)

pub index-requires-else-i-j-2 : goal.index-requires-else-i-j-2
index-requires-else-i-j-2 c =
    let long = row_long (λ row. row.items) c.args.self.now.rows.items c.args.i
    c.index-else-i-j.result.now c.requires.inside.0 c.index-else-i-j.ensures
    c.args.self.now.triangle in
    let less = c.if-i-j.false in
    let apart = c.requires.apart in
    omega (arith, long, less, apart)
