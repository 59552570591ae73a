use Rattle.std.proofs.Common.{rules}
use Rattle.solvable.proofs.Rows.{entry_is}
use Rattle.solvable.proofs.tables.entry.Goals as goal

pub returns : goal.returns
returns c = entry_is c.args.table.now.items c.args.i c.args.j c.index.result.now
    c.index-2.result.now c.requires.row c.index.ensures (search rules) c.index-2.ensures
