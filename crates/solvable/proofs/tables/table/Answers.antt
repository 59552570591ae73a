use Rattle.solvable.proofs.Rows.{begun_more}
use Rattle.solvable.proofs.tables.table.Goals as goal

pub loop-i-preserved : goal.loop-i-preserved
loop-i-preserved g c = begun_more c.args.size c.loop-i.i _ c.loop-i.table.items
    c.push.new.self.items c.in_ok-row.field-0 c.in_ok-push.ensures.items c.in_ok-row.ensures
    c.loop-i.invariant
