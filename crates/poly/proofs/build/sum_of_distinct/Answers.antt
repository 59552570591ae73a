use Rattle.std.proofs.Common.{Err, ap}
use Rattle.poly.proofs.build.sum_of_distinct.Goals as goal

pub unreachable-requires : goal.unreachable-requires
unreachable-requires g c = c.in-Err-Wide.ensures.distinct c.requires.distinct
    (ap Err c.in-Err-Wide.field-0-is)
