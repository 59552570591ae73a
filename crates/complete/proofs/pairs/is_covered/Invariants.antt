use Rattle.std.proofs.Common.{◌≡◌, ℕ, List, drop}
use Rattle.machines.specs.Pairs.{multiple, covers}
use Rattle.complete.specs.Pairs.{pair_of, rows_of}
use Rattle.complete.specs.Table.{Tells}
use Rattle.complete.proofs.pairs.is_covered.Given as goal

abbrev pub invariant-loop-k : goal.invariant-loop-k
invariant-loop-k l = (w : List (ℕ × ℕ)) → Tells (rows_of l.table) w →
    let a = pair_of l.pair in
    let m = multiple l.leads a in
    covers w a m l.leads 0 ≡ covers w a m (drop l.k l.leads) l.k
