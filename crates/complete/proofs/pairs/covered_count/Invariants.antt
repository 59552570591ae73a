use Rattle.std.proofs.Common.{◌≡◌, map, drop, length}
use Rattle.machines.specs.Pairs.{skip_covered}
use Rattle.complete.specs.Pairs.{pair_of, rows_of}
use Rattle.complete.specs.Table.{Tells}
use Rattle.complete.proofs.pairs.covered_count.Given as goal

abbrev pub invariant-loop-i : goal.invariant-loop-i
invariant-loop-i l =
    (skip_covered l.leads (map pair_of l.list) ≡ skip_covered l.leads
    (map pair_of (drop l.i l.list)))
    × Tells (rows_of l.table) (map pair_of (drop l.i l.list))
    × (length (rows_of l.table) ≡ length l.leads)
