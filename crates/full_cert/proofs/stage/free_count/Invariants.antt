use Rattle.std.proofs.Common.{◌≡◌, ◌≤◌, length, take}
use Rattle.machines.specs.Elimination.{free_part}
use Rattle.poly.specs.Seen.{terms_each}
use Rattle.full_cert.proofs.stage.free_count.Given as goal

abbrev pub invariant-loop-p : goal.invariant-loop-p
invariant-loop-p l = record {
  few : l.count ≤ l.p-index;
  so_far : l.count ≡ length (free_part l.front (terms_each (take l.p-index l.list)));
}
