use Rattle.std.proofs.Common.{◌≡◌, ◌<◌, ℕ, length, get_or, false}
use Rattle.solvable.proofs.tables.row.Given as goal

abbrev pub invariant-loop-j : goal.invariant-loop-j
invariant-loop-j g l = record {
  size : length l.row.items ≡ l.j;
  each : (k : ℕ) → k < l.j → g.F.Fn.post l.test (l.i, (k, tt)) (get_or l.row.items k false);
}
