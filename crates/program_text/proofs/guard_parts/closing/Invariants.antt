use Rattle.std.proofs.Common.{◌≡◌, ◌<◌, ◌≤◌, suc, drop}
use Rattle.program_text.specs.Guards.{closing_at, closing_of}
use Rattle.program_text.proofs.guard_parts.closing.Given as goal

abbrev pub invariant-loop-at : goal.invariant-loop-at
invariant-loop-at l = record {
  same : closing_at l.at l.count (drop l.at l.text) ≡ closing_of l.text l.from;
  some : 0 < l.count;
  few : l.count ≤ suc l.at;
}
