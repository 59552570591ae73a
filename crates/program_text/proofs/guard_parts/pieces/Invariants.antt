use Rattle.std.proofs.Common.{◌≡◌, ◌≤◌, ◌-◌, ◌++◌, length, drop}
use Rattle.std.specs.List.{All}
use Rattle.program_text.specs.Guards.{pieces, pieces_from, IsWithin}
use Rattle.program_text.proofs.guard_parts.pieces.Given as goal

abbrev pub invariant-loop-at : goal.invariant-loop-at
invariant-loop-at l = record {
  same : l.found.items ++ pieces_from l.at l.start l.opened l.closed (drop l.at l.text)
      ≡ pieces l.text l.from;
  within : All (IsWithin (length l.text)) l.found.items;
  start : l.start ≤ l.at;
  end : l.at ≤ length l.text;
  opened : l.opened ≤ l.at;
  closed : l.closed ≤ l.at;
}

abbrev pub decreases-loop-at : goal.decreases-loop-at
decreases-loop-at l = length l.text - l.at
