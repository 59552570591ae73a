-- Machines whose start the code makes of something first.
--   with_past_start M P     the machine M, where making its start is past where P
use Rattle.machines.specs.Machine.{Machine}

abbrev pub with_past_start : {S : Type 0} → Machine S → Type 0 → Machine S
with_past_start M P = record {
  start = M.start;
  next = M.next;
  IsPastNext = M.IsPastNext;
  IsPastStart = P;
}
