use Rattle.std.proofs.Common.{◌≡◌, ◌++◌, map, take}
use Rattle.journal.specs.View.{entry_of}
use Rattle.closing.proofs.whole_search.append.Given as goal

abbrev pub invariant-loop-entry : goal.invariant-loop-entry
invariant-loop-entry l = record {
  limit : l.meter.limit ≡ l.fn.meter.limit;
  entries : l.meter.entries ≡ l.fn.meter.entries ++ map entry_of (take l.entry-index l.entry-items);
}
