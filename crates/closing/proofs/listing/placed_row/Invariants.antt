use Rattle.ideal_ops.specs.Calls.{AreOver}
use Rattle.std.proofs.Common.{length}
use Rattle.closing.proofs.Listed.{FilledTo}
use Rattle.closing.proofs.listing.placed_row.Given as goal

abbrev pub invariant-loop-index : goal.invariant-loop-index
invariant-loop-index l = record {
  filled : FilledTo l.elements.places.items l.cofactors (length l.elements.list.items) l.index
      l.row.items;
  over : AreOver l.arity l.row.items;
}
