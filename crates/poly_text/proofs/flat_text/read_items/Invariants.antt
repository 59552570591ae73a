use Rattle.std.proofs.Common.{◌≡◌, length}
use Rattle.poly_text.specs.CursorView.{rest, bytes_left}
use Rattle.poly_text.specs.Flat.{flat_of}
use Rattle.poly_text.specs.Seen.{read_terms, HasRead}
use Rattle.poly_text.proofs.ItemSteps.{from_item}
use Rattle.poly_text.proofs.flat_text.read_items.Given as goal

abbrev pub invariant-loop-seen : goal.invariant-loop-seen
invariant-loop-seen l = record {
  read : HasRead (length l.names) l.terms.items l.seen;
  same : flat_of l.names l.text ≡ from_item l.names (read_terms l.terms.items) l.negative
      (rest l.cursor);
}

abbrev pub decreases-loop-seen : goal.decreases-loop-seen
decreases-loop-seen l = bytes_left l.cursor
