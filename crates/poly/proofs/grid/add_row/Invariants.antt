use Rattle.std.proofs.Common.{◌≡◌, length, map, take}
use Rattle.poly.specs.View.{term_of, terms_of}
use Rattle.poly.proofs.GridRows.{Row}
use Rattle.poly.proofs.grid.add_row.Given as goal

abbrev pub invariant-loop-other : goal.invariant-loop-other
invariant-loop-other g l =
    let k = g.K.Ring.meaning in
    record {
      size : length l.grid.items ≡ length l.initial.grid.items;
      row : Row g.K.Ring.scalars l.base (length l.term.mono) (term_of k l.term) (terms_of k l.right)
          (terms_of k (take l.other-index l.right)) (map k l.initial.grid.items)
          (map k l.grid.items);
    }
