use Rattle.std.proofs.Common.{◌≡◌, ◌≤◌, length, vec_len}
use Rattle.grammars.specs.Grammar.{many}
use Rattle.poly_text.specs.CursorView.{rest, bytes_left}
use Rattle.poly_text.specs.Telling.{reading}
use Rattle.poly_text.specs.Flat.{FlatContext, factor, flat_language}
use Rattle.poly_text.specs.FlatReads.{at_power}
use Rattle.poly_text.proofs.item_text.read_factors.Given as goal

-- the factors that follow are read behind those that were read
abbrev pub invariant-loop-found : goal.invariant-loop-found
invariant-loop-found l = record {
  falls : bytes_left l.at ≤ bytes_left l.fn.cursor;
  len : vec_len l.found ≡ length l.names;
  same : (c : FlatContext) → reading flat_language (many factor) (at_power c l.names l.found.items
      0) (rest l.at)
      ≡ reading flat_language (many factor) (at_power c l.names l.fn.exponents.items 0)
      (rest l.fn.cursor);
}

abbrev pub decreases-loop-found : goal.decreases-loop-found
decreases-loop-found l = bytes_left l.at
