-- What parts of full certificates are seen as.
--   row_of row, block_of rows     the terms of each of a list, and of lists of these
--   size_of w                     the size of a whole number
use Rattle.std.specs.Prelude.{ℕ, List, Vec, unsigned_abs}
use Rattle.std.specs.declared.alloc.Global.{Global}
use Rattle.std.specs.declared.cmp.PartialEq as PartialEq
use Rattle.polynomials.specs.Terms.{Terms}
use Rattle.ring_laws.specs.declared.Ring as Ring
use Rattle.frac128.specs.declared.Whole.{Whole}
use Rattle.monos.specs.declared.order.Order as Order
use Rattle.poly.specs.declared.Poly.{Poly}
use Rattle.poly.specs.Seen.{terms_each}
use Rattle.task_lists.specs.Rows.{rows_of}

module _ {K O : Type 0} {g : Ring.Ghosts K} {h : PartialEq.Ghosts K} {b : Order.Ghosts O}
    {e : PartialEq.Ghosts O} where
  abbrev pub row_of : Vec (Poly K O g h b e) Global → List (Terms g.scalars.Elem)
  row_of row = terms_each row.items

  abbrev pub block_of : Vec (Vec (Poly K O g h b e) Global) Global
      → List (List (Terms g.scalars.Elem))
  block_of rows = rows_of rows.items

abbrev pub size_of : Whole → ℕ
size_of w = unsigned_abs w.value
