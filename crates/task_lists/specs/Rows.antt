-- Lists of lists of polynomials.
--   rows_of rows             the terms of all
--   HaveImages o m rows      all polynomials have the order o and m variables
--   HaveWidth n rows         each of the lists has n polynomials
use Rattle.std.specs.Prelude.{◌≡◌, ℕ, List, All, map, Vec, vec_len}
use Rattle.std.specs.declared.alloc.Global.{Global}
use Rattle.std.specs.declared.cmp.PartialEq as PartialEq
use Rattle.polynomials.specs.Terms.{Terms}
use Rattle.ring_laws.specs.declared.Ring as Ring
use Rattle.monos.specs.declared.order.Order as Order
use Rattle.poly.specs.declared.Poly.{Poly}
use Rattle.poly.specs.Seen.{terms_each, IsImage}

abbrev pub rows_of : {K O : Type 0} {g : Ring.Ghosts K} {h : PartialEq.Ghosts K}
    {k : Order.Ghosts O} {l : PartialEq.Ghosts O} → List (Vec (Poly K O g h k l) Global)
    → List (List (Terms g.scalars.Elem))
rows_of rows = map (λ row. terms_each row.items) rows

abbrev pub HaveImages : {K O : Type 0} {g : Ring.Ghosts K} {h : PartialEq.Ghosts K}
    {k : Order.Ghosts O} {l : PartialEq.Ghosts O} → O → ℕ → List (Vec (Poly K O g h k l) Global)
    → Type 0
HaveImages o m rows = All (λ row. All (IsImage o m) row.items) rows

abbrev pub HaveWidth : {K O : Type 0} {g : Ring.Ghosts K} {h : PartialEq.Ghosts K}
    {b : Order.Ghosts O} {e : PartialEq.Ghosts O} → ℕ → List (Vec (Poly K O g h b e) Global)
    → Type 0
HaveWidth n rows = All (λ row. vec_len row ≡ n) rows
