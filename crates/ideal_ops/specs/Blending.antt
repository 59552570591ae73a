-- The blend of two lists as the program makes it (machines/specs/Elimination).
--   blend_of ks bs        the blend, in the order that has the first variable in its first block
--   HaveT m gs            each of the gs has that order, and one more variable than m
use Rattle.std.specs.Prelude.{ℕ, ◌+◌, List}
use Rattle.std.specs.declared.cmp.PartialEq as PartialEq
use Rattle.algebra.specs.Scalars.{field}
use Rattle.polynomials.specs.Order.{grevlex, blocks}
use Rattle.polynomials.specs.Terms.{Terms}
use Rattle.machines.specs.Elimination.{blend}
use Rattle.ring_laws.specs.declared.Ring as Ring
use Rattle.monos.specs.declared.order.Blocks.{Blocks}
use Rattle.monos.specs.declared.order.Order as Order
use Rattle.poly.specs.declared.Poly.{Poly}
use Rattle.poly.specs.Seen.{terms_each}
use Rattle.ideal_ops.specs.Eliminating.{HaveBlock}

module _ {K O : Type 0} {g : Ring.Ghosts K} {h : PartialEq.Ghosts K} {k : Order.Ghosts O}
    {l : PartialEq.Ghosts O} where
  abbrev pub blend_of : (ks bs : List (Poly K O g h k l)) → List (Terms g.scalars.Elem)
  blend_of ks bs =
      blend (field g.scalars) (blocks 1 grevlex grevlex) (terms_each ks) (terms_each bs)

module _ {K : Type 0} {g : Ring.Ghosts K} {h : PartialEq.Ghosts K} {k : Order.Ghosts Blocks}
    {l : PartialEq.Ghosts Blocks} where
  abbrev pub HaveT : ℕ → List (Poly K Blocks g h k l) → Type 0
  HaveT m gs = HaveBlock 1 (1 + m) gs
