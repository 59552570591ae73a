-- Lists on the way of an elimination.
--   HaveBlock n m gs            each of the gs has m variables, the first n of them in the first block of its order
--   HaveBlockAndLead n m gs     and is not 0
--   AreKept m gs                each of the gs has m variables and is not 0
use Rattle.std.specs.Prelude.{◌≡◌, ◌≢◌, ℕ, List, [], All}
use Rattle.std.specs.declared.cmp.PartialEq as PartialEq
use Rattle.ring_laws.specs.declared.Ring as Ring
use Rattle.monos.specs.declared.order.Blocks.{Blocks}
use Rattle.monos.specs.declared.order.Order as Order
use Rattle.poly.specs.declared.Poly.{Poly}
use Rattle.poly.specs.Seen.{terms_in}

module _ {K : Type 0} {g : Ring.Ghosts K} {h : PartialEq.Ghosts K} {k : Order.Ghosts Blocks}
    {l : PartialEq.Ghosts Blocks} where
  abbrev pub HaveBlock : ℕ → ℕ → List (Poly K Blocks g h k l) → Type 0
  HaveBlock n m gs = All (λ p. (p.order.first ≡ n) × (p.arity ≡ m)) gs

  abbrev pub HaveBlockAndLead : ℕ → ℕ → List (Poly K Blocks g h k l) → Type 0
  HaveBlockAndLead n m gs = All (λ p. (p.order.first ≡ n) × (p.arity ≡ m) × (terms_in p ≢ [])) gs

module _ {K O : Type 0} {g : Ring.Ghosts K} {h : PartialEq.Ghosts K} {k : Order.Ghosts O}
    {l : PartialEq.Ghosts O} where
  abbrev pub AreKept : ℕ → List (Poly K O g h k l) → Type 0
  AreKept m gs = All (λ p. (p.arity ≡ m) × (terms_in p ≢ [])) gs
