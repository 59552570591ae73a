-- The reduced basis of the ideal of a list: the list is completed, then all of what that gives is tidied.
--   reduction_of o gens           the elimination of no variable from the gens, as a machine
--   HasReduced o m gs s           the gs are the list of the state s, of the order o and m variables, and not 0
--   IsTheReducedBasis o m gens hs     hs is the reduced basis of the ideal of the gens
use Rattle.std.specs.Prelude.{◌≡◌, ℕ, List}
use Rattle.std.specs.Global.{Vec}
use Rattle.std.specs.declared.cmp.PartialEq as PartialEq
use Rattle.algebra.specs.Scalars.{field}
use Rattle.ideals.specs.Members.{IsMember}
use Rattle.machines.specs.Elimination as elimination
use Rattle.machines.specs.Machine.{Machine}
use Rattle.machines.specs.Machines as machines
use Rattle.machines.specs.Reduced.{IsReducedBasis}
use Rattle.ring_laws.specs.declared.Ring as Ring
use Rattle.monos.specs.declared.order.Order as Order
use Rattle.poly.specs.declared.Poly.{Poly}
use Rattle.poly.specs.Seen.{terms_each}
use Rattle.divide.specs.Current.{AreDivisors}

module _ {K O : Type 0} {g : Ring.Ghosts K} {h : PartialEq.Ghosts K} {k : Order.Ghosts O}
    {l : PartialEq.Ghosts O} where
  abbrev pub reduction_of : O → List (Poly K O g h k l) → Machine (elimination.State g.scalars.Elem)
  reduction_of o gens =
      machines.elimination g.scalars (k.order o) (k.order o) (λ gs. gs) (terms_each gens)

  pub record HasReduced (o : O) (m : ℕ) (gs : Vec (Poly K O g h k l))
      (s : elimination.State g.scalars.Elem) : Type 0 where
    pub list : terms_each gs.items ≡ elimination.list_of (k.order o) (λ gs. gs) s
    pub elements : AreDivisors o m gs.items

  abbrev pub IsTheReducedBasis : O → ℕ → List (Poly K O g h k l) → List (Poly K O g h k l) → Type 0
  IsTheReducedBasis o m gens hs =
      IsReducedBasis (field g.scalars) (k.order o) m (terms_each hs)
      (IsMember g.scalars.arithmetic m (terms_each gens))
