-- Whether a polynomial is in the ideal of a list, by division.
--   Decides b s         b is whether nothing is left in the state s of the division
--   IsComplete m gs     the lead of each member of their ideal, but of 0, is divided by the lead of one of the gs
--   IsInIdeal m gs p    p is in their ideal
use Rattle.std.specs.Prelude.{◌≡◌, ℕ, Bool, not, is_some, List, ◌∷◌}
use Rattle.std.specs.declared.cmp.PartialEq as PartialEq
use Rattle.polynomials.specs.Polynomial.{IsPolynomial}
use Rattle.polynomials.specs.Terms.{Terms}
use Rattle.ideals.specs.Members.{IsMember}
use Rattle.machines.specs.Basis.{SomeLeadDivides}
use Rattle.machines.specs.Division as division
use Rattle.ring_laws.specs.declared.Ring as Ring
use Rattle.monos.specs.declared.order.Order as Order
use Rattle.poly.specs.declared.Poly.{Poly}
use Rattle.poly.specs.Seen.{terms_in, terms_each}

abbrev pub Decides : {A : Type 0} → Bool → division.State A → Type 0
Decides b s = b ≡ not (is_some s.current)

module _ {K O : Type 0} {g : Ring.Ghosts K} {h : PartialEq.Ghosts K} {k : Order.Ghosts O}
    {l : PartialEq.Ghosts O} where
  pub record IsComplete (o : O) (m : ℕ) (gs : List (Poly K O g h k l)) : Type 0 where
    pub led : (t : List ℕ × g.scalars.Elem) (q : Terms g.scalars.Elem)
        → IsPolynomial g.scalars.arithmetic (k.order o) m (t ∷ q)
        → IsMember g.scalars.arithmetic m (terms_each gs) (t ∷ q)
        → SomeLeadDivides (terms_each gs) t.0

  abbrev pub IsInIdeal : ℕ → List (Poly K O g h k l) → Poly K O g h k l → Type 0
  IsInIdeal m gs p = IsMember g.scalars.arithmetic m (terms_each gs) (terms_in p)
