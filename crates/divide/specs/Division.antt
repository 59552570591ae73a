-- Divisions as the program makes them.
--   state_of s             a division on its way, as a state of the machine
--   FitsDivision o m n s           what is left has the order o and m variables, there are n cofactors, and nothing is left of what is put away
--   order_of s, arity_of s     of what is left
--   IsBegun p n s          nothing is done of a division of p by n elements
--   division_of p gs       the division of p by the gs, as a machine
--   HasCofactors o m d s   d has the cofactors and the remainder of the state s, polynomials of the order o in m variables
-- Of the next event, by the gs in the order of s:
--   IsNext gs s t before after b       b is whether an event comes next: it leads from s to t; else both states and both journals are the same
--   IsPastNext gs s                    the next event is past
--   IsStopped gs s journal             the next event is a unit, and the units equal the limit
use Rattle.std.specs.Prelude.{◌≡◌, ℕ, Bool, true, false, cond, List, [], length, map, replicate, All, Some, None}
use Rattle.std.specs.declared.cmp.PartialEq as PartialEq
use Rattle.algebra.specs.Scalars.{field}
use Rattle.machines.specs.Division as division
use Rattle.machines.specs.Journal.{Journal}
use Rattle.machines.specs.Machine.{Machine}
use Rattle.machines.specs.Machines as machines
use Rattle.machines.specs.Past.{IsPastDivision}
use Rattle.machines.specs.Work.{StepOrEnd, StoppedAt}
use Rattle.ring_laws.specs.declared.Ring as Ring
use Rattle.monos.specs.declared.order.Order as Order
use Rattle.poly.specs.declared.Poly.{Poly}
use Rattle.poly.specs.Seen.{terms_in, terms_each}
use Rattle.poly.specs.View.{terms_of}
use Rattle.divide.specs.Current.{left_of}
use Rattle.divide.specs.declared.dividing.Dividing.{Dividing}
use Rattle.divide.specs.declared.dividing.Division.{Division}

module _ {K O : Type 0} {g : Ring.Ghosts K} {h : PartialEq.Ghosts K} {k : Order.Ghosts O}
    {l : PartialEq.Ghosts O} where
  abbrev pub state_of : Dividing K O g h k l → division.State g.scalars.Elem
  state_of s = record {
    current = cond s.put_away None (Some (left_of s.current));
    cofactors = map (λ v. terms_of g.meaning v.items) s.cofactors.items;
  }

  pub record FitsDivision (o : O) (m n : ℕ) (s : Dividing K O g h k l) : Type 0 where
    pub order : s.current.rest.order ≡ o
    pub arity : s.current.rest.arity ≡ m
    pub count : length s.cofactors.items ≡ n
    pub away : s.put_away ≡ true → left_of s.current ≡ []

  abbrev pub order_of : Dividing K O g h k l → O
  order_of s = s.current.rest.order

  abbrev pub arity_of : Dividing K O g h k l → ℕ
  arity_of s = s.current.rest.arity

  abbrev pub IsBegun : Poly K O g h k l → ℕ → Dividing K O g h k l → Type 0
  IsBegun p n s = (s.put_away ≡ false) × (left_of s.current ≡ terms_in p)
      × (map (λ v. terms_of g.meaning v.items) s.cofactors.items ≡ replicate n [])

  abbrev pub division_of : Poly K O g h k l → List (Poly K O g h k l)
      → Machine (division.State g.scalars.Elem)
  division_of p gs = machines.division g.scalars (k.order p.order) (terms_each gs) (terms_in p)

  pub record HasCofactors (o : O) (m : ℕ) (d : Division K O g h k l)
      (s : division.State g.scalars.Elem) : Type 0 where
    pub cofactors : terms_each d.cofactors.items ≡ s.cofactors
    pub remainder : terms_in d.remainder ≡ division.remainder s
    pub like : All (λ q. (q.order ≡ o) × (q.arity ≡ m)) d.cofactors.items
    pub remainder_order : d.remainder.order ≡ o
    pub remainder_arity : d.remainder.arity ≡ m

  abbrev pub IsNext : List (Poly K O g h k l) → (s t : Dividing K O g h k l)
      → (before after : Journal) → Bool → Type 0
  IsNext gs s t before after b =
      StepOrEnd (division.next (field g.scalars) (k.order s.current.rest.order) (terms_each gs))
      (state_of s) (state_of t) before after b

  abbrev pub IsPastNext : List (Poly K O g h k l) → Dividing K O g h k l → Type 0
  IsPastNext gs s = IsPastDivision g.scalars (field g.scalars) (terms_each gs) (state_of s)

  abbrev pub IsStopped : List (Poly K O g h k l) → Dividing K O g h k l → Journal → Type 0
  IsStopped gs s journal =
      StoppedAt (division.next (field g.scalars) (k.order s.current.rest.order) (terms_each gs))
      (state_of s) journal
