-- Tidyings as the program makes them.
--   monic_each gs                     the gs, each made monic
--   start_of o gs                     the list that a tidying of the gs begins with: that in ascending order of leads
--   elements_of s                     the elements of a tidying on its way
--   FitsTidying o m s                        they have the order o and m variables and are not 0, the leads are theirs, and what comes next is found from the places on
--   tidying_of o gs                   the tidying of the gs, as a machine
--   HasTidied o m gs hs               the gs are the list hs, of the order o and m variables, and not 0
--   IsReducedOf o m gs hs             where the gs, made monic, are a Gröbner basis of an ideal, hs is its reduced basis
-- Of the next event:
--   IsNext s t before after b         b is whether an event comes next: it leads from s to t; else both states and both journals are the same
--   IsPastNext s                      the next event is past
--   IsStopped s journal               the next event is a unit, and the units equal the limit
use Rattle.std.specs.Prelude.{◌≡◌, ◌≤◌, ℕ, Bool, List, length, map, drop}
use Rattle.std.specs.Global.{Vec}
use Rattle.std.specs.declared.cmp.PartialEq as PartialEq
use Rattle.algebra.specs.Scalars.{field}
use Rattle.polynomials.specs.Polynomial.{IsPolynomial}
use Rattle.polynomials.specs.Terms.{Terms}
use Rattle.ideals.specs.Members.{IsMember}
use Rattle.machines.specs.Basis.{AtPlaces, IsBasisOf}
use Rattle.machines.specs.Cut.{lead_of, monic}
use Rattle.machines.specs.Journal.{Journal}
use Rattle.machines.specs.Machine.{Machine}
use Rattle.machines.specs.Machines as machines
use Rattle.machines.specs.Past.{IsPastTidying}
use Rattle.machines.specs.Reduced.{IsReducedBasis}
use Rattle.machines.specs.Tidying as tidying
use Rattle.machines.specs.Work.{StepOrEnd, StoppedAt}
use Rattle.ring_laws.specs.declared.Ring as Ring
use Rattle.monos.specs.declared.order.Order as Order
use Rattle.poly.specs.declared.Poly.{Poly}
use Rattle.poly.specs.Seen.{terms_each}
use Rattle.divide.specs.Current.{AreDivisors}
use Rattle.reduced_basis.specs.declared.tidying.Tidying.{Tidying}
use Rattle.reduced_basis.specs.Leads.{redundant_from}
use Rattle.divide.specs.Limits.{list_limit}

module _ {K O : Type 0} {g : Ring.Ghosts K} {h : PartialEq.Ghosts K} {k : Order.Ghosts O}
    {l : PartialEq.Ghosts O} where
  abbrev pub monic_each : List (Poly K O g h k l) → List (Terms g.scalars.Elem)
  monic_each gs = map (monic (field g.scalars)) (terms_each gs)

  abbrev pub start_of : O → List (Poly K O g h k l) → List (Terms g.scalars.Elem)
  start_of o gs = tidying.initial_list (field g.scalars) (k.order o) (terms_each gs)

  abbrev pub elements_of : Tidying K O g h k l → List (Terms g.scalars.Elem)
  elements_of s = terms_each s.list.items

  pub record FitsTidying (o : O) (m : ℕ) (s : Tidying K O g h k l) : Type 0 where
    pub order : s.order ≡ o
    pub arity : s.arity ≡ m
    pub few : length s.list.items ≤ list_limit
    pub elements : AreDivisors o m s.list.items
    pub leads : s.leads.items ≡ map lead_of (elements_of s)
    pub apart_in : s.apart ≤ length s.leads.items
    pub apart : redundant_from s.leads.items 0 s.leads.items
        ≡ redundant_from s.leads.items s.apart (drop s.apart s.leads.items)
    pub clean_in : s.clean ≤ length s.list.items
    pub clean : tidying.tail_cut (field g.scalars) (elements_of s)
        ≡ tidying.tail_from (field g.scalars) (elements_of s) s.clean (drop s.clean (elements_of s))

  abbrev pub tidying_of : O → List (Poly K O g h k l) → Machine (List (Terms g.scalars.Elem))
  tidying_of o gs = machines.tidying g.scalars (k.order o) (terms_each gs)

  pub record HasTidied (o : O) (m : ℕ) (gs : Vec (Poly K O g h k l))
      (hs : List (Terms g.scalars.Elem)) : Type 0 where
    pub list : terms_each gs.items ≡ hs
    pub elements : AreDivisors o m gs.items

  abbrev pub IsReducedOf : O → ℕ → List (Poly K O g h k l) → List (Poly K O g h k l) → Type 0
  IsReducedOf o m gs hs = (is : List (Terms g.scalars.Elem))
      → AtPlaces (IsPolynomial g.scalars.arithmetic (k.order o) m) is
      → IsBasisOf (field g.scalars) (k.order o) m (monic_each gs) is
      → IsReducedBasis (field g.scalars) (k.order o) m (terms_each hs)
      (IsMember g.scalars.arithmetic m is)

  abbrev pub IsNext : (s t : Tidying K O g h k l) → (before after : Journal) → Bool → Type 0
  IsNext s t before after b =
      StepOrEnd (tidying.next (field g.scalars) (k.order s.order)) (elements_of s) (elements_of t)
      before after b

  abbrev pub IsPastNext : Tidying K O g h k l → Type 0
  IsPastNext s = IsPastTidying g.scalars (field g.scalars) (elements_of s)

  abbrev pub IsStopped : Tidying K O g h k l → Journal → Type 0
  IsStopped s journal =
      StoppedAt (tidying.next (field g.scalars) (k.order s.order)) (elements_of s) journal
