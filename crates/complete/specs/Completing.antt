-- Completions as the program makes them.
--   current_of c          what is current, if anything is
--   AreLike o m gs        each of the gs has the order o and m variables
--   AreAlike gs           all of the gs have one order and as many variables
--   state_of s            a completion on its way, as a state of the machine
--   IsSmall k n           the sugar n is below what it can be where there are k elements
--   FitsCompletion o m s            its elements and what is current have the order o and m variables, the leads are theirs, each has a sugar, and the pairs are a queue
--   completion_of o gens  the completion of the gens, as a machine
--   HasElements o m gs s  the gs are the elements of the state s, of the order o and m variables, and not 0
--   IsBasis o m gens gs                the gs are a Gröbner basis of the ideal of the gens
-- Of the next event, in the order of s:
--   IsNext s t before after b          b is whether an event comes next: it leads from s to t; else both states and both journals are the same
--   IsPastNext s                       the next event is past
--   IsStopped s journal                the next event is a unit, and the units equal the limit
--   IsWithGenerator p s t              t is s with p, made monic, at the end of its list, unless p is 0
--   IsWithElement p n s t              t is s with p, of sugar n, at the end of its list
use Rattle.std.specs.Prelude.{◌≡◌, ◌<◌, ◌≤◌, ◌+◌, ◌*◌, ◌^◌, ℕ, Bool, List, [], ◌∷◌, length, map, All, Option, Some, None, IfSome}
use Rattle.std.specs.Global.{Vec}
use Rattle.std.specs.declared.cmp.PartialEq as PartialEq
use Rattle.algebra.specs.Scalars.{field}
use Rattle.polynomials.specs.Terms.{Terms}
use Rattle.machines.specs.Basis.{IsBasisOf}
use Rattle.machines.specs.Completion as completion
use Rattle.machines.specs.Cut.{lead_of}
use Rattle.machines.specs.Journal.{Journal}
use Rattle.machines.specs.Machine.{Machine}
use Rattle.machines.specs.Machines as machines
use Rattle.machines.specs.Pairs.{mixes_degrees}
use Rattle.machines.specs.Past.{IsPastCompletion}
use Rattle.machines.specs.Work.{StepOrEnd, StoppedAt}
use Rattle.ring_laws.specs.declared.Ring as Ring
use Rattle.monos.specs.Variables.{most_variables}
use Rattle.monos.specs.declared.order.Order as Order
use Rattle.poly.specs.declared.Poly.{Poly}
use Rattle.poly.specs.Seen.{terms_in, terms_each}
use Rattle.divide.specs.declared.current.Current.{Current}
use Rattle.divide.specs.Current.{left_of, IsCurrent, AreDivisors}
use Rattle.complete.specs.declared.element.Completing.{Completing}
use Rattle.complete.specs.Pairs.{pair_of, waiting_pairs, IsQueue}

abbrev pub IsSmall : ℕ → ℕ → Type 0
IsSmall k n = n < (k + 1) * 2 ^ 32

module _ {K O : Type 0} {g : Ring.Ghosts K} {h : PartialEq.Ghosts K} {k : Order.Ghosts O}
    {l : PartialEq.Ghosts O} where
  abbrev pub current_of : Option (Current K O g h k l) → Option (Terms g.scalars.Elem)
  current_of None = None
  current_of (Some c) = Some (left_of c)

  abbrev pub state_of : Completing K O g h k l → completion.State g.scalars.Elem
  state_of s = record {
    basis = terms_each s.basis.items;
    sugars = s.sugars.items;
    waiting = map pair_of (waiting_pairs s.queue);
    current = current_of s.current;
    pair_sugar = s.pair_sugar;
  }

  abbrev pub AreLike : O → ℕ → List (Poly K O g h k l) → Type 0
  AreLike o m gs = All (λ f. (f.order ≡ o) × (f.arity ≡ m)) gs

  abbrev pub AreAlike : List (Poly K O g h k l) → Type 0
  AreAlike gs = All (λ f. AreLike f.order f.arity gs) gs

  pub record FitsCompletion (o : O) (m : ℕ) (s : Completing K O g h k l) : Type 0 where
    pub order : s.order ≡ o
    pub arity : s.arity ≡ m
    pub elements : AreDivisors o m s.basis.items
    pub leads : s.leads.items ≡ map lead_of (terms_each s.basis.items)
    pub sugars : length s.sugars.items ≡ length s.basis.items
    pub small : All (IsSmall (length s.basis.items)) s.sugars.items
    pub pair_small : IsSmall (length s.basis.items + 1) s.pair_sugar
    pub mixed : m ≤ most_variables → s.queue.mixed ≡ mixes_degrees (k.order o) m
    pub queue : IsQueue (k.order o) s.leads.items s.sugars.items s.queue
    pub current : IfSome s.current (λ c.
        (c.rest.order ≡ o) × (c.rest.arity ≡ m) × IsCurrent s.leads.items c)

  abbrev pub completion_of : O → List (Poly K O g h k l)
      → Machine (completion.State g.scalars.Elem)
  completion_of o gens = machines.completion g.scalars (k.order o) (terms_each gens)

  pub record HasElements (o : O) (m : ℕ) (gs : Vec (Poly K O g h k l))
      (s : completion.State g.scalars.Elem) : Type 0 where
    pub basis : terms_each gs.items ≡ s.basis
    pub elements : AreDivisors o m gs.items

  abbrev pub IsBasis : O → ℕ → List (Poly K O g h k l) → List (Poly K O g h k l) → Type 0
  IsBasis o m gens gs = IsBasisOf (field g.scalars) (k.order o) m (terms_each gs) (terms_each gens)

  abbrev pub IsNext : (s t : Completing K O g h k l) → (before after : Journal) → Bool → Type 0
  IsNext s t before after b =
      StepOrEnd (completion.next (field g.scalars) (k.order s.order)) (state_of s) (state_of t)
      before after b

  abbrev pub IsPastNext : Completing K O g h k l → Type 0
  IsPastNext s = IsPastCompletion g.scalars (field g.scalars) (state_of s)

  abbrev pub IsStopped : Completing K O g h k l → Journal → Type 0
  IsStopped s journal =
      StoppedAt (completion.next (field g.scalars) (k.order s.order)) (state_of s) journal

  abbrev pub IsWithGenerator : Poly K O g h k l → (s t : Completing K O g h k l) → Type 0
  IsWithGenerator p s t =
      state_of t
      ≡ completion.with_elements (field g.scalars) (k.order s.order) (state_of s) (terms_in p ∷ [])

  abbrev pub IsWithElement : Poly K O g h k l → ℕ → (s t : Completing K O g h k l) → Type 0
  IsWithElement p n s t =
      state_of t
      ≡ completion.with_element (field g.scalars) (k.order s.order) (state_of s) (terms_in p) n
