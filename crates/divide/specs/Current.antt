-- The current polynomial of a division, and its next cancellation.
--   left_of c              its terms: those that are done, and the others
--   AreUndivided ls p      none of the leads ls divides a term of p
--   IsCurrent ls c         it is a polynomial, and of what is done no lead divides a term
--   IsLike c d             d has the order and the variables of c
--   AreDivisors o m gs     each of the gs has the order o and m variables, and is not 0
--   Cancels gs p c t       t is the next cancellation of p by the gs, its element and its factor, and leaves c
--   IsNextCut gs c d r     r is the next cancellation of what is left by the gs, and leaves d; or None where there is none, and all stays
--   CutsFirst S c g f d    f is the factor of the cancellation of the first term of c that isn't done by g, and d is what it leaves
use Rattle.std.specs.Prelude.{◌≡◌, ◌≢◌, ℕ, List, [], ◌++◌, position, All, Option, Some, None, MatchOption}
use Rattle.std.specs.declared.cmp.PartialEq as PartialEq
use Rattle.algebra.specs.Each.{Each}
use Rattle.algebra.specs.Scalars.{field}
use Rattle.polynomials.specs.Polynomial.{IsPolynomial}
use Rattle.polynomials.specs.Terms.{Terms}
use Rattle.machines.specs.Cut.{Cutting, divides, find_cut, after_cut, all_places}
use Rattle.ring_laws.specs.declared.Ring as Ring
use Rattle.monos.specs.declared.order.Order as Order
use Rattle.poly.specs.declared.Poly.{Poly}
use Rattle.poly.specs.declared.Term.{Term}
use Rattle.poly.specs.Seen.{terms_in, terms_each}
use Rattle.poly.specs.View.{terms_of}
use Rattle.divide.specs.declared.current.Current.{Current}
use Rattle.divide.specs.declared.current.Cut.{Cut}
use Rattle.divide.specs.Cutting.{term_at, Cuts}

abbrev pub AreUndivided : {A : Type 0} → List (List ℕ) → Terms A → Type 0
AreUndivided ls p = Each (λ t. position (λ d. divides d t.0) ls ≡ None) p

module _ {K O : Type 0} {g : Ring.Ghosts K} {h : PartialEq.Ghosts K} {k : Order.Ghosts O}
    {l : PartialEq.Ghosts O} where
  abbrev pub done_of : Current K O g h k l → Terms g.scalars.Elem
  done_of c = terms_of g.meaning c.done.items

  abbrev pub left_of : Current K O g h k l → Terms g.scalars.Elem
  left_of c = done_of c ++ terms_in c.rest

  pub record IsCurrent (ls : List (List ℕ)) (c : Current K O g h k l) : Type 0 where
    pub descending : IsPolynomial g.scalars.arithmetic (k.order c.rest.order) c.rest.arity
        (left_of c)
    pub undivided : AreUndivided ls (done_of c)

  abbrev pub IsLike : (c d : Current K O g h k l) → Type 0
  IsLike c d = (d.rest.order ≡ c.rest.order) × (d.rest.arity ≡ c.rest.arity)

  abbrev pub AreDivisors : O → ℕ → List (Poly K O g h k l) → Type 0
  AreDivisors o m gs = All (λ f. (f.order ≡ o) × (f.arity ≡ m) × (terms_in f ≢ [])) gs

  pub record Cancels (o : O) (gs : List (Terms g.scalars.Elem)) (p : Terms g.scalars.Elem)
      (c : Current K O g h k l) (t : Cut K) : Type 0 where
    pub cutting : Cutting g.scalars.Elem
    pub found : find_cut (field g.scalars) all_places gs p ≡ Some cutting
    pub element : t.element ≡ cutting.place
    pub by : t.factor.mono ≡ cutting.by
    pub number : g.meaning t.factor.coef ≡ cutting.number
    pub left : left_of c ≡ after_cut (field g.scalars) (k.order o) p cutting

  abbrev pub IsNextCut : List (Poly K O g h k l) → (c d : Current K O g h k l) → Option (Cut K)
      → Type 0
  IsNextCut gs c d r =
      MatchOption r
      ((find_cut (field g.scalars) all_places (terms_each gs) (left_of c) ≡ None)
      × (left_of d ≡ left_of c))
      (Cancels c.rest.order (terms_each gs) (left_of c) d)

  abbrev pub CutsFirst : Current K O g h k l → Poly K O g h k l → Current K O g h k l → Term K
      → Type 0
  CutsFirst c q d f =
      Cuts g.scalars (k.order c.rest.order) (left_of c) (term_at g.scalars (terms_in c.rest) 0)
      (terms_in q) f.mono (g.meaning f.coef) (left_of d)
