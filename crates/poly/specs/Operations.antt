-- What operations on polynomials make, as lists of terms, and where they are past (polynomials/specs/Terms, Weight).
--   IsLike p ts q        q has p's order and variables, and is the polynomial ts
--   IsVariable o m i p   p is the i-th of m variables;  IsLeadOf p t: t is p's greatest term
--   opposite p, difference p q, product p q, power p n     the operations' lists of terms
--   multiple c p         c times p;  quotient c p: p over c;  shift_by e p: the monomial e times p
--   less_multiple p t q  p less t times q;  LeadIsMultiple p t q: p's lead is t times q's;  lead_number p: the number of p's lead
--   IsComposition p qs r     r is p with qs in place of its variables;  value p s: the value of p at the point s
--   XIsPast              the weight of X is past, or an exponent that it forms doesn't fit
--   ShareMonomial p q    some monomial is in both;  AreSame p q: both are the same polynomial;  AreEqual p q: the same arity and terms
--   AreDistinct ts       no two terms have the same monomial
use Rattle.std.specs.Prelude.{◌≡◌, ◌≢◌, ℕ, Some, List, ◌++◌, map, slice_get, AllPairs, IsSomeAnd}
use Rattle.std.specs.declared.cmp.PartialEq as PartialEq
use Rattle.algebra.specs.Arithmetic as Arithmetic
use Rattle.algebra.specs.Size.{IsPast, product_size, quotient_size}
use Rattle.polynomials.specs.Exponent.{plus}
use Rattle.polynomials.specs.Terms.{Terms, Same, constant, variables, negate, shift, times, lists, compose, value_at}
use Rattle.polynomials.specs.Weight.{weight, degrees, FitsMonomial, IsPastSum, IsPastProduct, IsPastPower, IsPastComposition, IsPastValue}
use Rattle.ring_laws.specs.declared.Ring as Ring
use Rattle.monos.specs.declared.order.Order as Order
use Rattle.poly.specs.declared.Poly.{Poly}
use Rattle.poly.specs.declared.Term.{Term}
use Rattle.poly.specs.Multiple.{IsPastMultiple, lead_coefficient}
use Rattle.poly.specs.Seen.{Is, terms_in, terms_each, arity_of}
use Rattle.poly.specs.Shared.{Share}
use Rattle.poly.specs.View.{term_of}

module _ {K O : Type 0} {g : Ring.Ghosts K} {h : PartialEq.Ghosts K} {k : Order.Ghosts O}
    {l : PartialEq.Ghosts O} where
  abbrev pub IsLike : Poly K O g h k l → Terms g.scalars.Elem → Poly K O g h k l → Type 0
  IsLike p ts = Is p.order p.arity ts

  abbrev pub IsVariable : O → ℕ → ℕ → Poly K O g h k l → Type 0
  IsVariable o m i p = IsSomeAnd (slice_get (variables g.scalars.arithmetic m) i) (λ x. Is o m x p)

  abbrev pub IsLeadOf : Poly K O g h k l → Term K → Type 0
  IsLeadOf p t = slice_get (terms_in p) 0 ≡ Some (term_of g.meaning t)

  abbrev pub opposite : Poly K O g h k l → Terms g.scalars.Elem
  opposite p = negate g.scalars.arithmetic (terms_in p)

  abbrev pub difference : (p q : Poly K O g h k l) → Terms g.scalars.Elem
  difference p q = terms_in p ++ negate g.scalars.arithmetic (terms_in q)

  abbrev pub product : (p q : Poly K O g h k l) → Terms g.scalars.Elem
  product p q = times g.scalars.arithmetic (terms_in p) (terms_in q)

  abbrev pub power : Poly K O g h k l → ℕ → Terms g.scalars.Elem
  power p n = Arithmetic.power (lists g.scalars.arithmetic p.arity) (terms_in p) n

  abbrev pub multiple : g.scalars.Elem → Poly K O g h k l → Terms g.scalars.Elem
  multiple c p = times g.scalars.arithmetic (constant p.arity c) (terms_in p)

  abbrev pub quotient : g.scalars.Elem → Poly K O g h k l → Terms g.scalars.Elem
  quotient c p = times g.scalars.arithmetic (constant p.arity (g.scalars.inverse c)) (terms_in p)

  abbrev pub shift_by : List ℕ → Poly K O g h k l → Terms g.scalars.Elem
  shift_by e p = shift g.scalars.arithmetic e g.scalars.one (terms_in p)

  abbrev pub less_multiple : Poly K O g h k l → Term K → Poly K O g h k l → Terms g.scalars.Elem
  less_multiple p t q = terms_in p ++ negate g.scalars.arithmetic (shift g.scalars.arithmetic t.mono
      (g.meaning t.coef) (terms_in q))

  abbrev pub LeadIsMultiple : Poly K O g h k l → Term K → Poly K O g h k l → Type 0
  LeadIsMultiple p t q = IsSomeAnd (slice_get (terms_in q) 0)
      (λ u. slice_get (terms_in p) 0 ≡ Some (plus t.mono u.0, g.scalars.mul (g.meaning t.coef) u.1))

  abbrev pub lead_number : Poly K O g h k l → g.scalars.Elem
  lead_number p = lead_coefficient g.scalars.arithmetic (terms_in p)

  abbrev pub IsComposition : Poly K O g h k l → List (Poly K O g h k l) → Poly K O g h k l → Type 0
  IsComposition p qs = Is p.order (arity_of qs) (compose g.scalars.arithmetic (arity_of qs)
      (terms_in p) (terms_each qs))

  abbrev pub value : Poly K O g h k l → List K → g.scalars.Elem
  value p s = value_at g.scalars.arithmetic (terms_in p) (map g.meaning s)

  abbrev pub SumIsPast : (p q : Poly K O g h k l) → Type 0
  SumIsPast p q = IsPastSum g.scalars (terms_in p) (terms_in q)

  abbrev pub ProductIsPast : (p q : Poly K O g h k l) → Type 0
  ProductIsPast p q = IsPastProduct g.scalars (terms_in p) (terms_in q)

  abbrev pub PowerIsPast : Poly K O g h k l → ℕ → Type 0
  PowerIsPast p n = IsPastPower g.scalars (terms_in p) n

  abbrev pub MultipleIsPast : g.scalars.Elem → Poly K O g h k l → Type 0
  MultipleIsPast c p = IsPast (product_size (g.scalars.size c) (weight g.scalars.size (terms_in p)))

  abbrev pub QuotientIsPast : g.scalars.Elem → Poly K O g h k l → Type 0
  QuotientIsPast c p =
      IsPast (quotient_size (weight g.scalars.size (terms_in p)) (g.scalars.size c))

  abbrev pub ShiftIsPast : List ℕ → Poly K O g h k l → Type 0
  ShiftIsPast e p = ¬ (FitsMonomial (plus e (degrees (terms_in p))))

  abbrev pub LessMultipleIsPast : Poly K O g h k l → Term K → Poly K O g h k l → Type 0
  LessMultipleIsPast p t q = IsPastMultiple g.scalars (terms_in p) t.mono (g.meaning t.coef)
      (terms_in q)

  abbrev pub CompositionIsPast : Poly K O g h k l → List (Poly K O g h k l) → Type 0
  CompositionIsPast p qs = IsPastComposition g.scalars (terms_in p) (terms_each qs)

  abbrev pub ValueIsPast : Poly K O g h k l → List K → Type 0
  ValueIsPast p s = IsPastValue g.scalars (terms_in p) (map g.meaning s)

  abbrev pub ShareMonomial : (p q : Poly K O g h k l) → Type 0
  ShareMonomial p q = Share (terms_in p) (terms_in q)

  abbrev pub AreSame : (p q : Poly K O g h k l) → Type 0
  AreSame p q = Same g.scalars.arithmetic (terms_in p) (terms_in q)

  abbrev pub AreEqual : (p q : Poly K O g h k l) → Type 0
  AreEqual p q = (p.arity ≡ q.arity) × (terms_in p ≡ terms_in q)

abbrev pub AreDistinct : {K : Type 0} → List (Term K) → Type 0
AreDistinct ts = AllPairs (λ s t. s.mono ≢ t.mono) ts
