-- What a `Poly` is.
--   terms_in p       the exponents and the number of each of its terms
--   Is o m ts p      p has the order o and m variables, and is the polynomial ts
--   terms_each ps    the terms of each;  arity_of ps: the arity of the first, and 0 of none
--   IsImage o m p    p has the order o and m variables;  AreImages o m ps: each has
use Rattle.std.specs.Prelude.{◌≡◌, ℕ, List, [], ◌∷◌, map}
use Rattle.polynomials.specs.Terms.{Terms, Same}
use Rattle.std.specs.declared.cmp.PartialEq as PartialEq
use Rattle.ring_laws.specs.declared.Ring as Ring
use Rattle.monos.specs.declared.order.Order as Order
use Rattle.poly.specs.declared.Poly.{Poly}
use Rattle.poly.specs.View.{terms_of}

abbrev pub terms_in : {K O : Type 0} {g : Ring.Ghosts K} {h : PartialEq.Ghosts K}
    {k : Order.Ghosts O} {l : PartialEq.Ghosts O} → Poly K O g h k l → Terms g.scalars.Elem
terms_in {g = g} p = terms_of g.meaning p.terms.items

pub record Is {K O : Type 0} {g : Ring.Ghosts K} {h : PartialEq.Ghosts K} {k : Order.Ghosts O}
    {l : PartialEq.Ghosts O} (o : O) (m : ℕ) (ts : Terms g.scalars.Elem)
    (p : Poly K O g h k l) : Type 0 where
  pub order : p.order ≡ o
  pub arity : p.arity ≡ m
  pub same : Same g.scalars.arithmetic (terms_in p) ts

abbrev pub terms_each : {K O : Type 0} {g : Ring.Ghosts K} {h : PartialEq.Ghosts K}
    {k : Order.Ghosts O} {l : PartialEq.Ghosts O} → List (Poly K O g h k l)
    → List (Terms g.scalars.Elem)
terms_each ps = map terms_in ps

abbrev pub arity_of : {K O : Type 0} {g : Ring.Ghosts K} {h : PartialEq.Ghosts K}
    {k : Order.Ghosts O} {l : PartialEq.Ghosts O} → List (Poly K O g h k l) → ℕ
arity_of [] = 0
arity_of (p ∷ ps) = p.arity

pub record IsImage {K O : Type 0} {g : Ring.Ghosts K} {h : PartialEq.Ghosts K} {k : Order.Ghosts O}
    {l : PartialEq.Ghosts O} (o : O) (m : ℕ) (p : Poly K O g h k l) : Type 0 where
  pub order : p.order ≡ o
  pub arity : p.arity ≡ m

abbrev pub AreImages : {K O : Type 0} {g : Ring.Ghosts K} {h : PartialEq.Ghosts K}
    {k : Order.Ghosts O} {l : PartialEq.Ghosts O} → O → ℕ → List (Poly K O g h k l) → Type 0
AreImages o m [] = Unit {0}
AreImages o m (q ∷ qs) = IsImage o m q × AreImages o m qs
