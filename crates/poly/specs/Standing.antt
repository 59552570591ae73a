-- Polynomials that stand for lists of terms, place by place.
--   IsInVariables m p              p is a polynomial in m variables
--   StandsFor m p q         and it is the same polynomial as the terms q
--   AllStandFor m ps qs     each of ps stands for that of qs at its place, and there are as many
use Rattle.std.specs.Prelude.{◌≡◌, ℕ, List}
use Rattle.std.specs.List.{AllZip}
use Rattle.polynomials.specs.Terms.{Terms}
use Rattle.std.specs.declared.cmp.PartialEq as PartialEq
use Rattle.ring_laws.specs.declared.Ring as Ring
use Rattle.monos.specs.declared.order.Order as Order
use Rattle.poly.specs.declared.Poly.{Poly}
use Rattle.poly.specs.Seen.{Is}

abbrev pub IsInVariables : {K O : Type 0} {g : Ring.Ghosts K} {h : PartialEq.Ghosts K}
    {k : Order.Ghosts O}
    {l : PartialEq.Ghosts O} → ℕ → Poly K O g h k l → Type 0
IsInVariables m p = p.arity ≡ m

abbrev pub StandsFor : {K O : Type 0} {g : Ring.Ghosts K} {h : PartialEq.Ghosts K}
    {k : Order.Ghosts O} {l : PartialEq.Ghosts O} → ℕ → Poly K O g h k l → Terms g.scalars.Elem
    → Type 0
StandsFor m p q = Is p.order m q p

abbrev pub AllStandFor : {K O : Type 0} {g : Ring.Ghosts K} {h : PartialEq.Ghosts K}
    {k : Order.Ghosts O} {l : PartialEq.Ghosts O} → ℕ → List (Poly K O g h k l)
    → List (Terms g.scalars.Elem) → Type 0
AllStandFor m ps qs = AllZip (StandsFor m) ps qs
