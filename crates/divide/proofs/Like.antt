-- Orders and arities carried along (specs/Current, specs/Division).
--   fits_along          of a division on its way
--   divisors_along      of the elements
--   starts              the first state of a division
use Rattle.std.proofs.Common.{◌≡◌, ℕ, false, List, [], length, map, replicate, sym, ◌∙◌}
use Rattle.std.proofs.lemmas.List.{length-map}
use Rattle.std.specs.declared.cmp.PartialEq as PartialEq
use Rattle.ring_laws.specs.declared.Ring as Ring
use Rattle.monos.specs.declared.order.Order as Order
use Rattle.poly.specs.declared.Poly.{Poly}
use Rattle.divide.specs.declared.dividing.Dividing.{Dividing}
use Rattle.machines.specs.Division.{initial_state}
use Rattle.poly.specs.Seen.{terms_in, terms_each}
use Rattle.poly.specs.View.{terms_of}
use Rattle.divide.specs.Current.{left_of, AreDivisors}
use Rattle.divide.specs.Division.{state_of, FitsDivision}
use Rattle.divide.proofs.Divided.{begun_is}

module _ {K O : Type 0} {g : Ring.Ghosts K} {h : PartialEq.Ghosts K} {k : Order.Ghosts O}
    {l : PartialEq.Ghosts O} where
  pub fits_along : (o o' : O) (m m' n : ℕ) (s : Dividing K O g h k l) → o ≡ o' → m ≡ m'
      → FitsDivision o m n s → FitsDivision o' m' n s
  fits_along o o' m m' n s e f i = record {
    order = i.order ∙ e;
    arity = i.arity ∙ f;
    count = i.count;
    away = i.away;
  }

  pub divisors_along : (o o' : O) (m m' : ℕ) (gs : List (Poly K O g h k l)) → o ≡ o' → m ≡ m'
      → AreDivisors o m gs → AreDivisors o' m' gs
  divisors_along o o' m m' gs e f i j d b = let one = i j d b in (one.0 ∙ e, one.1 ∙ f, one.2)

  pub starts : (gs : List (Poly K O g h k l)) (p : Poly K O g h k l) (s : Dividing K O g h k l)
      → (s.put_away ≡ false) × (left_of s.current ≡ terms_in p)
      × (map (λ v. terms_of g.meaning v.items) s.cofactors.items ≡ replicate (length gs) [])
      → state_of s ≡ initial_state (terms_each gs) (terms_in p)
  starts gs p s i = begun_is (terms_each gs) s.put_away (terms_in p) (left_of s.current)
      (map (λ v. terms_of g.meaning v.items) s.cofactors.items) (length gs) i.0 i.1 i.2
      (sym (length-map gs terms_in))
