-- A division of what has all its terms below some monomial stays below it: each product of a cofactor with its element does.
--   Stays gs e s           at a state: the remainder has no coefficient from e on, and the product of each term of a cofactor with the lead of its element is below e
--   stays_run              at each state of a division that begins so
--   products_below         so the leads of the products are below e
use Rattle.std.proofs.Common.{◌≡◌, ℕ, zero, suc, List, [], ◌∷◌, ◌++◌, map, length, slice_get, Option, Some, None, refl, sym, ap, ap₂, subst, ◌∙◌, ◌⊎◌, inl, inr, Ordering, Less, Equal, Greater}
use Rattle.algebra.specs.Arithmetic.{Arithmetic}
use Rattle.algebra.specs.Each.{Each}
use Rattle.algebra.specs.FieldArithmetic.{FieldArithmetic, calculus}
use Rattle.algebra.specs.In.{In}
use Rattle.algebra.specs.Ring.{CommRing, Field, operations}
use Rattle.algebra.proofs.In.{in_push}
use Rattle.algebra.proofs.RingLaws.{neg-zero}
use Rattle.polynomials.specs.Algebra as Algebra
use Rattle.polynomials.specs.Exponent.{plus, exponents}
use Rattle.polynomials.specs.Terms.{Terms, coefficient, shift, times}
use Rattle.polynomials.specs.Order.{Rank, IsMonomialOrder, compare}
use Rattle.polynomials.specs.Polynomial.{Arity, Below, Falls, IsPolynomial}
use Rattle.polynomials.proofs.Algebra.{coefficient-append, coefficient-negate}
use Rattle.polynomials.proofs.Canonical.{coefficient_below, Below-weaker}
use Rattle.polynomials.proofs.Lead.{below-append, below-shift}
use Rattle.polynomials.proofs.Order.{below_others}
use Rattle.machines.specs.Basis.{AtPlaces}
use Rattle.machines.specs.Cut.{lead_of, Cutting, find_cut, after_cut, all_places}
use Rattle.machines.specs.Division.{State, initial_state, remainder, with_term, next_cut, next_division, next}
use Rattle.machines.specs.Event.{Event, Cut, Zero}
use Rattle.machines.specs.Run.{IsRun}
use Rattle.machines.proofs.Cofactors.{get_with_term, cofactors_fall}
use Rattle.machines.proofs.Collecting.{collect-same}
use Rattle.machines.proofs.Cuts.{Found, found_cut, found_at, by_long, at_term, after_cut-polynomial}
use Rattle.machines.proofs.Elements.{IsElement}
use Rattle.machines.proofs.Monic.{shift_above, term_low}
use Rattle.machines.proofs.Places.{get_same}
use Rattle.corollaries.specs.Representation.{IsLeadBelow, AreBelow}

module _ {A : Type 0} (K : Field A) (O : Rank) (o : IsMonomialOrder O) (m : ℕ) (gs : List (Terms A))
    (el : AtPlaces (IsElement K O o m) gs) (l : List ℕ) where
  abbrev R : CommRing A
  R = K.ring

  abbrev N : Arithmetic A
  N = operations K.ring

  abbrev F : FieldArithmetic A
  F = calculus K

  abbrev pub IsLow : Terms A → Type 0
  IsLow p = (d : List ℕ) → (compare O d l ≡ Less → ⊥) → coefficient N p d ≡ K.zero

  pub record Stays (s : State A) : Type 0 where
    pub polynomial : IsPolynomial N O m (remainder s)
    pub low : IsLow (remainder s)
    pub products : (k : ℕ) (q g : Terms A) → slice_get s.cofactors k ≡ Some q
        → slice_get gs k ≡ Some g → (u : List ℕ × A) → In u q → compare O (plus u.0 (lead_of g)) l
        ≡ Less

  stays_cut : (p : Terms A) (qs : List (Terms A)) (c : Cutting A) → find_cut F all_places gs p
      ≡ Some c → Stays (record { current = Some p; cofactors = qs })
      → Stays (record {
        current = Some (after_cut F O p c);
        cofactors = with_term c.place (c.by, c.number) qs;
      })
  unfolding after_cut
  stays_cut p qs c e s =
      let b : Found F all_places gs p c = found_cut F all_places gs p c e in
      let at : slice_get gs c.place ≡ Some c.of = found_at F all_places gs b.term c b.by_first in
      let g : IsElement K O o m c.of = el c.place c.of at in
      let long : length c.by ≡ m = by_long K O o m all_places gs p c s.polynomial.arity b g in
      let down : compare O (plus c.by (lead_of c.of)) l ≡ Less =
      ap (λ d. compare O d l) (at_term K O o m all_places gs p c s.polynomial.arity b g)
      ∙ term_low K O o m p l s.polynomial s.low b.term b.in_list in
      record {
        polynomial = after_cut-polynomial K O o m p c s.polynomial.arity g long;
        low = λ d n. (collect-same K O o _).at d ∙ coefficient-append exponents R p _ d
            ∙ ap₂ R.add (s.low d n) (coefficient-negate exponents R _ d
            ∙ ap R.neg (shift_above K O o m c.by c.number c.of g long d
            (below_others O o d l (plus c.by (lead_of c.of)) n down)) ∙ neg-zero R)
            ∙ R.add-zero K.zero;
        products = λ k x y ix iy u iu. new_products at down k x y iy u iu
            (get_with_term c.place (c.by, c.number) qs k x ix);
      }
    where
      new_products : slice_get gs c.place ≡ Some c.of → compare O (plus c.by (lead_of c.of)) l
          ≡ Less → (k : ℕ) (x g : Terms A) → slice_get gs k ≡ Some g → (u : List ℕ × A) → In u x
          → (q : Terms A) × (slice_get qs k ≡ Some q)
          × ((x ≡ q) ⊎ ((k ≡ c.place) × (x ≡ q ++ (c.by, c.number) ∷ [])))
          → compare O (plus u.0 (lead_of g)) l ≡ Less
      new_products at down k x g ig u iu (q, iq, inl is) =
          s.products k q g iq ig u (subst (λ y. In u y) is iu)
      new_products at down k x g ig u iu (q, iq, inr is) =
          go (in_push q (c.by, c.number) u (subst (λ y. In u y) is.1 iu))
        where
          go : In u q ⊎ (u ≡ (c.by, c.number)) → compare O (plus u.0 (lead_of g)) l ≡ Less
          go (inl j) = s.products k q g iq ig u j
          go (inr eu) =
              let same : c.of ≡ g = get_same gs k c.of g (ap (slice_get gs) is.0 ∙ at) ig in
              ap (λ d. compare O d l) (ap₂ plus (ap (λ (y : List ℕ × A). y.0) eu)
              (ap lead_of (sym same))) ∙ down

  stays_divided : (p : Terms A) (qs : List (Terms A)) (c : Option (Cutting A)) (e : Event)
      (u : State A) → find_cut F all_places gs p ≡ c → next_cut F O gs p qs c ≡ Some (e, u)
      → Stays (record { current = Some p; cofactors = qs }) → Stays u
  unfolding next_cut
  stays_divided p qs (Some c) e u h n s =
      let is : ◌≡◌ {A = Event × State A} (
        Cut c.place,
        record {
          current = Some (after_cut F O p c);
          cofactors = with_term c.place (c.by, c.number) qs;
        },
      ) (e, u) = cc in
      subst Stays (ap (λ (x : Event × State A). x.1) is) (stays_cut p qs c h s)
  stays_divided [] qs None e u h n s =
      let is : ◌≡◌ {A = Event × State A} (Zero, record { current = None; cofactors = qs }) (e, u) =
      cc in
      subst Stays (ap (λ (x : Event × State A). x.1) is) (record {
        polynomial = s.polynomial;
        low = s.low;
        products = s.products;
      })
  stays_divided (t ∷ p) qs None e u h n s = absurd (let z : ⊥ = cc in z)

  stays_dividing : (c : Option (Terms A)) (qs : List (Terms A)) (e : Event) (u : State A)
      → next_division F O gs c qs ≡ Some (e, u) → Stays (record { current = c; cofactors = qs })
      → Stays u
  unfolding next_division
  stays_dividing None qs e u n s = absurd (let z : ⊥ = cc in z)
  stays_dividing (Some p) qs e u n s = stays_divided p qs (find_cut F all_places gs p) e u refl n s

  pub stays_run : (s u : State A) (es : List Event) → IsRun (next F O gs) s es u → Stays s → Stays u
  unfolding IsRun next
  stays_run s u [] h f = subst Stays h f
  stays_run s u (e ∷ es) (v, n, h) f = stays_run v u es h (stays_dividing s.current s.cofactors e v
      n f)

  nothing : (hs : List (Terms A)) (k : ℕ) (q : Terms A)
      → slice_get (map {A = Terms A} {B = Terms A} (λ g. []) hs) k ≡ Some q → q ≡ []
  nothing [] k q h = absurd (let z : ⊥ = cc in z)
  nothing (g ∷ hs) zero q h = cc
  nothing (g ∷ hs) (suc k) q h = nothing hs k q h

  pub stays_begun : (p : Terms A) → IsPolynomial N O m p → IsLow p → Stays (initial_state gs p)
  stays_begun p h low = record {
    polynomial = h;
    low = low;
    products = λ k q g at ig u iu.
        absurd (subst (λ y. In u y) (nothing gs k q at) iu);
  }

  -- ---- leads of products
  below_element : (t : List ℕ × A) (g : Terms A) → length t.0 ≡ m → IsElement K O o m g
      → compare O (plus t.0 (lead_of g)) l ≡ Less → Below O l (shift N t.0 t.1 g)
  unfolding lead_of Algebra.shift Each Falls
  below_element t [] a i k = absurd (i.nonzero refl)
  below_element t (v ∷ g) a i k = (
    k,
    Below-weaker O o (plus t.0 v.0) l (shift N t.0 t.1 g) k (below-shift O o N m t.0 v.0 t.1 g a
        i.polynomial.arity.0 i.polynomial.arity.1 i.polynomial.falls.0),
  )

  product_below : (q g : Terms A) → Arity m q → IsElement K O o m g
      → ((u : List ℕ × A) → In u q → compare O (plus u.0 (lead_of g)) l ≡ Less)
      → Below O l (times N q g)
  unfolding Each Algebra.times
  product_below [] g a i h = tt
  product_below (t ∷ q) g a i h = below-append O o l (shift N t.0 t.1 g) (times N q g)
      (below_element t g a.0 i (h t (inl refl))) (product_below q g a.1 i (λ u iu. h u (inr iu)))

  lead_below : (p : Terms A) → Below O l p → IsLeadBelow F O l p
  lead_below p b d h = go (compare O d l) refl
    where
      no : (compare O d l ≡ Less → ⊥) → ⊥
      no n = h.occurs (coefficient_below O o R l d p b n)

      go : (w : Ordering) → compare O d l ≡ w → compare O d l ≡ Less
      go Less k = k
      go Equal k = absurd (no (λ j. (let z : ⊥ = cc in z)))
      go Greater k = absurd (no (λ j. (let z : ⊥ = cc in z)))

  rows_below : (qs hs : List (Terms A)) → AtPlaces (IsPolynomial N O m) qs
      → AtPlaces (IsElement K O o m) hs
      → ((k : ℕ) (q g : Terms A) → slice_get qs k ≡ Some q → slice_get hs k ≡ Some g
      → (u : List ℕ × A) → In u q → compare O (plus u.0 (lead_of g)) l ≡ Less)
      → AreBelow F O l qs hs
  unfolding AreBelow
  rows_below [] hs a e h = tt
  rows_below (q ∷ qs) [] a e h = tt
  rows_below (q ∷ qs) (g ∷ hs) a e h = (
    lead_below (times N q g) (product_below q g (a zero q refl).arity (e zero g refl)
        (h zero q g refl refl)),
    rows_below qs hs (λ k x i. a (suc k) x i) (λ k x i. e (suc k) x i) (λ k x y i j.
        h (suc k) x y i j),
  )

  pub products_below : (p : Terms A) → IsPolynomial N O m p → IsLow p
      → (s : State A) (es : List Event) → IsRun (next F O gs) (initial_state gs p) es s
      → AreBelow F O l s.cofactors gs
  products_below p h low s es run = rows_below s.cofactors gs (cofactors_fall K O o m gs el p h s es
      run) el (stays_run (initial_state gs p) s es run (stays_begun p h low)).products
