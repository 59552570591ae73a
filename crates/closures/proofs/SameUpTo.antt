-- Two ideals with one reduced list up to a degree have the same members up to it.
--   lead_among, all_low     leads and degrees of terms
--   kept_up_to     a member of the one, up to the degree, is one of the other
--   same_up_to     lists are the same exactly where the members are
use Rattle.std.proofs.Common.{◌≡◌, ◌↔◌, inl, inr, ℕ, ◌≤◌, true, List, [], ◌∷◌, ◌++◌, length, sum, refl, sym, ap, ap₂, subst, ◌∙◌, arith, Less}
use Rattle.algebra.specs.Each.{Each}
use Rattle.algebra.specs.In.{In}
use Rattle.algebra.specs.Ring.{CommRing}
use Rattle.algebra.proofs.Each.{each-append}
use Rattle.algebra.proofs.In.{each_in, each_from}
use Rattle.algebra.proofs.RingSolver.{ring, ring_rules}
use Rattle.algebra.specs.Fraction.{Fraction, ℚ, rationals}
use Rattle.algebra.proofs.Fractions.{ℚ_ring, ℚ_field}
use Rattle.polynomials.specs.Algebra as Algebra
use Rattle.polynomials.specs.Exponent.{plus, over}
use Rattle.polynomials.specs.Terms.{Terms, Same, coefficient, shift, negate, times}
use Rattle.polynomials.specs.Order.{grevlex, compare}
use Rattle.polynomials.specs.Polynomial.{Arity, IsPolynomial, Below, Falls}
use Rattle.polynomials.proofs.Arity.{arity-append, arity-negate, arity-shift}
use Rattle.polynomials.proofs.Canonical.{coefficient_head}
use Rattle.polynomials.proofs.Distinct.{coefficient_apart}
use Rattle.polynomials.proofs.Lead.{below-shift}
use Rattle.polynomials.proofs.Monomials.{length-over}
use Rattle.polynomials.proofs.Order.{order_induction}
use Rattle.polynomials.proofs.Orders.{grevlex_order}
use Rattle.polynomials.proofs.Same.{Same-sym}
use Rattle.polynomials.proofs.Poly.{Poly, poly, poly_ring, poly_same, poly-nil, poly-append, poly-negate}
use Rattle.ideals.proofs.Ideal.{in_ideal_same, in_ideal_add, in_ideal_neg, in_ideal_head, in_ideal_tail}
use Rattle.machines.specs.Cut.{lead_of, lead_number, divides}
use Rattle.machines.specs.Collect.{collect}
use Rattle.machines.proofs.Collecting.{collect-polynomial, collect-same}
use Rattle.machines.proofs.Elements.{over-plus}
use Rattle.closures.proofs.OneUpTo.{term_at, one_up_to}
use Rattle.closures.proofs.UpTo.{less_degree, each_negate, from_ideal}
use Rattle.closures.specs.Closure.{IsIdeal}
use Rattle.closures.specs.UpTo.{IsReducedUpTo}

-- what is left of terms has its lead among them
pub lead_among : (Q : List ℕ → Type 0) (p r : Terms Fraction) (v : List ℕ × Fraction) (m : ℕ)
    → Each (λ t. Q t.0) p → collect rationals grevlex p ≡ v ∷ r
    → IsPolynomial ℚ grevlex m (v ∷ r) → Q v.0
unfolding Each Falls
lead_among Q p r v m b is h = elim (term_at v.0 p) [
  | inl (w, i, at) ↦ subst Q at (each_in (λ t. Q t.0) p w b i)
  | inr none ↦
      absurd (h.nonzero.0
      (sym (coefficient_head grevlex grevlex_order ℚ_ring v r h.falls.0)
      ∙ ap (λ x. coefficient ℚ x v.0) (sym is)
      ∙ (collect-same ℚ_field grevlex grevlex_order p).at v.0
      ∙ coefficient_apart ℚ_ring v.0 p none))
]

-- no term has a greater degree than the lead
pub all_low : (m d : ℕ) (g : Terms Fraction) → IsPolynomial ℚ grevlex m g → sum (lead_of g) ≤ d
    → Each (λ t. sum t.0 ≤ d) g
unfolding Each Falls lead_of
all_low m d [] h low = tt
all_low m d (u ∷ g) h low = (
  low,
  each_from g
      (λ t i.
      let less = less_degree t.0 u.0
      (each_in (λ t. length t.0 ≡ m) g t h.arity.1 i ∙ sym h.arity.0)
      (each_in (λ t. compare grevlex t.0 u.0 ≡ Less) g t h.falls.0 i) in
      omega (arith, less, low)),
)

module _ (m d : ℕ) (I J : Terms Fraction → Type 0) (ideal : IsIdeal m I) (other : IsIdeal m J)
    (gs : List (Terms Fraction)) (a : IsReducedUpTo m d gs I)
    (members : (g : Terms Fraction) → In g gs → J g) where
  abbrev T : CommRing (Poly m ℚ_ring)
  T = poly_ring m ℚ_ring

  abbrev of : Terms Fraction → Poly m ℚ_ring
  of p = poly m ℚ_ring p

  abbrev Goes : List ℕ → Type 0
  Goes e = (c : Fraction) (p : Terms Fraction) → IsPolynomial ℚ grevlex m ((e, c) ∷ p)
      → sum e ≤ d → I ((e, c) ∷ p) → J ((e, c) ∷ p)

  by_collected : (e : List ℕ) → ((f : List ℕ) → length f ≡ m → compare grevlex f e ≡ Less → Goes f)
      → sum e ≤ d → length e ≡ m → (r q : Terms Fraction) → Below grevlex e q
      → collect rationals grevlex q ≡ r → IsPolynomial ℚ grevlex m r → I r → J r
  unfolding Each
  by_collected e below low l [] q b is h i = other.zero
  by_collected e below low l (v ∷ r) q b is h i =
      let less = lead_among (λ f. compare grevlex f e ≡ Less) q r v m b is h in
      let lv : length v.0 ≡ m = h.arity.0 in
      let at_most = less_degree v.0 e (lv ∙ sym l) less in
      below v.0 lv less v.1 r h (omega (arith, at_most, low)) i

  -- a multiple of an element cancels the lead
  module _ (e : List ℕ) (c : Fraction) (p : Terms Fraction)
      (h : IsPolynomial ℚ grevlex m ((e, c) ∷ p)) (low : sum e ≤ d) (i : I ((e, c) ∷ p))
      (below : (f : List ℕ) → length f ≡ m → compare grevlex f e ≡ Less → Goes f)
      (u : List ℕ × Fraction) (g : Terms Fraction) (inside : In (u ∷ g) gs)
      (div : divides u.0 e ≡ true) (one : u.1 ≡ ℚ.one) where
    abbrev x : List ℕ
    x = over e u.0

    abbrev is_g : IsPolynomial ℚ grevlex m (u ∷ g)
    is_g = a.tidy.polynomials (u ∷ g) inside

    l : length e ≡ m
    unfolding Each
    l = h.arity.0

    lu : length u.0 ≡ m
    unfolding Each
    lu = is_g.arity.0

    lx : length x ≡ m
    lx = length-over e u.0 (l ∙ sym lu) ∙ l

    at_e : plus x u.0 ≡ e
    at_e = over-plus u.0 e (lu ∙ sym l) div

    ga : Arity m g
    unfolding Each
    ga = is_g.arity.1

    pa : Arity m p
    unfolding Each
    pa = h.arity.1

    abbrev s : Terms Fraction
    s = shift ℚ x c g

    sa : Arity m s
    sa = arity-shift m ℚ x c g lx ga

    abbrev q : Terms Fraction
    q = p ++ negate ℚ s

    qa : Arity m q
    qa = arity-append m p (negate ℚ s) pa (arity-negate m ℚ s sa)

    q_below : Below grevlex e q
    unfolding Falls
    q_below =
        each-append (λ t. compare grevlex t.0 e ≡ Less) p (negate ℚ s) h.falls.0
        (each_negate (λ f. compare grevlex f e ≡ Less) s
        (subst (λ f. Below grevlex f s) at_e
        (below-shift grevlex grevlex_order ℚ m x u.0 c g lx lu ga is_g.falls.0)))

    whole : shift ℚ x c (u ∷ g) ≡ (e, c) ∷ s
    unfolding Algebra.shift
    whole =
        ap₂ (λ (f : List ℕ) (y : Fraction). (f, y) ∷ s) at_e
        (ap (ℚ.mul c) one ∙ ℚ_ring.mul-one c)

    whole_in : (K : Terms Fraction → Type 0) → IsIdeal m K → K (u ∷ g) → K ((e, c) ∷ s)
    unfolding Each Algebra.times
    whole_in K k is =
        from_ideal m K k (times ℚ ((x, c) ∷ []) (u ∷ g) ∷ [])
        (k.multiple ((x, c) ∷ []) (u ∷ g) (lx, tt) is, tt) ((e, c) ∷ s) (l, sa)
        (in_ideal_same T (sym (once (shift ℚ x c (u ∷ g)) ∙ ap of whole)) (in_ideal_head T))
      where
        once : (p : Terms Fraction) → of (p ++ []) ≡ of p
        once p = poly-append m ℚ_ring p [] ∙ ap (T.add (of p)) (poly-nil m ℚ_ring)
            ∙ T.add-zero (of p)

    abbrev r : Terms Fraction
    r = collect rationals grevlex q

    is_r : IsPolynomial ℚ grevlex m r
    is_r = collect-polynomial ℚ_field grevlex grevlex_order m q qa

    of_r : of r ≡ T.add (of p) (T.neg (of s))
    of_r = poly_same m ℚ_ring (collect-same ℚ_field grevlex grevlex_order q)
        ∙ (poly-append m ℚ_ring p (negate ℚ s) ∙ ap (T.add (of p)) (poly-negate m ℚ_ring s))

    of_first : (y : Terms Fraction) → of ((e, c) ∷ y) ≡ T.add (of ((e, c) ∷ [])) (of y)
    of_first y = poly-append m ℚ_ring ((e, c) ∷ []) y

    apart : (z y w : Poly m ℚ_ring) → T.add y (T.neg w) ≡ T.add (T.add z y) (T.neg (T.add z w))
    apart z y w = ring T (z ∷ y ∷ w ∷ []) (search ring_rules depth 40) refl

    together : (z y w : Poly m ℚ_ring) → T.add z y ≡ T.add (T.add z w) (T.add y (T.neg w))
    together z y w = ring T (z ∷ y ∷ w ∷ []) (search ring_rules depth 40) refl

    r_in : I r
    unfolding Each
    r_in =
        from_ideal m I ideal (((e, c) ∷ p) ∷ ((e, c) ∷ s) ∷ [])
        (i, (whole_in I ideal (a.members (u ∷ g) inside), tt)) r is_r.arity
        (in_ideal_same T (of_r ∙ apart (of ((e, c) ∷ [])) (of p) (of s)
        ∙ sym (ap₂ (λ y w. T.add y (T.neg w)) (of_first p) (of_first s)))
        (in_ideal_add T (in_ideal_head T) (in_ideal_neg T (in_ideal_tail T (in_ideal_head T)))))

    cut : J ((e, c) ∷ p)
    unfolding Each
    cut =
        from_ideal m J other (((e, c) ∷ s) ∷ r ∷ []) (
          whole_in J other (members (u ∷ g) inside),
          (by_collected e below low l r q q_below refl is_r r_in, tt),
        ) ((e, c) ∷ p) h.arity
        (in_ideal_same T (of_first p ∙ together (of ((e, c) ∷ [])) (of p) (of s)
        ∙ sym (ap₂ T.add (of_first s) of_r))
        (in_ideal_add T (in_ideal_head T) (in_ideal_tail T (in_ideal_head T))))

  by_element : (e : List ℕ) (c : Fraction) (p : Terms Fraction)
      → IsPolynomial ℚ grevlex m ((e, c) ∷ p) → sum e ≤ d → I ((e, c) ∷ p)
      → ((f : List ℕ) → length f ≡ m → compare grevlex f e ≡ Less → Goes f)
      → (g : Terms Fraction) → In g gs → divides (lead_of g) e ≡ true → J ((e, c) ∷ p)
  unfolding lead_of lead_number
  by_element e c p h low i below [] inside div = absurd (a.tidy.nonzero [] inside refl)
  by_element e c p h low i below (u ∷ g) inside div =
      cut e c p h low i below u g inside div (a.tidy.monic (u ∷ g) inside)

  goes : (e : List ℕ) → length e ≡ m → Goes e
  goes e l =
      order_induction grevlex grevlex_order m Goes
      (λ e l below c p h low i.
      let (g, inside, div) = a.led (e, c) p h low i in
      by_element e c p h low i below g inside div) e l

  by_lead : (p r : Terms Fraction) → Each (λ t. sum t.0 ≤ d) p → collect rationals grevlex p ≡ r
      → IsPolynomial ℚ grevlex m r → I r → J r
  unfolding Each
  by_lead p [] low is h i = other.zero
  by_lead p (v ∷ r) low is h i =
      goes v.0 h.arity.0 v.1 r h (lead_among (λ f. sum f ≤ d) p r v m low is h) i

  pub kept_up_to : (p : Terms Fraction) → Each (λ t. sum t.0 ≤ d) p → I p → J p
  kept_up_to p low i =
      let pa = ideal.arity p i in
      let q = collect rationals grevlex p in
      let is : Same ℚ q p = collect-same ℚ_field grevlex grevlex_order p in
      let h : IsPolynomial ℚ grevlex m q =
      collect-polynomial ℚ_field grevlex grevlex_order m p pa in
      other.same q p pa is (by_lead p q low refl h (ideal.same p q h.arity (Same-sym ℚ is) i))

module _ (m d : ℕ) (I J : Terms Fraction → Type 0) (ideal : IsIdeal m I) (other : IsIdeal m J)
    (gs hs : List (Terms Fraction)) (a : IsReducedUpTo m d gs I) (b : IsReducedUpTo m d hs J)
  where
    abbrev AreSame : Type 0
    AreSame = (p : Terms Fraction) → Each (λ t. sum t.0 ≤ d) p → I p ↔ J p

    same_members : gs ≡ hs → AreSame
    same_members e p low = (
      kept_up_to m d I J ideal other gs a
          (λ g i. b.members g (subst (λ xs. In g xs) e i)) p low,
      kept_up_to m d J I other ideal hs b
          (λ g i. a.members g (subst (λ xs. In g xs) (sym e) i)) p low,
    )

    along : AreSame → IsReducedUpTo m d gs J
    unfolding lead_of
    along s = record {
      tidy = a.tidy;
      members = λ g i.
          (s g (all_low m d g (a.tidy.polynomials g i) (a.tidy.degrees g i))).0 (a.members g i);
      led = λ t p h low i. a.led t p h low ((s (t ∷ p) (all_low m d (t ∷ p) h low)).1 i);
    }

    pub same_up_to : (gs ≡ hs) ↔ AreSame
    same_up_to = (same_members, λ s. one_up_to m d J other gs hs (along s) b)
