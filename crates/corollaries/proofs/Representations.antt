-- Lists whose S-polynomials are sums of products below the least common multiples of the leads (specs/Representation): by Buchberger's criterion they are
-- Gröbner bases, and no completion is run.
--   terms_below                 where the lead of a product is below e, so is each term's product with the lead
--   row_rep                     such a combination is a sum of multiples below e
--   represented_holds           a pair with such a sum holds;  coprime_holds: so does one with coprime leads
--   but_coprime_represented     a monic list of whose pairs all have such sums, but those with coprime leads, is a Gröbner basis of its own ideal
--   all_represented             so is one of whose pairs all have
use Rattle.std.proofs.Common.{◌≡◌, ◌≢◌, ◌⊎◌, inl, inr, ℕ, zero, suc, ◌<◌, Bool, true, false, List, [], ◌∷◌, length, slice_get, get_or, Some, refl, sym, ap, ap₂, subst, ◌∙◌, arith, Less}
use Rattle.algebra.specs.Arithmetic.{Arithmetic}
use Rattle.algebra.specs.Each.{Each}
use Rattle.algebra.specs.FieldArithmetic.{FieldArithmetic, calculus}
use Rattle.algebra.proofs.FieldLaws.{product-ne-zero}
use Rattle.algebra.specs.Ring.{CommRing, Field, HasNoZeroDivisors, operations}
use Rattle.polynomials.specs.Algebra as Algebra
use Rattle.polynomials.specs.Algebra.{IsMonoid, Ordered, Lcm}
use Rattle.polynomials.specs.Exponent.{plus}
use Rattle.polynomials.specs.Terms.{Terms, shift, times, combination}
use Rattle.polynomials.specs.Order.{Rank, IsMonomialOrder, compare}
use Rattle.polynomials.specs.Polynomial.{Below, Falls, IsPolynomial}
use Rattle.polynomials.proofs.Lead.{lead_of_first, times_lead}
use Rattle.polynomials.proofs.Monomials.{monomials_ordered, monomials_lcm}
use Rattle.polynomials.proofs.Order.{compare-plus, less_trans}
use Rattle.polynomials.proofs.Poly.{Poly, poly, poly-nil, poly-append, poly_same, Monomial, monomials, monomials_monoid, same_monomial, fitted, fit_long}
use Rattle.ideals.specs.Led.{Multiple, level}
use Rattle.ideals.specs.Sum.{Rep, Under, PairHolds, PairsHold}
use Rattle.ideals.proofs.Basis.{pair_of_spair}
use Rattle.ideals.proofs.Criteria.{pair_itself, pair_product}
use Rattle.ideals.proofs.Lead.{rep_same, rep_zero, rep_add, rep_value}
use Rattle.machines.specs.Basis.{AtPlaces, IsBasisOf}
use Rattle.machines.specs.Completion.{leads, s_polynomial}
use Rattle.machines.specs.Cut.{lead_of, lead_number}
use Rattle.machines.specs.Pairs.{coprime, multiple}
use Rattle.machines.proofs.Completed.{led_of_member, to_has}
use Rattle.machines.proofs.Elements.{IsElement, exponents-led, value-shift}
use Rattle.machines.proofs.Holding.{ledd, IsLedOf, in_at, at_in, Elements, led_in, Holds, holds_other, Treating, multiple_is, lcm_led}
use Rattle.machines.proofs.Monic.{lead_long}
use Rattle.machines.proofs.Places.{get_same, get_below}
use Rattle.machines.proofs.Treated.{treating_pair}
use Rattle.machines.proofs.Waiting.{coprime-lcm}
use Rattle.std.proofs.lemmas.Option.{get_or_from_slice_get}
use Rattle.corollaries.specs.Representation.{IsLeadBelow, AreBelow, IsLcmRepresentation}

module _ {A : Type 0} (K : Field A) (O : Rank) (o : IsMonomialOrder O) (m : ℕ) where
  abbrev R : CommRing A
  R = K.ring

  abbrev N : Arithmetic A
  N = operations K.ring

  abbrev F : FieldArithmetic A
  F = calculus K

  abbrev M : IsMonoid (monomials m)
  M = monomials_monoid m

  abbrev OO : Ordered (monomials m)
  OO = monomials_ordered m O o

  abbrev L : Lcm (monomials m)
  L = monomials_lcm m

  no_zero_divisors : HasNoZeroDivisors (operations K.ring)
  no_zero_divisors = record { product-ne-zero = product-ne-zero K }

  -- ---- terms below
  lead_first : (g : Terms A) → IsElement K O o m g → (t : List ℕ × A) × (slice_get g 0 ≡ Some t)
      × (t.0 ≡ lead_of g)
  unfolding lead_of
  lead_first [] i = absurd (i.nonzero refl)
  lead_first (t ∷ g) i = (t, refl, refl)

  rest_below : (e d c : List ℕ) (q : Terms A) → length d ≡ m → length c ≡ m
      → Each (λ t. length t.0 ≡ m) q → Below O d q → compare O (plus d c) e ≡ Less
      → Each (λ t. compare O (plus t.0 c) e ≡ Less) q
  unfolding Each
  rest_below e d c [] l k a b h = tt
  rest_below e d c (t ∷ q) l k a b h = (
    less_trans O o (plus t.0 c) (plus d c) e (compare-plus O o t.0 d c (a.0 ∙ sym k) (l ∙ sym k)
        ∙ b.0) h,
    rest_below e d c q l k a.1 b.1 h,
  )

  terms_below : (e : List ℕ) (q g : Terms A) → IsPolynomial N O m q → IsElement K O o m g
      → IsLeadBelow F O e (times N q g) → Each (λ t. compare O (plus t.0 (lead_of g)) e ≡ Less) q
  unfolding Each Falls
  terms_below e [] g hq i h = tt
  terms_below e (t ∷ q) g hq i h =
      let (u, at, is) = lead_first g i in
      let first : compare O (plus t.0 (lead_of g)) e ≡ Less =
      subst (λ c. compare O (plus t.0 c) e ≡ Less) is
      (h (plus t.0 u.0) (times_lead O o R m (t ∷ q) g t.0 u.0 hq.arity i.polynomial.arity
      (lead_of_first O o R m (t ∷ q) t hq refl) (lead_of_first O o R m g u i.polynomial at)
      no_zero_divisors)) in (
        first,
        rest_below e t.0 (lead_of g) q hq.arity.0 (lead_long K O o m g i) hq.arity.1
            hq.falls.0 first,
      )

  -- ---- a combination as a sum of multiples
  module _ (gs : List (Terms A)) (el : Elements K O o m gs) (l : List ℕ) (top : Monomial m)
      (top_is : top.exponents ≡ l) where
    abbrev B : Monomial m → Type 0
    B = Under M OO R top

    abbrev Sum : Poly m K.ring → Type 0
    Sum x = Rep M OO R (IsLedOf K O o m gs) B x

    part : (t : List ℕ × A) (g : Terms A) → IsLedOf K O o m gs (ledd K O o m g) → IsElement K O o m
        g → length t.0 ≡ m → compare O (plus t.0 (lead_of g)) l ≡ Less
        → Sum (poly m R (shift N t.0 t.1 g))
    part t g among i long h =
        let u : Multiple (Monomial m) A = record {
          by = fitted m t.0;
          scale = t.1;
          of = ledd K O o m g;
        } in
        let at : (level M OO R u).exponents ≡ plus t.0 (lead_of g) = ap₂ plus (fit_long m t.0 long)
        (exponents-led K O o m g i) in
        rep_same M OO R (IsLedOf K O o m gs) (led_in K O o m gs el) {B = B}
        (sym (value-shift K O o m t.0 t.1 g i.nonzero))
        (rep_value M OO R (IsLedOf K O o m gs) (led_in K O o m gs el) {B = B} u among
        (ap₂ (compare O) at top_is ∙ h))

    product_rep : (q g : Terms A) → IsLedOf K O o m gs (ledd K O o m g) → IsElement K O o m g
        → Each (λ t. length t.0 ≡ m) q → Each (λ t. compare O (plus t.0 (lead_of g)) l ≡ Less) q
        → Sum (poly m R (times N q g))
    unfolding Each Algebra.times
    product_rep [] g among i a h = rep_same M OO R (IsLedOf K O o m gs) (led_in K O o m gs el) {B =
        B} (poly-nil m R) (rep_zero M OO R (IsLedOf K O o m gs) (led_in K O o m gs el) B)
    product_rep (t ∷ q) g among i a h =
        rep_same M OO R (IsLedOf K O o m gs) (led_in K O o m gs el) {B = B}
        (poly-append m R (shift N t.0 t.1 g) (times N q g))
        (rep_add M OO R (IsLedOf K O o m gs) (led_in K O o m gs el) {B = B}
        (part t g among i a.0 h.0) (product_rep q g among i a.1 h.1))

    row_rep : (qs hs : List (Terms A)) → Each (IsPolynomial N O m) qs
        → Each (λ g. IsLedOf K O o m gs (ledd K O o m g) × IsElement K O o m g) hs
        → AreBelow F O l qs hs → Sum (poly m R (combination N qs hs))
    unfolding Each AreBelow combination
    row_rep [] hs a g b = rep_same M OO R (IsLedOf K O o m gs) (led_in K O o m gs el) {B = B}
        (poly-nil m R) (rep_zero M OO R (IsLedOf K O o m gs) (led_in K O o m gs el) B)
    row_rep (q ∷ qs) [] a g b = rep_same M OO R (IsLedOf K O o m gs) (led_in K O o m gs el) {B = B}
        (poly-nil m R) (rep_zero M OO R (IsLedOf K O o m gs) (led_in K O o m gs el) B)
    row_rep (q ∷ qs) (h ∷ hs) a g b =
        rep_same M OO R (IsLedOf K O o m gs) (led_in K O o m gs el) {B = B}
        (poly-append m R (times N q h) (combination N qs hs))
        (rep_add M OO R (IsLedOf K O o m gs) (led_in K O o m gs el) {B = B}
        (product_rep q h g.0.0 g.0.1 a.0.arity (terms_below l q h a.0 g.0.1 b.0))
        (row_rep qs hs a.1 g.1 b.1))

  -- ---- a pair
  module _ (gs : List (Terms A)) (el : Elements K O o m gs) where
    elements_among : (hs : List (Terms A)) → ((k : ℕ) (g : Terms A) → slice_get hs k ≡ Some g
        → IsLedOf K O o m gs (ledd K O o m g) × IsElement K O o m g)
        → Each (λ g. IsLedOf K O o m gs (ledd K O o m g) × IsElement K O o m g) hs
    unfolding Each
    elements_among [] h = tt
    elements_among (g ∷ hs) h = (h zero g refl, elements_among hs (λ k x at. h (suc k) x at))

    represented_holds : (i j : ℕ) (g h : Terms A) → slice_get gs i ≡ Some g → slice_get gs j ≡ Some
        h → (qs : List (Terms A)) → Each (IsPolynomial N O m) qs → IsLcmRepresentation F O gs (i, j)
        qs → Holds K O o m gs g h
    represented_holds i j g h ig jh qs a sums =
        let t : Treating K O o m gs (i, j) (s_polynomial F O gs (i, j)) = treating_pair K O o m gs
        (i, j) g h ig jh (el i g ig) (el j h jh) el in
        let left : t.left ≡ g = get_same gs i t.left g t.at_left ig in
        let right : t.right ≡ h = get_same gs j t.right h t.at_right jh in
        let top : Monomial m = L.lcm (ledd K O o m t.left).exponents
        (ledd K O o m t.right).exponents in
        let top_is : top.exponents ≡ multiple (leads gs) (i, j) =
        lcm_led K O o m t.left t.right (el i t.left t.at_left).element
        (el j t.right t.at_right).element ∙ sym (multiple_is K O o m gs (i, j) t.left t.right
        t.at_left t.at_right) in
        let rows = row_rep gs el (multiple (leads gs) (i, j)) top top_is qs gs a
        (elements_among gs (λ k x at. (in_at K O o m gs k x at, (el k x at).element))) sums.1 in
        let s = rep_same M OO R (IsLedOf K O o m gs) (led_in K O o m gs el) {B = Under M OO R top}
        (poly_same m R sums.0) rows in
        let whole = pair_of_spair M OO R (IsLedOf K O o m gs) (led_in K O o m gs el) L
        (ledd K O o m t.left) (ledd K O o m t.right)
        (rep_same M OO R (IsLedOf K O o m gs) (led_in K O o m gs el) {B = Under M OO R top} t.is
        (rep_add M OO R (IsLedOf K O o m gs) (led_in K O o m gs el) {B = Under M OO R top} t.rep s))
        in
        subst (λ x. Holds K O o m gs x h) left (subst (Holds K O o m gs t.left) right whole)

    -- so does one with coprime leads
    coprime_holds : (i j : ℕ) (g h : Terms A) → slice_get gs i ≡ Some g → slice_get gs j ≡ Some h
        → coprime (lead_of g) (lead_of h) ≡ true → Holds K O o m gs g h
    coprime_holds i j g h ig jh c =
        pair_product M OO R (IsLedOf K O o m gs) (led_in K O o m gs el) L (ledd K O o m g)
        (ledd K O o m h) (in_at K O o m gs i g ig) (in_at K O o m gs j h jh)
        (same_monomial m _ _ (lcm_led K O o m g h (el i g ig).element (el j h jh).element
        ∙ coprime-lcm (lead_of g) (lead_of h) (lead_long K O o m g (el i g ig).element
        ∙ sym (lead_long K O o m h (el j h jh).element)) c
        ∙ sym (ap₂ plus (exponents-led K O o m g (el i g ig).element)
        (exponents-led K O o m h (el j h jh).element))))

    abbrev AreRepresented : Type 0
    AreRepresented = (i j : ℕ) → i < j → j < length gs → coprime (lead_of (get_or gs i []))
        (lead_of (get_or gs j [])) ≡ false → (qs : List (Terms A)) × Each (IsPolynomial N O m)
        qs × IsLcmRepresentation F O gs (i, j) qs

    pair_holds : AreRepresented → (i j : ℕ) (g h : Terms A) → i < j → slice_get gs i ≡ Some g
        → slice_get gs j ≡ Some h → Holds K O o m gs g h
    pair_holds sums i j g h l ig jh = go (coprime (lead_of g) (lead_of h)) refl
      where
        go : (b : Bool) → coprime (lead_of g) (lead_of h) ≡ b → Holds K O o m gs g h
        go true c = coprime_holds i j g h ig jh c
        go false c =
            let (qs, a, t) = sums i j l (get_below gs j h jh)
            (ap₂ (λ x y. coprime (lead_of x) (lead_of y)) (get_or_from_slice_get gs i g [] ig)
            (get_or_from_slice_get gs j h [] jh) ∙ c) in
            represented_holds i j g h ig jh qs a t

    all_hold : AreRepresented → PairsHold M OO R (IsLedOf K O o m gs)
    all_hold sums x y ix iy =
        let (i, a) = at_in K O o m gs x ix in
        let (j, b) = at_in K O o m gs y iy in
        subst (λ z. PairHolds M OO R (IsLedOf K O o m gs) z y) (sym a.is)
        (subst (PairHolds M OO R (IsLedOf K O o m gs) (ledd K O o m a.from)) (sym b.is)
        (go i j a.from b.from a.at b.at (cases i j)))
      where
        cases : (i j : ℕ) → (i < j) ⊎ (i ≡ j) ⊎ (j < i)
        cases i j = grind arith

        go : (i j : ℕ) (g h : Terms A) → slice_get gs i ≡ Some g → slice_get gs j ≡ Some h
            → (i < j) ⊎ (i ≡ j) ⊎ (j < i) → Holds K O o m gs g h
        go i j g h ig jh (inl l) = pair_holds sums i j g h l ig jh
        go i j g h ig jh (inr (inl e)) =
            let same : g ≡ h = get_same gs j g h (ap (slice_get gs) (sym e) ∙ ig) jh in
            subst (Holds K O o m gs g) same (pair_itself M OO R (IsLedOf K O o m gs)
            (led_in K O o m gs el) (ledd K O o m g))
        go i j g h ig jh (inr (inr l)) = holds_other K O o m gs el h g (pair_holds sums j i h g l jh
            ig)

    pub represented_basis : AreRepresented → IsBasisOf F O m gs gs
    represented_basis sums = record {
      polynomials = λ k g at. (el k g at).element.polynomial;
      nonzero = λ k g at. (el k g at).element.nonzero;
      monic = λ k g at. (el k g at).one;
      same = λ p h. ((λ i. i), (λ i. i));
      led = λ t p h i. led_of_member K O o m gs el (all_hold sums) t p h (to_has K O o m gs (t ∷ p)
          i);
    }

  some_lead : (g : Terms A) → lead_number F g ≡ K.one → g ≢ []
  unfolding lead_number
  some_lead [] e z = K.one-ne-zero (sym e)
  some_lead (t ∷ g) e z = absurd (let q : ⊥ = cc in q)

  -- the pairs with coprime leads need no such sums
  pub but_coprime_represented : (gs : List (Terms A)) → AtPlaces (IsPolynomial N O m) gs
      → AtPlaces (λ g. lead_number F g ≡ K.one) gs
      → ((i j : ℕ) → i < j → j < length gs → coprime (lead_of (get_or gs i []))
      (lead_of (get_or gs j [])) ≡ false → (qs : List (Terms A)) × Each (IsPolynomial N O m)
      qs × IsLcmRepresentation F O gs (i, j) qs) → IsBasisOf F O m gs gs
  but_coprime_represented gs h one sums = represented_basis gs (λ k g at. record {
    element = record { polynomial = h k g at; nonzero = some_lead g (one k g at) };
    one = one k g at;
  }) sums

  pub all_represented : (gs : List (Terms A)) → AtPlaces (IsPolynomial N O m) gs
      → AtPlaces (λ g. lead_number F g ≡ K.one) gs
      → ((i j : ℕ) → i < j → j < length gs → (qs : List (Terms A)) × Each (IsPolynomial N O m)
      qs × IsLcmRepresentation F O gs (i, j) qs) → IsBasisOf F O m gs gs
  all_represented gs h one sums = but_coprime_represented gs h one (λ i j l k c. sums i j l k)
