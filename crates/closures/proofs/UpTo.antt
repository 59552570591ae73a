-- Invariants whose standard monomials have no combination that is one are the reduced basis up to a degree.
--   less_degree          a lesser monomial has no greater degree
--   each_negate          what holds of the monomials of terms
--   from_ideal           a member of the ideal of elements of an ideal is one
--   Normal               what differs from a polynomial by an element of the ideal, and has standard monomials alone
--   normal_list, normal_one     a polynomial below a monomial has one, where monomials have; each monomial has
--   reduced_up_to        so each element of the ideal, up to the degree, has a lead that some lead divides
use Rattle.std.proofs.Common.{◌≡◌, ◌⊎◌, inl, inr, ℕ, ◌≤◌, ◌<◌, Bool, true, false, List, [], ◌∷◌, ◌++◌, map, length, sum, refl, sym, ap, ap₂, subst, ◌∙◌, arith, reverse, Less, nat_cmp}
use Rattle.std.specs.Cmp.{nat_cmp_is}
use Rattle.std.specs.Cmp.Lexicographic.{slice_cmp}
use Rattle.std.specs.Ordering.{ordering_then}
use Rattle.algebra.specs.Each.{Each}
use Rattle.algebra.specs.In.{In}
use Rattle.algebra.specs.Ring.{CommRing}
use Rattle.algebra.proofs.Each.{each_weaker, each-append}
use Rattle.algebra.proofs.RingSolver.{ring, ring_rules}
use Rattle.algebra.specs.Fraction.{Fraction, ℚ}
use Rattle.algebra.proofs.Fractions.{ℚ_ring, ℚ_zero_test}
use Rattle.polynomials.specs.Algebra as Algebra
use Rattle.polynomials.specs.Exponent.{plus, over, exponents}
use Rattle.polynomials.specs.Terms.{Terms, Same, shift, negate, times}
use Rattle.polynomials.specs.Order.{grevlex, compare}
use Rattle.polynomials.specs.Polynomial.{Arity, IsPolynomial, Below, Falls}
use Rattle.polynomials.proofs.Algebra.{coefficient-nil}
use Rattle.polynomials.proofs.Arity.{arity-append, arity-negate, arity-shift}
use Rattle.polynomials.proofs.Canonical.{coefficient_head}
use Rattle.polynomials.proofs.Lead.{below-shift}
use Rattle.polynomials.proofs.Monomials.{length-over}
use Rattle.polynomials.proofs.Order.{less_trans, less_asymm, order_induction}
use Rattle.polynomials.proofs.Orders.{grevlex_order, compare_grevlex}
use Rattle.polynomials.proofs.Poly.{Poly, poly, poly_ring, poly-nil, poly-append, poly-negate}
use Rattle.ideals.specs.Ideal.{InIdeal}
use Rattle.ideals.proofs.Ideal.{in_ideal_same, in_ideal_add, in_ideal_neg, in_ideal_head, in_ideal_tail, in_ideal_zero}
use Rattle.ideals.proofs.Members.{member_out}
use Rattle.machines.specs.Cut.{lead_of, lead_number, divides}
use Rattle.machines.proofs.Elements.{over-plus}
use Rattle.closures.specs.Closure.{IsIdeal}
use Rattle.closures.specs.UpTo.{AreTidy, IsReducedUpTo, HasStandard, HasNoCombination}
use Rattle.closures.proofs.Ideals.{members_in}

-- a lesser monomial has no greater degree
pub less_degree : (d e : List ℕ) → length d ≡ length e → compare grevlex d e ≡ Less
    → sum d ≤ sum e
less_degree d e l h = go bound
  where
    bound : (sum e < sum d) ⊎ (sum d ≤ sum e)
    bound = grind arith

    go : (sum e < sum d) ⊎ (sum d ≤ sum e) → sum d ≤ sum e
    go (inl lt) =
        absurd (less_asymm grevlex grevlex_order d e h
        (compare_grevlex e d (sym l)
        ∙ ap (λ o. ordering_then o (slice_cmp nat_cmp (reverse d) (reverse e)))
        (sym (nat_cmp_is (sum e) (sum d) Less lt))))
    go (inr le) = le

pub each_negate : (Q : List ℕ → Type 0) (p : Terms Fraction) → Each (λ t. Q t.0) p
    → Each (λ t. Q t.0) (negate ℚ p)
unfolding Each Algebra.negate
each_negate Q [] h = tt
each_negate Q (t ∷ p) h = (h.0, each_negate Q p h.1)

pub find_lead : (gs : List (Terms Fraction)) (e : List ℕ)
    → ((g : Terms Fraction) × In g gs × (divides (lead_of g) e ≡ true))
    ⊎ ((g : Terms Fraction) → In g gs → divides (lead_of g) e ≡ false)
find_lead [] e = inr (λ g i. absurd i)
find_lead (h ∷ gs) e = go (divides (lead_of h) e) refl (find_lead gs e)
  where
    go : (b : Bool) → divides (lead_of h) e ≡ b
        → ((g : Terms Fraction) × In g gs × (divides (lead_of g) e ≡ true))
        ⊎ ((g : Terms Fraction) → In g gs → divides (lead_of g) e ≡ false)
        → ((g : Terms Fraction) × In g (h ∷ gs) × (divides (lead_of g) e ≡ true))
        ⊎ ((g : Terms Fraction) → In g (h ∷ gs) → divides (lead_of g) e ≡ false)
    go true is later = inl (h, inl refl, is)
    go false is (inl (g, i, d)) = inl (g, inr i, d)
    go false is (inr none) = inr (λ g i. one g i)
      where
        one : (g : Terms Fraction) → In g (h ∷ gs) → divides (lead_of g) e ≡ false
        one g (inl s) = ap (λ x. divides (lead_of x) e) s ∙ is
        one g (inr j) = none g j

module _ (m : ℕ) (I : Terms Fraction → Type 0) (ideal : IsIdeal m I) where
  abbrev T : CommRing (Poly m ℚ_ring)
  T = poly_ring m ℚ_ring

  abbrev of : Terms Fraction → Poly m ℚ_ring
  of p = poly m ℚ_ring p

  pub from_ideal : (hs : List (Terms Fraction)) → Each I hs → (r : Terms Fraction) → Arity m r
      → InIdeal T (map of hs) (of r) → I r
  from_ideal hs h r a i =
      members_in m I ideal hs r h a
      (member_out m ℚ_ring ℚ_zero_test hs r (each_weaker I (Arity m) ideal.arity hs h) a i)

  abbrev UpTo : List ℕ → List ℕ → Type 0
  UpTo e d = (compare grevlex d e ≡ Less) ⊎ (d ≡ e)

  module _ (d : ℕ) (gs : List (Terms Fraction)) (members : (g : Terms Fraction) → In g gs → I g)
      (tidy : AreTidy m d gs) (es : List (List ℕ)) (all : HasStandard m d gs es) where
    record Normal (p : Terms Fraction) (Q : List ℕ → Type 0) : Type 0 where
      normal : Terms Fraction
      arity : Arity m normal
      standard : Each (λ t. In t.0 es) normal
      within : Each (λ t. Q t.0) normal
      differs : I (p ++ negate ℚ normal)

    difference : (p n : Terms Fraction) → of (p ++ negate ℚ n) ≡ T.add (of p) (T.neg (of n))
    difference p n =
        poly-append m ℚ_ring p (negate ℚ n) ∙ ap (T.add (of p)) (poly-negate m ℚ_ring n)

    normal_list : (e : List ℕ) → length e ≡ m
        → ((t : List ℕ × Fraction) → length t.0 ≡ m → compare grevlex t.0 e ≡ Less
        → Normal (t ∷ []) (UpTo t.0))
        → (p : Terms Fraction) → Arity m p → Below grevlex e p
        → Normal p (λ d. compare grevlex d e ≡ Less)
    unfolding Each
    normal_list e l one [] a b = record {
      normal = [];
      arity = tt;
      standard = tt;
      within = tt;
      differs = from_ideal [] tt ([] ++ negate ℚ []) (arity-negate m ℚ [] tt)
          (in_ideal_same T (difference [] [] ∙ ap (λ x. T.add x (T.neg x)) (poly-nil m ℚ_ring)
          ∙ T.add-neg T.zero) (in_ideal_zero T));
    }
    normal_list e l one (t ∷ p) a b = joined (one t a.0 b.0) (normal_list e l one p a.1 b.1)
      where
        low : (u : List ℕ) → UpTo t.0 u → compare grevlex u e ≡ Less
        low u (inl k) = less_trans grevlex grevlex_order u t.0 e k b.0
        low u (inr k) = subst (λ v. compare grevlex v e ≡ Less) (sym k) b.0

        split : (x y z w : Poly m ℚ_ring) → T.add (T.add x y) (T.neg (T.add z w))
            ≡ T.add (T.add x (T.neg z)) (T.add y (T.neg w))
        split x y z w = ring T (x ∷ y ∷ z ∷ w ∷ []) (search ring_rules depth 40) refl

        joined : Normal (t ∷ []) (UpTo t.0) → Normal p (λ d. compare grevlex d e ≡ Less)
            → Normal (t ∷ p) (λ d. compare grevlex d e ≡ Less)
        joined x y =
            let n = x.normal ++ y.normal in
            let na = arity-append m x.normal y.normal x.arity y.arity in
            record {
              normal = n;
              arity = na;
              standard = each-append (λ t. In t.0 es) x.normal y.normal x.standard y.standard;
              within =
                  each-append (λ t. compare grevlex t.0 e ≡ Less) x.normal y.normal
                  (each_weaker (λ u. UpTo t.0 u.0) (λ u. compare grevlex u.0 e ≡ Less)
                  (λ u k. low u.0 k) x.normal x.within) y.within;
              differs =
                  from_ideal (((t ∷ []) ++ negate ℚ x.normal) ∷ (p ++ negate ℚ y.normal) ∷ [])
                  (x.differs, (y.differs, tt)) ((t ∷ p) ++ negate ℚ n)
                  (arity-append m (t ∷ p) (negate ℚ n) a (arity-negate m ℚ n na))
                  (in_ideal_same T (difference (t ∷ p) n
                  ∙ ap₂ (λ u v. T.add u (T.neg v)) (poly-append m ℚ_ring (t ∷ []) p)
                  (poly-append m ℚ_ring x.normal y.normal)
                  ∙ split (of (t ∷ [])) (of p) (of x.normal) (of y.normal)
                  ∙ sym (ap₂ T.add (difference (t ∷ []) x.normal) (difference p y.normal)))
                  (in_ideal_add T (in_ideal_head T) (in_ideal_tail T (in_ideal_head T))));
            }

    -- a monomial that no lead divides
    normal_itself : (e : List ℕ) (c : Fraction) → length e ≡ m → sum e ≤ d
        → ((g : Terms Fraction) → In g gs → divides (lead_of g) e ≡ false)
        → Normal ((e, c) ∷ []) (UpTo e)
    unfolding Each
    normal_itself e c l s none =
        let p : Terms Fraction = (e, c) ∷ [] in
        record {
          normal = p;
          arity = (l, tt);
          standard = (all.covers e l s none, tt);
          within = (inr refl, tt);
          differs =
              from_ideal [] tt (p ++ negate ℚ p)
              (arity-append m p (negate ℚ p) (l, tt) (arity-negate m ℚ p (l, tt)))
              (in_ideal_same T (difference p p ∙ T.add-neg (of p)) (in_ideal_zero T));
        }

    -- one that the lead of u ∷ g divides
    module _ (e : List ℕ) (c : Fraction) (l : length e ≡ m) (u : List ℕ × Fraction)
        (g : Terms Fraction) (i : In (u ∷ g) gs) (div : divides u.0 e ≡ true) (one : u.1 ≡ ℚ.one)
      where
        abbrev q : List ℕ
        q = over e u.0

        abbrev is_g : IsPolynomial ℚ grevlex m (u ∷ g)
        is_g = tidy.polynomials (u ∷ g) i

        lu : length u.0 ≡ m
        unfolding Each
        lu = is_g.arity.0

        lq : length q ≡ m
        lq = length-over e u.0 (l ∙ sym lu) ∙ l

        at_e : plus q u.0 ≡ e
        at_e = over-plus u.0 e (lu ∙ sym l) div

        ga : Arity m g
        unfolding Each
        ga = is_g.arity.1

        below_g : Below grevlex u.0 g
        unfolding Falls
        below_g = is_g.falls.0

        abbrev s : Terms Fraction
        s = shift ℚ q c g

        abbrev w : Terms Fraction
        w = negate ℚ s

        sa : Arity m s
        sa = arity-shift m ℚ q c g lq ga

        wa : Arity m w
        wa = arity-negate m ℚ s sa

        w_below : Below grevlex e w
        w_below =
            each_negate (λ d. compare grevlex d e ≡ Less) s
            (subst (λ x. Below grevlex x s) at_e
            (below-shift grevlex grevlex_order ℚ m q u.0 c g lq lu ga below_g))

        whole : shift ℚ q c (u ∷ g) ≡ (e, c) ∷ s
        unfolding Algebra.shift
        whole =
            ap₂ (λ (x : List ℕ) (y : Fraction). (x, y) ∷ s) at_e
            (ap (ℚ.mul c) one ∙ ℚ_ring.mul-one c)

        whole_in : I ((e, c) ∷ s)
        unfolding Each Algebra.times
        whole_in =
            from_ideal (times ℚ ((q, c) ∷ []) (u ∷ g) ∷ [])
            (ideal.multiple ((q, c) ∷ []) (u ∷ g) (lq, tt) (members (u ∷ g) i), tt) ((e, c) ∷ s)
            (l, sa)
            (in_ideal_same T (sym (product ∙ ap of whole)) (in_ideal_head T))
          where
            product : of (times ℚ ((q, c) ∷ []) (u ∷ g)) ≡ of (shift ℚ q c (u ∷ g))
            product = once (shift ℚ q c (u ∷ g))
              where
                once : (p : Terms Fraction) → of (p ++ []) ≡ of p
                once p = poly-append m ℚ_ring p [] ∙ ap (T.add (of p)) (poly-nil m ℚ_ring)
                    ∙ T.add-zero (of p)

        normal_cut : Normal w (λ d. compare grevlex d e ≡ Less) → Normal ((e, c) ∷ []) (UpTo e)
        unfolding Each
        normal_cut n =
            let p : Terms Fraction = (e, c) ∷ [] in
            record {
              normal = n.normal;
              arity = n.arity;
              standard = n.standard;
              within =
                  each_weaker (λ t. compare grevlex t.0 e ≡ Less) (λ t. UpTo e t.0) (λ t k. inl k)
                  n.normal n.within;
              differs =
                  from_ideal (((e, c) ∷ s) ∷ (w ++ negate ℚ n.normal) ∷ [])
                  (whole_in, (n.differs, tt)) (p ++ negate ℚ n.normal)
                  (arity-append m p (negate ℚ n.normal) (l, tt)
                  (arity-negate m ℚ n.normal n.arity))
                  (in_ideal_same T (difference p n.normal ∙ split (of p) (of s) (of n.normal)
                  ∙ sym (ap₂ T.add (poly-append m ℚ_ring p s) (difference w n.normal
                  ∙ ap (λ x. T.add x (T.neg (of n.normal))) (poly-negate m ℚ_ring s))))
                  (in_ideal_add T (in_ideal_head T) (in_ideal_tail T (in_ideal_head T))));
            }
          where
            split : (a b x : Poly m ℚ_ring) → T.add a (T.neg x)
                ≡ T.add (T.add a b) (T.add (T.neg b) (T.neg x))
            split a b x = ring T (a ∷ b ∷ x ∷ []) (search ring_rules depth 40) refl

    abbrev HasNormal : List ℕ → Type 0
    HasNormal e = sum e ≤ d → (c : Fraction) → Normal ((e, c) ∷ []) (UpTo e)

    lesser : (e : List ℕ) → length e ≡ m → sum e ≤ d
        → ((f : List ℕ) → length f ≡ m → compare grevlex f e ≡ Less → HasNormal f)
        → (t : List ℕ × Fraction) → length t.0 ≡ m → compare grevlex t.0 e ≡ Less
        → Normal (t ∷ []) (UpTo t.0)
    lesser e l s below t k h =
        below t.0 k h (let r = less_degree t.0 e (k ∙ sym l) h in omega (arith, r, s)) t.1

    divided_case : (e : List ℕ) → length e ≡ m → sum e ≤ d → (c : Fraction)
        → ((f : List ℕ) → length f ≡ m → compare grevlex f e ≡ Less → HasNormal f)
        → (g : Terms Fraction) → In g gs → divides (lead_of g) e ≡ true
        → Normal ((e, c) ∷ []) (UpTo e)
    unfolding lead_of lead_number
    divided_case e l s c below [] i div = absurd (tidy.nonzero [] i refl)
    divided_case e l s c below (u ∷ g) i div =
        let one : u.1 ≡ ℚ.one = tidy.monic (u ∷ g) i in
        normal_cut e c l u g i div one
        (normal_list e l (lesser e l s below) (w e c l u g i div one) (wa e c l u g i div one)
        (w_below e c l u g i div one))

    normal_one : (e : List ℕ) → length e ≡ m → HasNormal e
    normal_one e l =
        order_induction grevlex grevlex_order m HasNormal (λ e l below s c. go e l below s c) e l
      where
        go : (e : List ℕ) → length e ≡ m
            → ((f : List ℕ) → length f ≡ m → compare grevlex f e ≡ Less → HasNormal f)
            → HasNormal e
        go e l below s c = elim (find_lead gs e) [
          | inl (g, i, div) ↦ divided_case e l s c below g i div
          | inr none ↦ normal_itself e c l s none
        ]

    module _ (independent : HasNoCombination m es I) where
      undivided : (t : List ℕ × Fraction) (p : Terms Fraction)
          → IsPolynomial ℚ grevlex m (t ∷ p) → sum t.0 ≤ d → I (t ∷ p)
          → ((g : Terms Fraction) → In g gs → divides (lead_of g) t.0 ≡ false) → ⊥
      unfolding Each Falls
      undivided t p h low i none =
          let l : length t.0 ≡ m = h.arity.0 in
          let n = normal_list t.0 l (lesser t.0 l low (λ f k less. normal_one f k)) p h.arity.1
          h.falls.0 in
          let zero : Same ℚ (t ∷ n.normal) [] =
          independent.none (t ∷ n.normal) (l, n.arity)
          (all.covers t.0 l low none, n.standard)
          (from_ideal ((t ∷ p) ∷ (p ++ negate ℚ n.normal) ∷ []) (i, (n.differs, tt))
          (t ∷ n.normal) (l, n.arity)
          (in_ideal_same T (poly-append m ℚ_ring (t ∷ []) n.normal
          ∙ split (of (t ∷ [])) (of p) (of n.normal)
          ∙ sym (ap₂ (λ x y. T.add x (T.neg y)) (poly-append m ℚ_ring (t ∷ []) p)
          (difference p n.normal)))
          (in_ideal_add T (in_ideal_head T) (in_ideal_neg T (in_ideal_tail T (in_ideal_head T))))))
          in
          h.nonzero.0 (sym (coefficient_head grevlex grevlex_order ℚ_ring t n.normal n.within)
          ∙ zero.at t.0 ∙ coefficient-nil exponents ℚ_ring t.0)
        where
          split : (a b x : Poly m ℚ_ring) → T.add a x
              ≡ T.add (T.add a b) (T.neg (T.add b (T.neg x)))
          split a b x = ring T (a ∷ b ∷ x ∷ []) (search ring_rules depth 40) refl

      pub reduced_up_to : IsReducedUpTo m d gs I
      reduced_up_to = record {
        tidy = tidy;
        members = members;
        led = λ t p h s i. elim (find_lead gs t.0) [
          | inl found ↦ found
          | inr none ↦ absurd (undivided t p h s i none)
        ];
      }
