-- Rows that are 0 on what is provable, and lists of what they are 0 on.
--   rest_zero                    a row of rests is 0 on what a transition makes a member
--   state_sound, rest_sound      so those of states that are reached, and of rests by a transition
--   scaled c q                   c times q;  scaled_each, coefficient-scaled, constant_times: its terms, coefficients, and as a product
--   rows_greatest                where such lists are inductive, they are the reduced lists of what is provable
--   states_complete              where the rows are those of states alone, they are those of all invariants
use Rattle.std.proofs.Common.{◌≡◌, ℕ, ◌+◌, ◌<◌, ◌≤◌, Bool, true, false, cond, List, [], ◌∷◌, ◌++◌, map, replicate, length, sum, refl, sym, ap, ap₂, subst, ◌∙◌, true≢false}
use Rattle.std.proofs.lemmas.List.{append-nil}
use Rattle.algebra.specs.Each.{Each}
use Rattle.algebra.specs.In.{In}
use Rattle.algebra.specs.Ring.{CommRing}
use Rattle.algebra.specs.Sum.{sum_over}
use Rattle.algebra.proofs.Each.{each-append, each-map, each_weaker}
use Rattle.algebra.proofs.In.{each_in}
use Rattle.algebra.proofs.RingLaws.{mul-zero, zero-add, one-mul}
use Rattle.algebra.proofs.RingSolver.{ring, ring_rules}
use Rattle.algebra.specs.Fraction.{Fraction, ℚ, rationals}
use Rattle.algebra.proofs.Fractions.{ℚ_ring, ℚ_field, ℚ_zero_test}
use Rattle.polynomials.specs.Algebra as Algebra
use Rattle.polynomials.specs.Exponent.{exponents, same, plus}
use Rattle.polynomials.specs.Order.{grevlex}
use Rattle.polynomials.specs.Terms.{Terms, constant, coefficient, evaluate, lists, monomial_at, negate, shift, times}
use Rattle.polynomials.specs.Polynomial.{Arity, AllArity, IsPolynomial}
use Rattle.polynomials.proofs.Algebra.{coefficient-nil, coefficient-append}
use Rattle.polynomials.proofs.Arity.{arity-append, arity-negate}
use Rattle.polynomials.proofs.Composition.{compose-append}
use Rattle.polynomials.proofs.Orders.{grevlex_order}
use Rattle.polynomials.proofs.Poly.{Poly, poly, poly_ring, poly-nil, poly-append, poly-times, poly-constant, poly_constant}
use Rattle.polynomials.proofs.Same.{Same-sym}
use Rattle.ideals.specs.Ideal.{InIdeal}
use Rattle.ideals.specs.Members.{IsMember}
use Rattle.ideals.proofs.Ideal.{in_ideal_same, in_ideal_add, in_ideal_mul, in_ideal_neg, in_ideal_zero}
use Rattle.ideals.proofs.Members.{member_in, member_out}
use Rattle.ideals.proofs.FractionMembers.{member_same}
use Rattle.machines.specs.Basis.{IsBasisOf}
use Rattle.machines.specs.Collect.{collect}
use Rattle.machines.specs.Cut.{lead_of, divides}
use Rattle.machines.proofs.Collecting.{collect-polynomial, collect-same}
use Rattle.machines.proofs.Places.{at_each, in_slice}
use Rattle.closures.specs.UpTo.{IsReducedUpTo}
use Rattle.closures.proofs.SameUpTo.{all_low, lead_among}
use Rattle.flows.specs.Graph.{Transition, Graph, IsGraph, Reached, Inv}
use Rattle.flows.specs.Family.{Family, after, generators, IsAtMost, IsInductive, HasDegree, IsProvable}
use Rattle.flows.specs.Rows.{Row, on, IsZeroOn, state_row, IsSoundRow, IsRest}
use Rattle.flows.proofs.Members as own
use Rattle.flows.proofs.Members.{poly-less}
use Rattle.flows.proofs.Sound.{transition_is}
use Rattle.flows.proofs.Families.{after_arity, provable_sound}
use Rattle.flows.proofs.Greatest.{reduced_low, kept_above}
use Rattle.flows.proofs.Parts.{zeros_front}

module _ (G : Graph) (d v : ℕ) where
  pub state_zero : (s : List Fraction) → Reached G v s → (p : Terms Fraction) → Inv G v p
      → on (state_row s) p ≡ ℚ.zero
  unfolding on evaluate
  state_zero s r p i = i.zero s r

  pub state_sound : IsGraph G → v < G.nodes → (s : List Fraction) → Reached G v s
      → IsSoundRow G d v (state_row s)
  state_sound is l s r = record {
    zero = λ p low h. state_zero s r p (provable_sound G is d v l p h);
  }

  pub states_complete : (gs : List (Terms Fraction)) → Each (Inv G v) gs
      → (ss : List (List Fraction)) → Each (Reached G v) ss
      → IsReducedUpTo G.variables d gs (IsZeroOn (map state_row ss))
      → IsReducedUpTo G.variables d gs (Inv G v)
  states_complete gs inv ss h r = record {
    tidy = r.tidy;
    members = λ g i. each_in (Inv G v) gs g inv i;
    led = λ t p q low i. r.led t p q low
        (each-map (λ x. on x (t ∷ p) ≡ ℚ.zero) state_row ss
        (each_weaker (Reached G v) (λ s. on (state_row s) (t ∷ p) ≡ ℚ.zero)
        (λ s k. state_zero s k (t ∷ p) i) ss h));
  }

module _ (G : Graph) (is : IsGraph G) (d : ℕ) (rows : ℕ → List Row)
    (sounds : (v : ℕ) → v < G.nodes → Each (IsSoundRow G d v) (rows v)) (B : Family)
    (b : IsInductive G B)
    (r : (v : ℕ) → v < G.nodes → IsReducedUpTo G.variables d (B v) (IsZeroOn (rows v))) where
  pub rows_greatest : (v : ℕ) → v < G.nodes
      → IsReducedUpTo G.variables d (B v) (IsProvable G d v)
  unfolding lead_of
  rows_greatest v l = record {
    tidy = (r v l).tidy;
    members = λ g i. record {
      arity = ((r v l).tidy.polynomials g i).arity;
      family = B;
      inductive = b;
      degree = record {
        at_most = λ w k. reduced_low G.variables d (B w) (IsZeroOn (rows w)) (r w k);
      };
      member = own.member_in G.variables (B v) g (b.arities v l) i;
    };
    led = λ t p q low i. (r v l).led t p q low
        (each_weaker (IsSoundRow G d v) (λ x. on x (t ∷ p) ≡ ℚ.zero)
        (λ x k. k.zero (t ∷ p) (all_low G.variables d (t ∷ p) q low) i) (rows v) (sounds v l));
  }

-- ---- rests
abbrev pub scaled : Fraction → Terms Fraction → Terms Fraction
scaled c q = shift ℚ [] c q

shift_zeros : (m : ℕ) (c : Fraction) (q : Terms Fraction) → Arity m q
    → shift ℚ (replicate m 0) c q ≡ scaled c q
unfolding Each Algebra.shift plus
shift_zeros m c [] a = refl
shift_zeros m c (t ∷ q) a =
    ap₂ (λ (x : List ℕ) (y : Terms Fraction). (x, ℚ.mul c t.1) ∷ y) (zeros_front t.0 m a.0)
    (shift_zeros m c q a.1)

pub constant_times : (m : ℕ) (c : Fraction) (q : Terms Fraction) → Arity m q
    → times ℚ (constant m c) q ≡ scaled c q ++ []
unfolding Algebra.times constant
constant_times m c q a = ap (λ x. x ++ []) (shift_zeros m c q a)

pub scaled_each : (P : List ℕ → Type 0) (c : Fraction) (q : Terms Fraction) → Each (λ t. P t.0) q
    → Each (λ t. P t.0) (scaled c q)
unfolding Each Algebra.shift plus
scaled_each P c [] h = tt
scaled_each P c (t ∷ q) h = (h.0, scaled_each P c q h.1)

pub coefficient-scaled : (c : Fraction) (q : Terms Fraction) (e : List ℕ)
    → coefficient ℚ (scaled c q) e ≡ ℚ.mul c (coefficient ℚ q e)
unfolding Algebra.coefficient Algebra.shift plus sum_over
coefficient-scaled c [] e = sym (mul-zero ℚ_ring c)
coefficient-scaled c (t ∷ q) e = go (same e t.0) (coefficient-scaled c q e)
  where
    go : (o : Bool) → coefficient ℚ (scaled c q) e ≡ ℚ.mul c (coefficient ℚ q e)
        → ℚ.add (cond o (ℚ.mul c t.1) ℚ.zero) (coefficient ℚ (scaled c q) e)
        ≡ ℚ.mul c (ℚ.add (cond o t.1 ℚ.zero) (coefficient ℚ q e))
    go true ih = ap (ℚ.add (ℚ.mul c t.1)) ih ∙ sym (ℚ_ring.mul-add c t.1 (coefficient ℚ q e))
    go false ih = zero-add ℚ_ring _ ∙ ih ∙ ap (ℚ.mul c) (sym (zero-add ℚ_ring (coefficient ℚ q e)))

module _ (G : Graph) (is : IsGraph G) (d : ℕ) (t : Transition) (i : In t G.transitions)
    (gs hs : List (Terms Fraction)) (ha : AllArity (t.unknowns + G.variables) hs)
    (basis : IsBasisOf rationals grevlex (t.unknowns + G.variables) gs hs)
    (rest : List ℕ → Terms Fraction)
    (are : (e : List ℕ) → length e ≡ G.variables → sum e ≤ d
    → IsRest gs (t.unknowns + G.variables) (after G.variables t ((e, ℚ.one) ∷ [])) (rest e))
  where
    abbrev n : ℕ
    n = G.variables

    abbrev m : ℕ
    m = t.unknowns + G.variables

    abbrev K : CommRing (Poly m ℚ_ring)
    K = poly_ring m ℚ_ring

    abbrev of : Terms Fraction → Poly m ℚ_ring
    of p = poly m ℚ_ring p

    unfoldable rests : Terms Fraction → Terms Fraction
    rests [] = []
    rests (u ∷ p) = scaled u.1 (rest u.0) ++ rests p

    gs_arity : AllArity m gs
    gs_arity = at_each (Arity m) gs (λ k g at. (basis.polynomials k g at).arity)

    abbrev number : Fraction → Poly m ℚ_ring
    number c = (poly_constant m ℚ_ring).to c

    of_times : (c : Fraction) (q : Terms Fraction) → of (times ℚ (constant m c) q)
        ≡ K.mul (number c) (of q)
    of_times c q = poly-times m ℚ_ring (constant m c) q
        ∙ ap (λ x. K.mul x (of q)) (poly-constant m ℚ_ring m c)

    of_scaled : (c : Fraction) (q : Terms Fraction) → Arity m q → of (scaled c q)
        ≡ K.mul (number c) (of q)
    of_scaled c q a =
        ap of (sym (append-nil (scaled c q)) ∙ sym (constant_times m c q a)) ∙ of_times c q

    -- what t makes of a term
    of_term : (u : List ℕ × Fraction) → of (after n t (u ∷ []))
        ≡ K.mul (number u.1) (of (after n t ((u.0, ℚ.one) ∷ [])))
    unfolding evaluate sum_over
    of_term u =
        let mono = monomial_at (lists ℚ m) t.images u.0 in
        one u.1 mono
        ∙ ap (K.mul (number u.1)) (sym (one ℚ.one mono
        ∙ ap (λ x. K.mul x (of mono)) (poly_constant m ℚ_ring).to-one ∙ one-mul K (of mono)))
      where
        one : (c : Fraction) (q : Terms Fraction) → of (times ℚ (constant m c) q ++ [])
            ≡ K.mul (number c) (of q)
        one c q = ap of (append-nil (times ℚ (constant m c) q)) ∙ of_times c q

    of_after : (u : List ℕ × Fraction) (p : Terms Fraction) → of (after n t (u ∷ p))
        ≡ K.add (K.mul (number u.1) (of (after n t ((u.0, ℚ.one) ∷ [])))) (of (after n t p))
    of_after u p =
        ap of (compose-append ℚ m (u ∷ []) p t.images)
        ∙ poly-append m ℚ_ring (after n t (u ∷ [])) (after n t p)
        ∙ ap (λ x. K.add x (of (after n t p))) (of_term u)

    rests_arity : (p : Terms Fraction) → Arity n p → IsAtMost d p → Arity m (rests p)
    unfolding Each rests
    rests_arity [] a low = tt
    rests_arity (u ∷ p) a low =
        arity-append m (scaled u.1 (rest u.0)) (rests p)
        (scaled_each (λ e. length e ≡ m) u.1 (rest u.0) (are u.0 a.0 low.0).arity)
        (rests_arity p a.1 low.1)

    rests_standard : (p : Terms Fraction) → Arity n p → IsAtMost d p
        → Each (λ t. Each (λ g. divides (lead_of g) t.0 ≡ false) gs) (rests p)
    unfolding Each rests
    rests_standard [] a low = tt
    rests_standard (u ∷ p) a low =
        each-append (λ t. Each (λ g. divides (lead_of g) t.0 ≡ false) gs)
        (scaled u.1 (rest u.0)) (rests p)
        (scaled_each (λ e. Each (λ g. divides (lead_of g) e ≡ false) gs) u.1 (rest u.0)
        (are u.0 a.0 low.0).standard) (rests_standard p a.1 low.1)

    rests_differ : (p : Terms Fraction) → Arity n p → IsAtMost d p
        → InIdeal K (map of gs) (K.add (of (after n t p)) (K.neg (of (rests p))))
    unfolding Each rests evaluate sum_over
    rests_differ [] a low =
        in_ideal_same K (ap (λ x. K.add x (K.neg x)) (poly-nil m ℚ_ring) ∙ K.add-neg K.zero)
        (in_ideal_zero K)
    rests_differ (u ∷ p) a low =
        let k = are u.0 a.0 low.0 in
        in_ideal_same K (ap₂ (λ x y. K.add x (K.neg y)) (of_after u p)
        (poly-append m ℚ_ring (scaled u.1 (rest u.0)) (rests p)
        ∙ ap (λ x. K.add x (of (rests p))) (of_scaled u.1 (rest u.0) k.arity))
        ∙ apart K (number u.1) (of (after n t ((u.0, ℚ.one) ∷ []))) (of (rest u.0))
        (of (after n t p)) (of (rests p)))
        (in_ideal_add K (in_ideal_mul K (number u.1)
        (in_ideal_same K (sym (poly-less m (after n t ((u.0, ℚ.one) ∷ [])) (rest u.0)))
        (member_in m ℚ_ring gs _ k.differs))) (rests_differ p a.1 low.1))
      where
        apart : {A : Type 0} (R : CommRing A) (c x y z w : A)
            → R.add (R.add (R.mul c x) z) (R.neg (R.add (R.mul c y) w))
            ≡ R.add (R.mul c (R.add x (R.neg y))) (R.add z (R.neg w))
        apart R c x y z w = ring R (c ∷ x ∷ y ∷ z ∷ w ∷ []) (search ring_rules depth 40) refl

    coefficient-rests : (r : List ℕ) (p : Terms Fraction) → coefficient ℚ (rests p) r
        ≡ on (λ e. coefficient ℚ (rest e) r) p
    unfolding rests on sum_over
    coefficient-rests r [] = coefficient-nil exponents ℚ_ring r
    coefficient-rests r (u ∷ p) =
        coefficient-append exponents ℚ_ring (scaled u.1 (rest u.0)) (rests p) r
        ∙ ap₂ ℚ.add (coefficient-scaled u.1 (rest u.0) r) (coefficient-rests r p)

    -- a member with standard terms alone is 0
    standard_zero : (q r : Terms Fraction) → Arity m q
        → Each (λ t. Each (λ g. divides (lead_of g) t.0 ≡ false) gs) q
        → IsMember ℚ m hs q → collect rationals grevlex q ≡ r
        → IsPolynomial ℚ grevlex m r → r ≡ []
    standard_zero q [] a st h e k = refl
    standard_zero q (u ∷ r) a st h e k =
        let found =
        basis.led u r k (subst (IsMember ℚ m hs) e
        (member_same m hs q (collect rationals grevlex q)
        (collect-same ℚ_field grevlex grevlex_order q) h)) in
        let none = lead_among (λ x. Each (λ g. divides (lead_of g) x ≡ false) gs) q r u m st e k in
        absurd (true≢false (sym found.divided
        ∙ each_in (λ g. divides (lead_of g) u.0 ≡ false) gs found.element none
        (in_slice gs found.place found.element found.at)))

    to_generators : (q : Terms Fraction) → Arity m q → IsMember ℚ m gs q
        → IsMember ℚ m hs q
    to_generators q a h =
        let k = collect-polynomial ℚ_field grevlex grevlex_order m q a in
        let e = collect-same ℚ_field grevlex grevlex_order q in
        member_same m hs (collect rationals grevlex q) q (Same-sym ℚ e)
        ((basis.same (collect rationals grevlex q) k).0
        (member_same m gs q (collect rationals grevlex q) e h))

    back : {A : Type 0} (R : CommRing A) (x y : A) → y
        ≡ R.add x (R.neg (R.add x (R.neg y)))
    back R x y = ring R (x ∷ y ∷ []) (search ring_rules depth 40) refl

    pub rest_zero : (r : List ℕ) (p : Terms Fraction) → Arity n p → IsAtMost d p
        → IsMember ℚ m hs (after n t p) → on (λ e. coefficient ℚ (rest e) r) p ≡ ℚ.zero
    rest_zero r p a low goes =
        let qa = rests_arity p a low in
        let pa = after_arity G is t i p in
        let la = arity-append m (after n t p) (negate ℚ (rests p)) pa
        (arity-negate m ℚ (rests p) qa) in
        let differ : IsMember ℚ m hs (after n t p ++ negate ℚ (rests p)) =
        to_generators (after n t p ++ negate ℚ (rests p)) la
        (member_out m ℚ_ring ℚ_zero_test gs (after n t p ++ negate ℚ (rests p)) gs_arity la
        (in_ideal_same K (poly-less m (after n t p) (rests p)) (rests_differ p a low))) in
        let member : IsMember ℚ m hs (rests p) =
        member_out m ℚ_ring ℚ_zero_test hs (rests p) ha qa
        (in_ideal_same K (back K (of (after n t p)) (of (rests p)))
        (in_ideal_add K (member_in m ℚ_ring hs (after n t p) goes)
        (in_ideal_neg K (in_ideal_same K (sym (poly-less m (after n t p) (rests p)))
        (member_in m ℚ_ring hs _ differ))))) in
        let none : collect rationals grevlex (rests p) ≡ [] =
        standard_zero (rests p) (collect rationals grevlex (rests p)) qa
        (rests_standard p a low) member refl
        (collect-polynomial ℚ_field grevlex grevlex_order m (rests p) qa) in
        sym (coefficient-rests r p)
        ∙ sym ((collect-same ℚ_field grevlex grevlex_order (rests p)).at r)
        ∙ ap (λ x. coefficient ℚ x r) none ∙ coefficient-nil exponents ℚ_ring r

pub rest_sound : (G : Graph) → IsGraph G → (d : ℕ) (t : Transition) → In t G.transitions
    → (B : Family) → AllArity G.variables (B t.from)
    → ((C : Family) → IsInductive G C → HasDegree G d C
    → Each (IsMember ℚ G.variables (B t.from)) (C t.from))
    → (gs : List (Terms Fraction))
    → IsBasisOf rationals grevlex (t.unknowns + G.variables) gs (generators t B)
    → (rest : List ℕ → Terms Fraction)
    → ((e : List ℕ) → length e ≡ G.variables → sum e ≤ d
    → IsRest gs (t.unknowns + G.variables) (after G.variables t ((e, ℚ.one) ∷ [])) (rest e))
    → (r : List ℕ) → IsSoundRow G d t.to (λ e. coefficient ℚ (rest e) r)
rest_sound G is d t i B b has gs basis rest are r = record {
  zero = λ p low h.
      rest_zero G is d t i gs (generators t B)
      (own.generators_arity G.variables G.nodes t (transition_is G is t i) B b) basis rest are r
      p h.arity low (kept_above G is d t i B b has p h);
}
