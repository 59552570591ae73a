-- The reduced list of an ideal up to a degree is one.
--   term_at              a term with some exponents, or none
--   shared               an element of one list is one of the other
--   one_up_to            so there is one list
--   low_part_is          the elements of a reduced basis up to the degree are it
use Rattle.std.proofs.Common.{◌≡◌, ◌≢◌, ◌⊎◌, inl, inr, ℕ, ◌+◌, ◌≤◌, Bool, true, false, true≢false, cond, leb, leb-true, le-leb, List, [], ◌∷◌, ◌++◌, length, sum, refl, sym, ap, ap₂, subst, ◌∙◌, arith, Ordering, Less, Equal, Greater}
use Rattle.algebra.specs.Each.{Each}
use Rattle.algebra.specs.In.{In}
use Rattle.algebra.specs.Ring.{CommRing}
use Rattle.algebra.proofs.RingSolver.{ring, ring_rules}
use Rattle.algebra.specs.Fraction.{Fraction, ℚ, rationals}
use Rattle.algebra.proofs.Fractions.{ℚ_ring, ℚ_field}
use Rattle.polynomials.specs.Algebra as Algebra
use Rattle.polynomials.specs.Exponent.{same, plus, over}
use Rattle.polynomials.specs.Terms.{Terms, coefficient, negate}
use Rattle.polynomials.specs.Order.{grevlex, compare}
use Rattle.polynomials.specs.Polynomial.{Arity, Apart, IsPolynomial, Falls}
use Rattle.polynomials.proofs.Orders.{grevlex_order}
use Rattle.machines.specs.Cut.{lead_of, lead_number, divides}
use Rattle.machines.specs.Reduced.{AllAbove, Ascends, IsReducedFor}
use Rattle.machines.proofs.Sorted.{ascending_same}
use Rattle.machines.proofs.Tidied.{divides-trans}
use Rattle.machines.proofs.Elements.{over-plus}
use Rattle.polynomials.proofs.Order.{compare_least, compare_equal, greater_less}
use Rattle.polynomials.proofs.Arity.{arity-append, arity-negate}
use Rattle.polynomials.proofs.Canonical.{coefficient_head, polynomial_unique}
use Rattle.polynomials.proofs.Distinct.{coefficient_apart}
use Rattle.polynomials.proofs.Exponent.{sum-plus, same_refl, same_true}
use Rattle.polynomials.proofs.Monomials.{length-over}
use Rattle.polynomials.proofs.Poly.{Poly, poly, poly_ring, poly_same, same_from_poly, poly-nil, poly-append, poly-negate}
use Rattle.algebra.proofs.Each.{each-append}
use Rattle.algebra.proofs.In.{each_in}
use Rattle.algebra.proofs.RingLaws.{zero-add}
use Rattle.ideals.proofs.Ideal.{in_ideal_same, in_ideal_add, in_ideal_neg, in_ideal_head, in_ideal_tail}
use Rattle.machines.specs.Collect.{collect}
use Rattle.machines.proofs.Collecting.{collect-polynomial, collect-same}
use Rattle.closures.proofs.UpTo.{less_degree, from_ideal}
use Rattle.closures.specs.Closure.{IsIdeal}
use Rattle.closures.specs.UpTo.{low_part, IsReducedUpTo}

-- ---- what divides isn't above
sum_at_most : (d e : List ℕ) → length d ≡ length e → divides d e ≡ true → sum d ≤ sum e
sum_at_most d e l h =
    let is : plus (over e d) d ≡ e = over-plus d e l h in
    let s : sum (plus (over e d) d) ≡ sum (over e d) + sum d = sum-plus (over e d) d in
    let t : sum (plus (over e d) d) ≡ sum e = ap sum is in omega (arith, s, t)

not_below : (d e : List ℕ) → length d ≡ length e → divides d e ≡ true
    → compare grevlex e d ≡ Less → ⊥
not_below d e l h below =
    compare_least grevlex grevlex_order (over e d) d
    (length-over e d (sym l) ∙ sym l)
    (subst (λ f. compare grevlex f d ≡ Less) (sym (over-plus d e l h)) below)

both_divide : (d e : List ℕ) → length d ≡ length e → divides d e ≡ true → divides e d ≡ true
    → d ≡ e
both_divide d e l h k = go (compare grevlex d e) refl
  where
    go : (o : Ordering) → compare grevlex d e ≡ o → d ≡ e
    go Less c = absurd (not_below e d (sym l) k c)
    go Equal c = compare_equal grevlex grevlex_order d e c
    go Greater c = absurd (not_below d e l h (greater_less grevlex grevlex_order d e c))

-- a term with these exponents, or none
pub term_at : (e : List ℕ) (p : Terms Fraction)
    → ((w : List ℕ × Fraction) × In w p × (w.0 ≡ e)) ⊎ Apart e p
unfolding Each
term_at e [] = inr tt
term_at e (t ∷ p) = go (same e t.0) refl (term_at e p)
  where
    go : (b : Bool) → same e t.0 ≡ b → ((w : List ℕ × Fraction) × In w p × (w.0 ≡ e)) ⊎ Apart e p
        → ((w : List ℕ × Fraction) × In w (t ∷ p) × (w.0 ≡ e)) ⊎ Apart e (t ∷ p)
    go true is k = inl (t, inl refl, sym (same_true e t.0 is))
    go false is (inl (w, i, k)) = inl (w, inr i, k)
    go false is (inr k) = inr (is, k)

apart_negate : (e : List ℕ) (p : Terms Fraction) → Apart e p → Apart e (negate ℚ p)
unfolding Each Algebra.negate
apart_negate e [] h = tt
apart_negate e (t ∷ p) h = (h.0, apart_negate e p h.1)

module _ (m d : ℕ) (I : Terms Fraction → Type 0) (ideal : IsIdeal m I) where
  abbrev T : CommRing (Poly m ℚ_ring)
  T = poly_ring m ℚ_ring

  abbrev of : Terms Fraction → Poly m ℚ_ring
  of p = poly m ℚ_ring p

  -- no term behind a lead is divided by the lead of an element
  tail_free : (gs : List (Terms Fraction)) → IsReducedUpTo m d gs I → (t : List ℕ × Fraction)
      (p : Terms Fraction) → In (t ∷ p) gs → (w : List ℕ × Fraction) → In w p
      → (s : List ℕ × Fraction) (r : Terms Fraction) → w.0 ≡ s.0
      → IsPolynomial ℚ grevlex m (s ∷ r) → I (s ∷ r) → ⊥
  unfolding lead_of Each Falls
  tail_free gs a t p i w j s r at hs is =
      let hg = a.tidy.polynomials (t ∷ p) i in
      let low : compare grevlex s.0 t.0 ≡ Less =
      subst (λ e. compare grevlex e t.0 ≡ Less) at
      (each_in (λ v. compare grevlex v.0 t.0 ≡ Less) p w hg.falls.0 j) in
      let long : length s.0 ≡ length t.0 = hs.arity.0 ∙ sym hg.arity.0 in
      let most : sum t.0 ≤ d = a.tidy.degrees (t ∷ p) i in
      let less = less_degree s.0 t.0 long low in
      let (g, k, div) = a.led s r hs (omega (arith, most, less)) is in
      let false_is : divides (lead_of g) w.0 ≡ false =
      a.tidy.clean (t ∷ p) g i k
      (λ e. not_below t.0 s.0 (sym long) (subst (λ f. divides f s.0 ≡ true) e div) low) w (inr j)
      in
      true≢false (sym div ∙ subst (λ e. divides (lead_of g) e ≡ false) at false_is)

  -- two elements with one lead
  same_element : (gs hs : List (Terms Fraction)) → IsReducedUpTo m d gs I
      → IsReducedUpTo m d hs I → (t u : List ℕ × Fraction) (p q : Terms Fraction)
      → In (t ∷ p) gs → In (u ∷ q) hs → t.0 ≡ u.0 → t ∷ p ≡ u ∷ q
  unfolding lead_number Each Falls
  same_element gs hs a b t u p q i j e =
      ap₂ ◌∷◌ (ap₂ (λ (x : List ℕ) (y : Fraction). (x, y)) e
      (a.tidy.monic (t ∷ p) i ∙ sym (b.tidy.monic (u ∷ q) j))) (go rest refl)
    where
      hp : IsPolynomial ℚ grevlex m (t ∷ p)
      hp = a.tidy.polynomials (t ∷ p) i

      hq : IsPolynomial ℚ grevlex m (u ∷ q)
      hq = b.tidy.polynomials (u ∷ q) j

      less : Terms Fraction
      less = p ++ negate ℚ q

      rest : Terms Fraction
      rest = collect rationals grevlex less

      la : Arity m less
      la = arity-append m p (negate ℚ q) hp.arity.1 (arity-negate m ℚ q hq.arity.1)

      is_rest : IsPolynomial ℚ grevlex m rest
      is_rest = collect-polynomial ℚ_field grevlex grevlex_order m less la

      of_less : of less ≡ T.add (of p) (T.neg (of q))
      of_less = poly-append m ℚ_ring p (negate ℚ q)
          ∙ ap (T.add (of p)) (poly-negate m ℚ_ring q)

      of_rest : of rest ≡ T.add (of p) (T.neg (of q))
      of_rest = poly_same m ℚ_ring (collect-same ℚ_field grevlex grevlex_order less) ∙ of_less

      split : (c x y : Poly m ℚ_ring) → T.add x (T.neg y)
          ≡ T.add (T.add c x) (T.neg (T.add c y))
      split c x y = ring T (c ∷ x ∷ y ∷ []) (search ring_rules depth 40) refl

      leads : of (t ∷ []) ≡ of (u ∷ [])
      leads = ap₂ (λ (x : List ℕ) (y : Fraction). of ((x, y) ∷ [])) e
          (a.tidy.monic (t ∷ p) i ∙ sym (b.tidy.monic (u ∷ q) j))

      in_rest : I rest
      in_rest =
          from_ideal m I ideal ((t ∷ p) ∷ (u ∷ q) ∷ [])
          (a.members (t ∷ p) i, (b.members (u ∷ q) j, tt)) rest is_rest.arity
          (in_ideal_same T (of_rest ∙ split (of (t ∷ [])) (of p) (of q)
          ∙ sym (ap₂ (λ x y. T.add x (T.neg y)) (poly-append m ℚ_ring (t ∷ []) p)
          (poly-append m ℚ_ring (u ∷ []) q ∙ ap (λ x. T.add x (of q)) (sym leads))))
          (in_ideal_add T (in_ideal_head T)
          (in_ideal_neg T (in_ideal_tail T (in_ideal_head T)))))

      from_difference : {A : Type 0} (R : CommRing A) (x y : A) → R.add x (R.neg y) ≡ R.zero
          → x ≡ y
      from_difference R x y h = back R x y ∙ ap (λ z. R.add z y) h ∙ zero-add R y
        where
          back : {A : Type 0} (R : CommRing A) (x y : A) → x ≡ R.add (R.add x (R.neg y)) y
          back R x y = ring R (x ∷ y ∷ []) (search ring_rules depth 40) refl

      pp : IsPolynomial ℚ grevlex m p
      pp = record { nonzero = hp.nonzero.1; arity = hp.arity.1; falls = hp.falls.1 }

      qq : IsPolynomial ℚ grevlex m q
      qq = record { nonzero = hq.nonzero.1; arity = hq.arity.1; falls = hq.falls.1 }

      go : (r : Terms Fraction) → rest ≡ r → p ≡ q
      go [] h =
          polynomial_unique grevlex grevlex_order ℚ_ring m m p q pp qq
          (same_from_poly m ℚ_ring p q pp.arity qq.arity
          (from_difference T (of p) (of q) (sym of_rest ∙ ap of h ∙ poly-nil m ℚ_ring)))
      go (s ∷ r) h =
          let hr : IsPolynomial ℚ grevlex m (s ∷ r) = subst (IsPolynomial ℚ grevlex m) h is_rest in
          let ir : I (s ∷ r) = subst I h in_rest in
          absurd (elim (term_at s.0 p) [
            | inl (w, k, at) ↦ tail_free gs a t p i w k s r at hr ir
            | inr np ↦ elim (term_at s.0 q) [
              | inl (w, k, at) ↦ tail_free hs b u q j w k s r at hr ir
              | inr nq
                  ↦ hr.nonzero.0
                  (sym (coefficient_head grevlex grevlex_order ℚ_ring s r hr.falls.0)
                  ∙ ap (λ x. coefficient ℚ x s.0) (sym h)
                  ∙ (collect-same ℚ_field grevlex grevlex_order less).at s.0
                  ∙ coefficient_apart ℚ_ring s.0 less
                  (each-append (λ v. same s.0 v.0 ≡ false) p (negate ℚ q) np
                  (apart_negate s.0 q nq)))
            ]
          ])

  -- an element's lead is that of the one whose lead divides it
  own_lead : (gs : List (Terms Fraction)) → IsReducedUpTo m d gs I → (t : List ℕ × Fraction)
      (p g : Terms Fraction) → In (t ∷ p) gs → In g gs → divides (lead_of g) t.0 ≡ true
      → lead_of g ≡ t.0
  unfolding lead_of
  own_lead gs a t p g i j h = go (same (lead_of g) t.0) refl
    where
      go : (b : Bool) → same (lead_of g) t.0 ≡ b → lead_of g ≡ t.0
      go true is = same_true (lead_of g) t.0 is
      go false is =
          absurd (true≢false (sym h
          ∙ a.tidy.clean (t ∷ p) g i j
          (λ e. true≢false (sym (same_refl t.0)
          ∙ subst (λ f. same f t.0 ≡ false) e is)) t (inl refl)))

  shared : (gs hs : List (Terms Fraction)) → IsReducedUpTo m d gs I → IsReducedUpTo m d hs I
      → (g : Terms Fraction) → In g gs → In g hs
  unfolding lead_of Each
  shared gs hs a b [] i = absurd (a.tidy.nonzero [] i refl)
  shared gs hs a b (t ∷ p) i =
      let hg = a.tidy.polynomials (t ∷ p) i in
      let (h, j, div) = b.led t p hg (a.tidy.degrees (t ∷ p) i) (a.members (t ∷ p) i) in
      go h j div
    where
      go : (h : Terms Fraction) → In h hs → divides (lead_of h) t.0 ≡ true → In (t ∷ p) hs
      go [] j div = absurd (b.tidy.nonzero [] j refl)
      go (u ∷ q) j div =
          let hg = a.tidy.polynomials (t ∷ p) i in
          let hh = b.tidy.polynomials (u ∷ q) j in
          let (g, k, back) = a.led u q hh (b.tidy.degrees (u ∷ q) j) (b.members (u ∷ q) j) in
          let ga : length (lead_of g) ≡ m = lead_long g k in
          let own : lead_of g ≡ t.0 =
          own_lead gs a t p g i k
          (divides-trans (lead_of g) u.0 t.0 (ga ∙ sym hh.arity.0) (hh.arity.0 ∙ sym hg.arity.0)
          back div) in
          let e : t.0 ≡ u.0 =
          both_divide t.0 u.0 (hg.arity.0 ∙ sym hh.arity.0)
          (subst (λ f. divides f u.0 ≡ true) own back) div in
          subst (λ x. In x hs) (sym (same_element gs hs a b t u p q i j e)) j
        where
          lead_long : (g : Terms Fraction) → In g gs → length (lead_of g) ≡ m
          lead_long [] k = absurd (a.tidy.nonzero [] k refl)
          lead_long (v ∷ o) k = let h = a.tidy.polynomials (v ∷ o) k in h.arity.0

  pub one_up_to : (gs hs : List (Terms Fraction)) → IsReducedUpTo m d gs I
      → IsReducedUpTo m d hs I → gs ≡ hs
  one_up_to gs hs a b =
      ascending_same grevlex grevlex_order gs hs a.tidy.ascends b.tidy.ascends
      (shared gs hs a b) (shared hs gs b a)

-- ---- of a reduced basis
arity_first : (m : ℕ) (t : List ℕ × Fraction) (p : Terms Fraction) → Arity m (t ∷ p)
    → length t.0 ≡ m
unfolding Each
arity_first m t p a = a.0

lead_arity : (m : ℕ) (g : Terms Fraction) → g ≢ [] → Arity m g → length (lead_of g) ≡ m
unfolding Each lead_of
lead_arity m [] n a = absurd (n refl)
lead_arity m (t ∷ p) n a = a.0

in_low : (d : ℕ) (bs : List (Terms Fraction)) (g : Terms Fraction) → In g (low_part d bs)
    → In g bs × (sum (lead_of g) ≤ d)
unfolding low_part
in_low d [] g i = absurd i
in_low d (b ∷ bs) g i = go (leb (sum (lead_of b)) d) refl i (in_low d bs g)
  where
    go : (o : Bool) → leb (sum (lead_of b)) d ≡ o
        → In g (cond o (b ∷ low_part d bs) (low_part d bs))
        → (In g (low_part d bs) → In g bs × (sum (lead_of g) ≤ d))
        → In g (b ∷ bs) × (sum (lead_of g) ≤ d)
    go true e (inl s) ih =
        (inl s, subst (λ x. sum (lead_of x) ≤ d) (sym s) (leb-true (sum (lead_of b)) d e))
    go true e (inr j) ih = let r = ih j in (inr r.0, r.1)
    go false e j ih = let r = ih j in (inr r.0, r.1)

low_in : (d : ℕ) (bs : List (Terms Fraction)) (g : Terms Fraction) → In g bs
    → sum (lead_of g) ≤ d → In g (low_part d bs)
unfolding low_part
low_in d [] g i l = absurd i
low_in d (b ∷ bs) g i l = go (leb (sum (lead_of b)) d) refl i (λ j. low_in d bs g j l)
  where
    go : (o : Bool) → leb (sum (lead_of b)) d ≡ o → In g (b ∷ bs)
        → (In g bs → In g (low_part d bs))
        → In g (cond o (b ∷ low_part d bs) (low_part d bs))
    go true e (inl s) ih = inl s
    go true e (inr j) ih = inr (ih j)
    go false e (inl s) ih =
        absurd (true≢false
        (sym (le-leb (sum (lead_of b)) d (subst (λ x. sum (lead_of x) ≤ d) s l)) ∙ e))
    go false e (inr j) ih = ih j

above_low : (d : ℕ) (e : List ℕ) (bs : List (Terms Fraction)) → AllAbove grevlex e bs
    → AllAbove grevlex e (low_part d bs)
unfolding low_part AllAbove
above_low d e [] h = tt
above_low d e (b ∷ bs) h = go (leb (sum (lead_of b)) d) (above_low d e bs h.1)
  where
    go : (o : Bool) → AllAbove grevlex e (low_part d bs)
        → AllAbove grevlex e (cond o (b ∷ low_part d bs) (low_part d bs))
    go true ih = (h.0, ih)
    go false ih = ih

ascends_low : (d : ℕ) (bs : List (Terms Fraction)) → Ascends grevlex bs
    → Ascends grevlex (low_part d bs)
unfolding low_part Ascends
ascends_low d [] h = tt
ascends_low d (b ∷ bs) h = go (leb (sum (lead_of b)) d) (ascends_low d bs h.1)
  where
    go : (o : Bool) → Ascends grevlex (low_part d bs)
        → Ascends grevlex (cond o (b ∷ low_part d bs) (low_part d bs))
    go true ih = (above_low d (lead_of b) bs h.0, ih)
    go false ih = ih

pub low_part_is : (m d : ℕ) (I : Terms Fraction → Type 0) (bs : List (Terms Fraction))
    → IsReducedFor rationals grevlex m bs I → IsReducedUpTo m d (low_part d bs) I
low_part_is m d I bs r = record {
  tidy = record {
    polynomials = λ g i. r.polynomials g (in_low d bs g i).0;
    nonzero = λ g i. r.nonzero g (in_low d bs g i).0;
    degrees = λ g i. (in_low d bs g i).1;
    monic = λ g i. r.monic g (in_low d bs g i).0;
    ascends = ascends_low d bs r.ascends;
    clean = λ g h i j. r.clean g h (in_low d bs g i).0 (in_low d bs h j).0;
  };
  members = λ g i. r.members g (in_low d bs g i).0;
  led = λ t p h l i.
      let (g, j, div) = r.led t p h i in
      let most = sum_at_most (lead_of g) t.0 (lead_length g j ∙ sym (first_length t p h)) div in
      (g, low_in d bs g j (omega (arith, most, l)), div);
}
  where
    first_length : (t : List ℕ × Fraction) (p : Terms Fraction)
        → IsPolynomial ℚ grevlex m (t ∷ p) → length t.0 ≡ m
    first_length t p h = arity_first m t p h.arity

    lead_length : (g : Terms Fraction) → In g bs → length (lead_of g) ≡ m
    lead_length g j = lead_arity m g (r.nonzero g j) (r.polynomials g j).arity
