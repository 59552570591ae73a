-- The relations of an orbit, as terms, and what an orbit and a meet keep of the lists that they begin with.
--   variable_is            a variable, as a term
--   unit_here              a variable's exponents
--   relation_arity, product_apart          a relation's exponents
--   relation_terms         the product of two variables less one, as terms
--   all_not_kept, relations_not_kept     none of the relations is free of the variables in front, and of others tail them
--   blend_not_kept         no element of a blend is free of its first variable
use Rattle.std.proofs.Common.{◌≡◌, ◌≢◌, ◌⊎◌, inl, inr, ℕ, zero, suc, ◌+◌, ◌<◌, ◌≤◌, Bool, true, false, List, [], ◌∷◌, ◌++◌, map, get_or, take, replicate, refl, sym, ap, ap₂, subst, ◌∙◌, arith}
use Rattle.std.proofs.lemmas.List.{map-append}
use Rattle.std.proofs.lemmas.Bool.{and_parts}
use Rattle.algebra.specs.Each.{Each}
use Rattle.algebra.proofs.RingLaws.{zero-add}
use Rattle.algebra.specs.Fraction.{Fraction, ℚ, rationals}
use Rattle.algebra.proofs.Fractions.{ℚ_ring, ℚ_field}
use Rattle.polynomials.specs.Algebra as Algebra
use Rattle.polynomials.specs.Exponent.{exponents, same, plus, unit_exponents}
use Rattle.polynomials.specs.Order.{Rank, IsMonomialOrder, grevlex, blocks}
use Rattle.polynomials.specs.Polynomial.{Apart, Arity, IsDistinct, IsPolynomial}
use Rattle.polynomials.specs.Terms.{Terms, coefficient, constant, variables, times, negate, retold}
use Rattle.polynomials.proofs.Algebra.{coefficient-append, coefficient-negate}
use Rattle.polynomials.proofs.Distinct.{coefficient_apart, coefficient_first, distinct_falls}
use Rattle.polynomials.proofs.Arity.{length-zeros}
use Rattle.polynomials.proofs.Exponent.{get_or-zeros, get_or-plus, same_refl, same_true, same_apart, length-plus_same}
use Rattle.polynomials.proofs.Orders.{grevlex_order, blocks_order}
use Rattle.solvable_maps.proofs.Exponents.{length-unit}
use Rattle.solvable_maps.specs.Uses.{unit}
use Rattle.machines.specs.Collect.{collect}
use Rattle.machines.specs.Elimination.{all_free, free, in_front, with_first, blend}
use Rattle.machines.proofs.Collecting.{collect-same}
use Rattle.rounds.specs.Form.{front, variable_at, relation, relations_to, relations, orbit_order}
use Rattle.machines.proofs.Lengths.{NothingKept}

-- ---- free of variables, so without a coefficient at what isn't
free_apart : (k : ℕ) (p : Terms Fraction) → all_free k p ≡ true → (e : List ℕ) → free k e ≡ false
    → Apart e p
unfolding all_free Each
free_apart k [] h e n = tt
free_apart k (t ∷ p) h e n =
    let both = and_parts (free k t.0) (all_free k p) h in (
      same_apart e t.0 (λ is. (let z : free k t.0 ≡ false = subst (λ d. free k d ≡ false) is n in
          let w : ⊥ = cc (both.0, z) in w)),
      free_apart k p both.1 e n,
    )

free_coefficient : (k : ℕ) (p : Terms Fraction) → all_free k p ≡ true → (e : List ℕ)
    → free k e ≡ false → coefficient ℚ p e ≡ ℚ.zero
free_coefficient k p h e n = coefficient_apart ℚ_ring e p (free_apart k p h e n)

-- where a coefficient isn't zero
not_free : (k : ℕ) (p : Terms Fraction) (e : List ℕ) → free k e ≡ false → coefficient ℚ p e ≢ ℚ.zero
    → all_free k p ≡ false
not_free k p e n c = go (all_free k p) refl
  where
    go : (b : Bool) → all_free k p ≡ b → b ≡ false
    go true h = absurd (c (free_coefficient k p h e n))
    go false h = refl

-- ---- variables
mapped : (f : List ℕ → Terms Fraction) (es : List (List ℕ)) → map f (map (λ e. 0 ∷ e) es)
    ≡ map (λ e. f (0 ∷ e)) es
mapped f [] = refl
mapped f (e ∷ es) = ap (λ l. f (0 ∷ e) ∷ l) (mapped f es)

units_at : (w i : ℕ) (f : List ℕ → Terms Fraction) → i < w → get_or (map f (unit_exponents w)) i []
    ≡ f (unit w i)
unfolding unit_exponents
units_at zero i f l = absurd (omega (arith, l))
units_at (suc w) zero f l = refl
units_at (suc w) (suc i) f l = ap (λ ps. get_or ps i []) (mapped f (unit_exponents w))
    ∙ units_at w i (λ e. f (0 ∷ e)) (omega (arith, l))

pub variable_is : (w i : ℕ) → i < w → variable_at w i ≡ (unit w i, ℚ.one) ∷ []
unfolding variables
variable_is w i l = units_at w i (λ e. (e, ℚ.one) ∷ []) l

product_is : (d e : List ℕ) → times ℚ ((d, ℚ.one) ∷ []) ((e, ℚ.one) ∷ []) ≡ (plus d e, ℚ.one) ∷ []
unfolding Algebra.times Algebra.shift
product_is d e = ap (λ (c : Fraction). (plus d e, c) ∷ []) (ℚ_ring.mul-one ℚ.one)

one_less : (w : ℕ) → negate ℚ (constant w ℚ.one) ≡ (replicate w 0, ℚ.neg ℚ.one) ∷ []
unfolding constant Algebra.negate
one_less w = refl

pub relation_terms : (w i j : ℕ) → i < w → j < w → relation w i j ≡ (
  plus (unit w i) (unit w j),
  ℚ.one,
) ∷ (replicate w 0, ℚ.neg ℚ.one) ∷ []
unfolding relation
relation_terms w i j l m = ap₂ ◌++◌ (ap₂ (times ℚ) (variable_is w i l) (variable_is w j m)
    ∙ product_is (unit w i) (unit w j)) (one_less w)

pub relation_arity : (w i j : ℕ) → i < w → j < w → Arity w (relation w i j)
unfolding Each
relation_arity w i j l m =
    subst (Arity w) (sym (relation_terms w i j l m)) (
      length-plus_same (unit w i) (unit w j) (length-unit w i ∙ sym (length-unit w j))
          ∙ length-unit w j,
      (length-zeros w, tt),
    )

-- ---- exponents of a product of two variables
pub unit_here : (w i : ℕ) → i < w → get_or (unit w i) i 0 ≡ 1
unit_here zero i l = absurd (omega (arith, l))
unit_here (suc w) zero l = refl
unit_here (suc w) (suc i) l = unit_here w i (omega (arith, l))

free_here : (k : ℕ) (e : List ℕ) (i : ℕ) → i < k → free k e ≡ true → get_or e i 0 ≡ 0
free_here k e i l h = go k e i l (same_true (take k e) (replicate k 0) h)
  where
    go : (k : ℕ) (e : List ℕ) (i : ℕ) → i < k → take k e ≡ replicate k 0 → get_or e i 0 ≡ 0
    go zero e i l h = absurd (omega (arith, l))
    go (suc k) [] i l h = refl
    go (suc k) (n ∷ e) zero l h = ap (λ xs. get_or xs 0 0) h
    go (suc k) (n ∷ e) (suc i) l h = go k e i (omega (arith, l)) (ap (λ xs. tail xs) h)
      where
        tail : List ℕ → List ℕ
        tail [] = []
        tail (x ∷ xs) = xs

some_here : (k : ℕ) (e : List ℕ) (i : ℕ) → i < k → 1 ≤ get_or e i 0 → free k e ≡ false
some_here k e i l s = go (free k e) refl
  where
    go : (b : Bool) → free k e ≡ b → b ≡ false
    go true h = let z = free_here k e i l h in absurd (omega (arith, z, s))
    go false h = refl

-- none of the relations is free of what stands in front
product_not_zero : (w : ℕ) (e : List ℕ) (i : ℕ) → 1 ≤ get_or e i 0 → same e (replicate w 0) ≡ false
product_not_zero w e i s = same_apart e (replicate w 0)
    (λ is. (let a : get_or e i 0 ≡ get_or (replicate w 0) i 0 = ap (λ (xs : List ℕ). get_or xs i 0)
    is in let b = get_or-zeros w i in omega (arith, a, b, s)))

pub product_apart : (w i j : ℕ) → i < w → plus (unit w i) (unit w j) ≢ replicate w 0
product_apart w i j l e =
    let here = get_or-plus (unit w i) (unit w j) i in
    let one = unit_here w i l in
    let apart = product_not_zero w (plus (unit w i) (unit w j)) i (omega (arith, here, one)) in
    let is : same (replicate w 0) (replicate w 0) ≡ true = same_refl (replicate w 0) in
    let moved : same (replicate w 0) (replicate w 0) ≡ false =
    subst (λ d. same d (replicate w 0) ≡ false) e apart in
    let z : ⊥ = cc (is, moved) in z

module _ (O : Rank) (o : IsMonomialOrder O) where
  relation_not_free : (k w i j : ℕ) → i < k → i < w → j < w
      → all_free k (collect rationals O (relation w i j)) ≡ false
  unfolding Each
  relation_not_free k w i j l m n =
      let e : List ℕ = plus (unit w i) (unit w j) in
      let here = get_or-plus (unit w i) (unit w j) i in
      let one = unit_here w i m in
      let some : 1 ≤ get_or e i 0 = omega (arith, here, one) in
      let first : coefficient ℚ ((e, ℚ.one) ∷ (replicate w 0, ℚ.neg ℚ.one) ∷ []) e ≡ ℚ.one =
      coefficient_first ℚ_ring (e, ℚ.one) ((replicate w 0, ℚ.neg ℚ.one) ∷ [])
      (product_not_zero w e i some, tt) in
      let is : coefficient ℚ (collect rationals O (relation w i j)) e ≡ ℚ.one =
      (collect-same ℚ_field O o (relation w i j)).at e
      ∙ ap (λ p. coefficient ℚ p e) (relation_terms w i j m n) ∙ first in
      not_free k (collect rationals O (relation w i j)) e (some_here k e i l some)
      (λ z. ℚ_field.one-ne-zero (sym is ∙ z))

not_kept-append : (k : ℕ) (gs hs : List (Terms Fraction)) → NothingKept rationals k gs
    → NothingKept rationals k hs → NothingKept rationals k (gs ++ hs)
unfolding NothingKept
not_kept-append k [] hs a b = b
not_kept-append k (g ∷ gs) hs a b = (a.0, not_kept-append k gs hs a.1 b)

module _ (k r w : ℕ) (some : front r ≤ k) (within : front r ≤ w) where
  abbrev blocked : Rank
  blocked = blocks k grevlex grevlex

  abbrev blocked_order : IsMonomialOrder (blocks k grevlex grevlex)
  blocked_order = blocks_order k grevlex grevlex grevlex_order grevlex_order

  to : (n : ℕ) → n ≤ r → NothingKept rationals k (map (collect rationals (blocks k grevlex grevlex))
      (relations_to r w n))
  unfolding relations_to NothingKept
  to zero l = tt
  to (suc n) l =
      rw (map-append (collect rationals blocked) (relations_to r w n)
      (relation w (suc (suc n)) (suc (suc (r + n))) ∷ []))
      (not_kept-append k (map (collect rationals blocked) (relations_to r w n)) _
      (to n (omega (arith, l))) (
        inr (relation_not_free blocked blocked_order k w (suc (suc n)) (suc (suc (r + n)))
            (omega (arith, l, some)) (omega (arith, l, within)) (omega (arith, l, within))),
        tt,
      ))

  pub all_not_kept : NothingKept rationals k (map (collect rationals (blocks k grevlex grevlex))
      (relation w 1 1 ∷ relations_to r w r))
  unfolding NothingKept
  all_not_kept = (
    inr (relation_not_free blocked blocked_order k w 1 1 (omega (arith, some))
        (omega (arith, within)) (omega (arith, within))),
    to r (omega arith),
  )

pub relations_not_kept : (r m : ℕ) → NothingKept rationals (front r)
    (map (collect rationals (orbit_order r)) (relations r m))
relations_not_kept r m = all_not_kept (front r) r (front r + m) (omega arith) (omega arith)

-- ---- blends
first_not_free : (p : Terms Fraction) → (with_first p ≡ []) ⊎ (all_free 1 (with_first p) ≡ false)
unfolding retold all_free same
first_not_free [] = inl refl
first_not_free (t ∷ p) = inr refl

apart_front : (e : List ℕ) (p : Terms Fraction) → Apart (1 ∷ e) (in_front 1 p)
unfolding retold Each same
apart_front e [] = tt
apart_front e (t ∷ p) = (refl, apart_front e p)

apart_first : (e : List ℕ) (p : Terms Fraction) → Apart e p → Apart (1 ∷ e) (with_first p)
unfolding retold Each same
apart_first e [] a = tt
apart_first e (t ∷ p) a = (a.0, apart_first e p a.1)

first_free : (e : List ℕ) → free 1 (1 ∷ e) ≡ false
unfolding same
first_free e = refl

module _ (m : ℕ) where
  abbrev blended : Rank
  blended = blocks 1 grevlex grevlex

  abbrev blended_order : IsMonomialOrder (blocks 1 grevlex grevlex)
  blended_order = blocks_order 1 grevlex grevlex grevlex_order grevlex_order

  abbrev other : Terms Fraction → Terms Fraction
  other q = in_front 1 q ++ negate ℚ (with_first q)

  nothing : collect rationals blended (other []) ≡ []
  unfolding retold Algebra.negate collect
  nothing = refl

  neg_none : (c : Fraction) → ℚ.neg c ≡ ℚ.zero → c ≡ ℚ.zero
  neg_none c z = sym (ℚ_ring.add-zero c) ∙ ap (ℚ.add c) (sym z) ∙ ℚ_ring.add-neg c

  distinct_first : (t : List ℕ × Fraction) (q : Terms Fraction) → IsDistinct (t ∷ q) → Apart t.0 q
  unfolding IsDistinct
  distinct_first t q d = d.0

  at_first : (t : List ℕ × Fraction) (q : Terms Fraction) → Apart t.0 q
      → coefficient ℚ (with_first (t ∷ q)) (1 ∷ t.0) ≡ t.1
  unfolding retold
  at_first t q a = coefficient_first ℚ_ring (1 ∷ t.0, t.1) (with_first q) (apart_first t.0 q a)

  other_not_free : (q : Terms Fraction) → IsPolynomial ℚ grevlex m q
      → (collect rationals blended (other q) ≡ [])
      ⊎ (all_free 1 (collect rationals blended (other q)) ≡ false)
  unfolding Each
  other_not_free [] h = inl nothing
  other_not_free (t ∷ q) h =
      let e : List ℕ = 1 ∷ t.0 in
      let apart = distinct_falls grevlex grevlex_order (t ∷ q) h.falls in
      let first : coefficient ℚ (with_first (t ∷ q)) e ≡ t.1 =
      at_first t q (distinct_first t q apart) in
      let is : coefficient ℚ (collect rationals blended (other (t ∷ q))) e ≡ ℚ.neg t.1 =
      (collect-same ℚ_field blended blended_order (other (t ∷ q))).at e
      ∙ coefficient-append exponents ℚ_ring (in_front 1 (t ∷ q)) (negate ℚ (with_first (t ∷ q)))
      e
      ∙ ap₂ ℚ.add (coefficient_apart ℚ_ring e (in_front 1 (t ∷ q)) (apart_front t.0 (t ∷ q)))
      (coefficient-negate exponents ℚ_ring (with_first (t ∷ q)) e ∙ ap ℚ.neg first)
      ∙ zero-add ℚ_ring (ℚ.neg t.1) in
      inr (not_free 1 (collect rationals blended (other (t ∷ q))) e (first_free t.0)
      (λ z. h.nonzero.0 (neg_none t.1 (sym is ∙ z))))

  firsts : (ks : List (Terms Fraction)) → NothingKept rationals 1 (map with_first ks)
  unfolding NothingKept
  firsts [] = tt
  firsts (p ∷ ks) = (first_not_free p, firsts ks)

  others : (bs : List (Terms Fraction)) → Each (IsPolynomial ℚ grevlex m) bs
      → NothingKept rationals 1 (map (λ q. collect rationals blended (other q)) bs)
  unfolding NothingKept Each
  others [] h = tt
  others (q ∷ bs) h = (other_not_free q h.0, others bs h.1)

  pub blend_not_kept : (ks bs : List (Terms Fraction)) → Each (IsPolynomial ℚ grevlex m) bs
      → NothingKept rationals 1 (blend rationals (blocks 1 grevlex grevlex) ks bs)
  blend_not_kept ks bs h = not_kept-append 1 (map with_first ks) _ (firsts ks) (others bs h)
