-- Polynomials with a unknowns in front of the variables, by the powers of the unknowns.
--   part a b p               what stands at the exponents b of the unknowns: a polynomial in the variables
--   part_arity, part_low     its exponents and its degree
--   part_zero                where p is 0 for all values of the unknowns, the part is 0
--   assembled                where each part is in the ideal of gs, p is in the ideal of gs with the unknowns in front
use Rattle.std.proofs.Common.{◌≡◌, ℕ, zero, suc, ◌+◌, ◌≤◌, Bool, true, false, cond, List, [], ◌∷◌, ◌++◌, map, take, drop, replicate, length, sum, refl, sym, ap, ap₂, subst, ◌∙◌, arith, take-append-drop, true≢false}
use Rattle.std.proofs.lemmas.List.{length-append, length-replicate, append-nil}
use Rattle.polynomials.proofs.Same.{Same-refl}
use Rattle.algebra.specs.Each.{Each}
use Rattle.algebra.specs.Ring.{CommRing}
use Rattle.algebra.specs.Sum.{sum_over}
use Rattle.algebra.specs.Arithmetic.{power}
use Rattle.algebra.proofs.Lists.{length-front, length-back}
use Rattle.algebra.proofs.RingLaws.{one-mul, zero-add}
use Rattle.algebra.proofs.RingSolver.{ring, ring_rules}
use Rattle.algebra.specs.Fraction.{Fraction, ℚ}
use Rattle.algebra.proofs.Fractions.{ℚ_ring}
use Rattle.polynomials.specs.Algebra as Algebra
use Rattle.polynomials.specs.Exponent.{exponents, same, plus}
use Rattle.polynomials.specs.Terms.{Terms, Same, coefficient, evaluate, monomial_at, value_at, times, shift, retold}
use Rattle.polynomials.specs.Polynomial.{Arity, AllArity}
use Rattle.polynomials.proofs.Algebra.{coefficient-nil}
use Rattle.polynomials.proofs.Arity.{arity-append}
use Rattle.polynomials.proofs.ByValues.{zero_by_values}
use Rattle.polynomials.proofs.Exponent.{same_refl, same_true, plus_comm, plus-zeros}
use Rattle.polynomials.proofs.Poly.{Poly, poly, poly_ring, poly-nil, poly-append, same_from_poly}
use Rattle.polynomials.proofs.Value.{monomial-nil}
use Rattle.ideals.specs.Members.{IsMember}
use Rattle.ideals.proofs.FractionMembers.{member_same, member_nil, member_append}
use Rattle.machines.specs.Elimination.{in_front, pad}
use Rattle.machines.proofs.Padding.{arity-pad, arity-padded}
use Rattle.closures.proofs.Ideals.{member_times}
use Rattle.flows.specs.Affine.{IsAtMostBehind}
use Rattle.flows.proofs.Members.{front_member}

module _ (a : ℕ) where
  unfoldable pub part : List ℕ → Terms Fraction → Terms Fraction
  part b [] = []
  part b (t ∷ p) = cond (same b (take a t.0)) ((drop a t.0, t.1) ∷ part b p) (part b p)

  unfoldable others : List ℕ → Terms Fraction → Terms Fraction
  others b [] = []
  others b (t ∷ p) = cond (same b (take a t.0)) (others b p) (t ∷ others b p)

  -- the polynomial in the unknowns at a state
  unfoldable at_state : List Fraction → Terms Fraction → Terms Fraction
  at_state s [] = []
  at_state s (t ∷ p) = (take a t.0, ℚ.mul t.1 (monomial_at ℚ s (drop a t.0))) ∷ at_state s p

  pub part_arity : (n : ℕ) (b : List ℕ) (p : Terms Fraction) → Arity (a + n) p
      → Arity n (part b p)
  unfolding Each part
  part_arity n b [] h = tt
  part_arity n b (t ∷ p) h = go (same b (take a t.0)) (part_arity n b p h.1)
    where
      go : (o : Bool) → Arity n (part b p)
          → Arity n (cond o ((drop a t.0, t.1) ∷ part b p) (part b p))
      go true k = (length-back a n t.0 h.0, k)
      go false k = k

  pub part_low : (d : ℕ) (b : List ℕ) (p : Terms Fraction) → IsAtMostBehind a d p
      → Each (λ t. sum t.0 ≤ d) (part b p)
  unfolding Each part
  part_low d b [] h = tt
  part_low d b (t ∷ p) h = go (same b (take a t.0)) (part_low d b p h.1)
    where
      go : (o : Bool) → Each (λ t. sum t.0 ≤ d) (part b p)
          → Each (λ t. sum t.0 ≤ d) (cond o ((drop a t.0, t.1) ∷ part b p) (part b p))
      go true k = (h.0, k)
      go false k = k

  at_state_arity : (n : ℕ) (s : List Fraction) (p : Terms Fraction) → Arity (a + n) p
      → Arity a (at_state s p)
  unfolding Each at_state
  at_state_arity n s [] h = tt
  at_state_arity n s (t ∷ p) h = (length-front a n t.0 h.0, at_state_arity n s p h.1)

  coefficient_part : (b : List ℕ) (s : List Fraction) (p : Terms Fraction)
      → coefficient ℚ (at_state s p) b ≡ value_at ℚ (part b p) s
  unfolding part at_state Algebra.coefficient evaluate sum_over
  coefficient_part b s [] = refl
  coefficient_part b s (t ∷ p) = go (same b (take a t.0)) (coefficient_part b s p)
    where
      go : (o : Bool) → coefficient ℚ (at_state s p) b ≡ value_at ℚ (part b p) s
          → ℚ.add (cond o (ℚ.mul t.1 (monomial_at ℚ s (drop a t.0))) ℚ.zero)
          (coefficient ℚ (at_state s p) b)
          ≡ value_at ℚ (cond o ((drop a t.0, t.1) ∷ part b p) (part b p)) s
      go true e = ap (ℚ.add (ℚ.mul t.1 (monomial_at ℚ s (drop a t.0)))) e
      go false e = zero-add ℚ_ring _ ∙ e

monomial_split : (x s : List Fraction) (e : List ℕ) → monomial_at ℚ (x ++ s) e
    ≡ ℚ.mul (monomial_at ℚ x (take (length x) e)) (monomial_at ℚ s (drop (length x) e))
unfolding monomial_at
monomial_split [] s e = sym (one-mul ℚ_ring _)
monomial_split (y ∷ x) s [] = sym (ap (ℚ.mul ℚ.one) (monomial-nil ℚ_ring s) ∙ ℚ_ring.mul-one ℚ.one)
monomial_split (y ∷ x) s (k ∷ e) =
    ap (ℚ.mul (power ℚ y k)) (monomial_split x s e)
    ∙ sym (ℚ_ring.mul_assoc (power ℚ y k) (monomial_at ℚ x (take (length x) e))
    (monomial_at ℚ s (drop (length x) e)))

regroup : {A : Type 0} (R : CommRing A) (c x y : A) → R.mul (R.mul c y) x
    ≡ R.mul c (R.mul x y)
regroup R c x y = ring R (c ∷ x ∷ y ∷ []) (search ring_rules depth 40) refl

value_at_state : (x s : List Fraction) (p : Terms Fraction)
    → value_at ℚ (at_state (length x) s p) x ≡ value_at ℚ p (x ++ s)
unfolding at_state evaluate sum_over
value_at_state x s [] = refl
value_at_state x s (t ∷ p) =
    ap₂ ℚ.add (regroup ℚ_ring t.1 (monomial_at ℚ x (take (length x) t.0))
    (monomial_at ℚ s (drop (length x) t.0))
    ∙ ap (ℚ.mul t.1) (sym (monomial_split x s t.0))) (value_at_state x s p)

pub part_zero : (a n : ℕ) (b : List ℕ) (p : Terms Fraction) (s : List Fraction)
    → Arity (a + n) p
    → ((x : List Fraction) → length x ≡ a → value_at ℚ p (x ++ s) ≡ ℚ.zero)
    → value_at ℚ (part a b p) s ≡ ℚ.zero
part_zero a n b p s h z =
    sym (coefficient_part a b s p)
    ∙ (zero_by_values a (at_state a s p) (at_state_arity a n s p h)
    (λ x l. ap (λ k. value_at ℚ (at_state k s p) x) (sym l) ∙ value_at_state x s p ∙ z x l)).at b
    ∙ coefficient-nil exponents ℚ_ring b

-- ---- putting the parts together
unfoldable raised : List ℕ → Terms Fraction → Terms Fraction
raised b q = retold (λ e. b ++ e) q

pub zeros_front : (e : List ℕ) (n : ℕ) → length e ≡ n → plus (replicate n 0) e ≡ e
zeros_front e n l = plus_comm (replicate n 0) e
    ∙ ap (λ k. plus e (replicate k 0)) (sym l) ∙ plus-zeros e

plus_raised : (a n : ℕ) (b e : List ℕ) → length b ≡ a → length e ≡ n
    → plus (b ++ replicate n 0) (pad a e) ≡ b ++ e
unfolding plus
plus_raised zero n [] e l k = zeros_front e n k
plus_raised zero n (x ∷ b) e l k = absurd (omega arith)
plus_raised (suc a) n [] e l k = absurd (omega arith)
plus_raised (suc a) n (x ∷ b) e l k = ap₂ ◌∷◌ (omega arith) (plus_raised a n b e (omega arith) k)

shift_raised : (a n : ℕ) (b : List ℕ) (q : Terms Fraction) → length b ≡ a → Arity n q
    → shift ℚ (b ++ replicate n 0) ℚ.one (in_front a q) ≡ raised b q
unfolding Each Algebra.shift raised retold
shift_raised a n b [] l h = refl
shift_raised a n b (t ∷ q) l h =
    ap₂ ◌∷◌ (ap₂ (λ (x : List ℕ) (y : Fraction). (x, y)) (plus_raised a n b t.0 l h.0)
    (one-mul ℚ_ring t.1)) (shift_raised a n b q l h.1)

module _ (a n : ℕ) where
  abbrev K : CommRing (Poly (a + n) ℚ_ring)
  K = poly_ring (a + n) ℚ_ring

  abbrev of : Terms Fraction → Poly (a + n) ℚ_ring
  of p = poly (a + n) ℚ_ring p

  first : (t : List ℕ × Fraction) (p : Terms Fraction) → of (t ∷ p)
      ≡ K.add (of (t ∷ [])) (of p)
  first t p = poly-append (a + n) ℚ_ring (t ∷ []) p

  left_comm : {A : Type 0} (R : CommRing A) (x y z : A) → R.add x (R.add y z)
      ≡ R.add y (R.add x z)
  left_comm R x y z = ring R (x ∷ y ∷ z ∷ []) (search ring_rules depth 40) refl

  split : (b : List ℕ) (p : Terms Fraction)
      → of p ≡ K.add (of (raised b (part a b p))) (of (others a b p))
  unfolding part others raised retold
  split b [] = poly-nil (a + n) ℚ_ring
      ∙ sym (ap₂ K.add (poly-nil (a + n) ℚ_ring) (poly-nil (a + n) ℚ_ring)
      ∙ K.add-zero K.zero)
  split b (t ∷ p) = go (same b (take a t.0)) refl (split b p)
    where
      go : (o : Bool) → same b (take a t.0) ≡ o
          → of p ≡ K.add (of (raised b (part a b p))) (of (others a b p))
          → of (t ∷ p)
          ≡ K.add (of (raised b (cond o ((drop a t.0, t.1) ∷ part a b p) (part a b p))))
          (of (cond o (others a b p) (t ∷ others a b p)))
      go true e ih =
          let at : b ++ drop a t.0 ≡ t.0 =
          ap (λ x. x ++ drop a t.0) (same_true b (take a t.0) e) ∙ take-append-drop a t.0 in
          first t p ∙ ap (K.add (of (t ∷ []))) ih
          ∙ sym (K.add_assoc (of (t ∷ [])) (of (raised b (part a b p))) (of (others a b p)))
          ∙ ap (λ x. K.add x (of (others a b p))) (sym (first t (raised b (part a b p)))
          ∙ ap (λ (x : List ℕ). of ((x, t.1) ∷ raised b (part a b p))) (sym at))
      go false e ih =
          first t p ∙ ap (K.add (of (t ∷ []))) ih
          ∙ left_comm K (of (t ∷ [])) (of (raised b (part a b p))) (of (others a b p))
          ∙ ap (K.add (of (raised b (part a b p)))) (sym (first t (others a b p)))

others_arity : (a m : ℕ) (b : List ℕ) (p : Terms Fraction) → Arity m p → Arity m (others a b p)
unfolding Each others
others_arity a m b [] h = tt
others_arity a m b (t ∷ p) h = go (same b (take a t.0)) (others_arity a m b p h.1)
  where
    go : (o : Bool) → Arity m (others a b p)
        → Arity m (cond o (others a b p) (t ∷ others a b p))
    go true k = k
    go false k = (h.0, k)

others_fewer : (a : ℕ) (b : List ℕ) (p : Terms Fraction) → length (others a b p) ≤ length p
unfolding others
others_fewer a b [] = omega arith
others_fewer a b (t ∷ p) = go (same b (take a t.0)) (others_fewer a b p)
  where
    go : (o : Bool) → length (others a b p) ≤ length p
        → length (cond o (others a b p) (t ∷ others a b p)) ≤ suc (length p)
    go true k = omega (arith, k)
    go false k = omega (arith, k)

others_first : (a : ℕ) (t : List ℕ × Fraction) (p : Terms Fraction)
    → others a (take a t.0) (t ∷ p) ≡ others a (take a t.0) p
unfolding others
others_first a t p =
    ap (λ o. cond o (others a (take a t.0) p) (t ∷ others a (take a t.0) p))
    (same_refl (take a t.0))

-- the parts of the others
part_none : (a : ℕ) (b : List ℕ) (p : Terms Fraction) → part a b (others a b p) ≡ []
unfolding part others
part_none a b [] = refl
part_none a b (t ∷ p) = go (same b (take a t.0)) refl (part_none a b p)
  where
    go : (o : Bool) → same b (take a t.0) ≡ o → part a b (others a b p) ≡ []
        → part a b (cond o (others a b p) (t ∷ others a b p)) ≡ []
    go true e ih = ih
    go false e ih =
        ap (λ o. cond o ((drop a t.0, t.1) ∷ part a b (others a b p)) (part a b (others a b p))) e
        ∙ ih

part_other : (a : ℕ) (b c : List ℕ) (p : Terms Fraction) → same c b ≡ false
    → part a c (others a b p) ≡ part a c p
unfolding part others
part_other a b c [] n = refl
part_other a b c (t ∷ p) n =
    go (same b (take a t.0)) refl (same c (take a t.0)) refl (part_other a b c p n)
  where
    go : (o : Bool) → same b (take a t.0) ≡ o → (u : Bool) → same c (take a t.0) ≡ u
        → part a c (others a b p) ≡ part a c p
        → part a c (cond o (others a b p) (t ∷ others a b p))
        ≡ cond (same c (take a t.0)) ((drop a t.0, t.1) ∷ part a c p) (part a c p)
    go true e true h ih =
        absurd (true≢false (sym h ∙ ap (same c) (sym (same_true b (take a t.0) e)) ∙ n))
    go true e false h ih =
        ih ∙ sym (ap (λ u. cond u ((drop a t.0, t.1) ∷ part a c p) (part a c p)) h)
    go false e u h ih = ap (λ q. cond (same c (take a t.0)) ((drop a t.0, t.1) ∷ q) q) ih

module _ (a n : ℕ) (gs : List (Terms Fraction)) (ga : AllArity n gs) where
  abbrev hs : List (Terms Fraction)
  hs = map (in_front a) gs

  ha : AllArity (a + n) hs
  ha = arity-padded a n gs ga

  power_of : List ℕ → Terms Fraction
  power_of b = (b ++ replicate n 0, ℚ.one) ∷ []

  raised_member : (b : List ℕ) (q : Terms Fraction) → length b ≡ a → Arity n q
      → IsMember ℚ n gs q → IsMember ℚ (a + n) hs (raised b q)
  unfolding Each power_of Algebra.times
  raised_member b q l h i =
      let long : length (b ++ replicate n 0) ≡ a + n =
      length-append b (replicate n 0) ∙ ap₂ ◌+◌ l (length-replicate n 0) in
      member_same (a + n) hs (times ℚ (power_of b) (in_front a q)) (raised b q)
      (subst (λ x. Same ℚ (raised b q) (x ++ [])) (sym (shift_raised a n b q l h))
      (subst (Same ℚ (raised b q)) (sym (append-nil (raised b q))) (Same-refl ℚ (raised b q))))
      (member_times (a + n) hs ha (power_of b) (in_front a q) (long, tt) (arity-pad a n q h)
      (front_member a n gs q ga h i))

  raised_arity : (b : List ℕ) (q : Terms Fraction) → length b ≡ a → Arity n q
      → Arity (a + n) (raised b q)
  unfolding Each raised retold
  raised_arity b [] l h = tt
  raised_arity b (t ∷ q) l h = (length-append b t.0 ∙ ap₂ ◌+◌ l h.0, raised_arity b q l h.1)

  assemble : (k : ℕ) (p : Terms Fraction) → length p ≤ k → Arity (a + n) p
      → ((b : List ℕ) → length b ≡ a → IsMember ℚ n gs (part a b p))
      → IsMember ℚ (a + n) hs p
  unfolding Each
  assemble k [] l h i = member_nil (a + n) hs
  assemble zero (t ∷ p) l h i = absurd (omega arith)
  assemble (suc k) (t ∷ p) l h i =
      let b = take a t.0 in
      let lb : length b ≡ a = length-front a n t.0 h.0 in
      let q = part a b (t ∷ p) in
      let qa = part_arity a n b (t ∷ p) h in
      let r = others a b (t ∷ p) in
      let ra = others_arity a (a + n) b (t ∷ p) h in
      let few : length r ≤ k =
      subst (λ x. length x ≤ k) (sym (others_first a t p))
      (let m = others_fewer a b p in omega (arith, m, l)) in
      member_same (a + n) hs (raised b q ++ r) (t ∷ p)
      (same_from_poly (a + n) ℚ_ring (t ∷ p) (raised b q ++ r) h
      (arity-append (a + n) (raised b q) r (raised_arity b q lb qa) ra)
      (split a n b (t ∷ p) ∙ sym (poly-append (a + n) ℚ_ring (raised b q) r)))
      (member_append (a + n) hs ha (raised b q) r (raised_arity b q lb qa) ra
      (raised_member b q lb qa (i b lb))
      (assemble k r few ra (λ c lc. rest_part b (t ∷ p) i c lc)))
    where
      rest_part : (b : List ℕ) (p : Terms Fraction)
          → ((b : List ℕ) → length b ≡ a → IsMember ℚ n gs (part a b p))
          → (c : List ℕ) → length c ≡ a → IsMember ℚ n gs (part a c (others a b p))
      rest_part b p i c lc = go (same c b) refl
        where
          go : (o : Bool) → same c b ≡ o → IsMember ℚ n gs (part a c (others a b p))
          go true e =
              subst (λ x. IsMember ℚ n gs (part a x (others a b p))) (sym (same_true c b e))
              (subst (IsMember ℚ n gs) (sym (part_none a b p)) (member_nil n gs))
          go false e = subst (IsMember ℚ n gs) (sym (part_other a b c p e)) (i c lc)

  pub assembled : (p : Terms Fraction) → Arity (a + n) p
      → ((b : List ℕ) → length b ≡ a → IsMember ℚ n gs (part a b p))
      → IsMember ℚ (a + n) (map (in_front a) gs) p
  assembled p h i = let l : length p ≤ length p = omega arith in assemble (length p) p l h i
