-- Rows that are independent modulo a number are so over the fractions.
--   residue_none         0 is the residue of 0
--   residue_zero, residue_scale, residue_add     residues of 0 are multiples; of multiples and sums
--   residue_dot          of a combination with whole numbers
--   whole_zero           whole numbers whose combinations with the values are 0 are 0
--   scaled               fractions times some whole number that isn't 0 are whole
--   fractions_zero       so are fractions
use Rattle.std.proofs.Common.{◌≡◌, ◌≢◌, inl, inr, ℕ, zero, suc, ◌+◌, ◌*◌, ◌≤◌, ℤ, pos, ◌+ℤ◌, ◌*ℤ◌, neg_ℤ, unsigned_abs, List, [], ◌∷◌, map, length, refl, sym, ap, ap₂, subst, ◌∙◌, arith}
use Rattle.std.proofs.lemmas.List.{length-map}
use Rattle.std.proofs.lemmas.Int.{unsigned_abs-mul}
use Rattle.std.proofs.Math.Nat.{mul-add, mul-le-mul_right}
use Rattle.algebra.specs.Each.{Each}
use Rattle.algebra.specs.In.{In}
use Rattle.algebra.specs.Ring.{CommRing, operations}
use Rattle.algebra.proofs.Basics.{abs_zero}
use Rattle.algebra.proofs.FieldLaws as FL
use Rattle.algebra.proofs.In.{each_from}
use Rattle.algebra.proofs.IntRing.{ℤ_ring}
use Rattle.algebra.proofs.RingLaws.{mul-zero}
use Rattle.algebra.proofs.RingSolver.{ring, ring_rules}
use Rattle.algebra.specs.Fraction.{Fraction, ℚ, whole}
use Rattle.algebra.proofs.Fractions.{ℚ_ring, ℚ_field, some}
use Rattle.algebra.proofs.Wholes.{whole_injective, whole-some, sum-whole, product-whole}
use Rattle.polynomials.specs.Terms.{sum_of_products}
use Rattle.ideals.specs.Ideal.{InIdeal}
use Rattle.ideals.proofs.Ideal.{in_ideal_same, in_ideal_zero, in_ideal_add, in_ideal_mul}
use Rattle.ideals.proofs.Congruence.{congruent_refl, congruent_same, congruent_mul}
use Rattle.vectors.proofs.FractionEigen.{times_bottom}
use Rattle.closures.specs.Modulo.{IsMultiple, IsResidueOf, AreResidues, IsIndependentModulo}
use Rattle.closures.proofs.Congruent.{quotient_of}

-- ---- identities of rings
module _ {A : Type 0} (R : CommRing A) where
  open R use {zero as 𝟘, one as 𝟙, add as ◌⊕◌, mul as ◌⊗◌, neg}

  infixl 60 ◌⊕◌
  infixl 70 ◌⊗◌
  undone : (a b i : A) → a ≡ neg i ⊗ (𝟘 ⊕ neg (b ⊗ a)) ⊕ neg a ⊗ (b ⊗ i ⊕ neg 𝟙)
  undone a b i = ring R (a ∷ b ∷ i ∷ []) (search ring_rules depth 40) refl

  scaled_difference : (z n b a : A) → z ⊗ n ⊕ neg (b ⊗ (z ⊗ a)) ≡ z ⊗ (n ⊕ neg (b ⊗ a))
  scaled_difference z n b a = ring R (z ∷ n ∷ b ∷ a ∷ []) (search ring_rules depth 40) refl

  sum_difference : (b c n k x y : A)
      → (c ⊗ n ⊕ b ⊗ k) ⊕ neg ((b ⊗ c) ⊗ (x ⊕ y))
      ≡ c ⊗ (n ⊕ neg (b ⊗ x)) ⊕ b ⊗ (k ⊕ neg (c ⊗ y))
  sum_difference b c n k x y = ring R (b ∷ c ∷ n ∷ k ∷ x ∷ y ∷ []) (search ring_rules depth 40) refl

  crossed : (b c i j : A) → (b ⊗ c) ⊗ (i ⊗ j) ≡ (b ⊗ i) ⊗ (c ⊗ j)
  crossed b c i j = ring R (b ∷ c ∷ i ∷ j ∷ []) (search ring_rules depth 40) refl

  sum_scaled : (b c f g : A) → (b ⊗ c) ⊗ (f ⊕ g) ≡ c ⊗ (b ⊗ f) ⊕ b ⊗ (c ⊗ g)
  sum_scaled b c f g = ring R (b ∷ c ∷ f ∷ g ∷ []) (search ring_rules depth 40) refl

  swapped : (b z f : A) → b ⊗ (z ⊗ f) ≡ z ⊗ (b ⊗ f)
  swapped b z f = ring R (b ∷ z ∷ f ∷ []) (search ring_rules depth 40) refl

  less_zero : (x : A) → 𝟘 ⊕ neg (𝟙 ⊗ 𝟘) ≡ 𝟘
  less_zero x = ring R (x ∷ []) (search ring_rules depth 40) refl

-- ---- residues
module _ (q : ℤ) where
  pub residue_zero : (a : ℤ) → IsResidueOf q ℚ.zero a → IsMultiple q a
  residue_zero a r =
      let e : r.number ≡ pos 0 =
      whole_injective r.number (pos 0) (sym r.is ∙ mul-zero ℚ_ring (whole r.by)) in
      let c : InIdeal ℤ_ring (q ∷ []) (pos 0 +ℤ neg_ℤ (r.by *ℤ a)) =
      subst (λ n. InIdeal ℤ_ring (q ∷ []) (n +ℤ neg_ℤ (r.by *ℤ a))) e r.congruent.difference in
      in_ideal_same ℤ_ring (undone ℤ_ring a r.by r.inverse)
      (in_ideal_add ℤ_ring (in_ideal_mul ℤ_ring (neg_ℤ r.inverse) c)
      (in_ideal_mul ℤ_ring (neg_ℤ a) r.invertible.difference))

  pub residue_none : IsResidueOf q ℚ.zero (pos 0)
  residue_none = record {
    by = pos 1;
    inverse = pos 1;
    invertible = congruent_same ℤ_ring (q ∷ []) (ℤ_ring.mul-one (pos 1)) refl
        (congruent_refl ℤ_ring (q ∷ []) (pos 1));
    number = pos 0;
    is = mul-zero ℚ_ring (whole (pos 1));
    congruent = record {
      difference = in_ideal_same ℤ_ring (less_zero ℤ_ring (pos 0)) (in_ideal_zero ℤ_ring);
    };
  }

  pub residue_scale : (z : ℤ) (f : Fraction) (a : ℤ) → IsResidueOf q f a
      → IsResidueOf q (ℚ.mul (whole z) f) (z *ℤ a)
  residue_scale z f a r = record {
    by = r.by;
    inverse = r.inverse;
    invertible = r.invertible;
    number = z *ℤ r.number;
    is = swapped ℚ_ring (whole r.by) (whole z) f ∙ ap (ℚ.mul (whole z)) r.is
        ∙ product-whole z r.number;
    congruent = record {
      difference = in_ideal_same ℤ_ring (scaled_difference ℤ_ring z r.number r.by a)
          (in_ideal_mul ℤ_ring z r.congruent.difference);
    };
  }

  pub residue_add : (f g : Fraction) (a b : ℤ) → IsResidueOf q f a → IsResidueOf q g b
      → IsResidueOf q (ℚ.add f g) (a +ℤ b)
  residue_add f g a b r s = record {
    by = r.by *ℤ s.by;
    inverse = r.inverse *ℤ s.inverse;
    invertible =
        congruent_same ℤ_ring (q ∷ []) (crossed ℤ_ring r.by s.by r.inverse s.inverse)
        (sym (ℤ_ring.mul-one (pos 1)))
        (congruent_mul ℤ_ring (q ∷ []) (r.by *ℤ r.inverse) (pos 1) (s.by *ℤ s.inverse) (pos 1)
        r.invertible s.invertible);
    number = s.by *ℤ r.number +ℤ r.by *ℤ s.number;
    is =
        ap (λ x. ℚ.mul x (ℚ.add f g)) (sym (product-whole r.by s.by))
        ∙ sum_scaled ℚ_ring (whole r.by) (whole s.by) f g
        ∙ ap₂ ℚ.add (ap (ℚ.mul (whole s.by)) r.is ∙ product-whole s.by r.number)
        (ap (ℚ.mul (whole r.by)) s.is ∙ product-whole r.by s.number)
        ∙ sum-whole (s.by *ℤ r.number) (r.by *ℤ s.number);
    congruent = record {
      difference =
          in_ideal_same ℤ_ring (sum_difference ℤ_ring r.by s.by r.number s.number a b)
          (in_ideal_add ℤ_ring (in_ideal_mul ℤ_ring s.by r.congruent.difference)
          (in_ideal_mul ℤ_ring r.by s.congruent.difference));
    };
  }

  abbrev dot : List ℤ → List Fraction → Fraction
  dot z fs = sum_of_products ℚ (map whole z) fs

  pub residue_dot : (z : List ℤ) (fs : List Fraction) (row : List ℤ) → AreResidues q fs row
      → IsResidueOf q (sum_of_products ℚ (map whole z) fs)
      (sum_of_products (operations ℤ_ring) z row)
  unfolding AreResidues sum_of_products
  residue_dot [] fs row h = residue_none
  residue_dot (x ∷ z) [] [] h = residue_none
  residue_dot (x ∷ z) [] (a ∷ row) h = absurd h
  residue_dot (x ∷ z) (f ∷ fs) [] h = absurd h
  residue_dot (x ∷ z) (f ∷ fs) (a ∷ row) h =
      residue_add (ℚ.mul (whole x) f) (dot z fs) (x *ℤ a)
      (sum_of_products (operations ℤ_ring) z row) (residue_scale x f a h.0)
      (residue_dot z fs row h.1)

-- ---- descent
pub size_of : List ℤ → ℕ
size_of [] = 0
size_of (x ∷ z) = unsigned_abs x + size_of z

size_none : (z : List ℤ) → size_of z ≤ 0 → Each (λ x. x ≡ pos 0) z
unfolding Each size_of
size_none [] l = tt
size_none (x ∷ z) l = (abs_zero x (omega arith), size_none z (omega arith))

times_q : ℤ → List ℤ → List ℤ
times_q q [] = []
times_q q (x ∷ z) = (q *ℤ x) ∷ times_q q z

record IsTimes (q : ℤ) (z : List ℤ) : Type 0 where
  quotients : List ℤ
  is : z ≡ times_q q quotients

all_quotients : (q : ℤ) (z : List ℤ) → Each (IsMultiple q) z → IsTimes q z
unfolding Each times_q
all_quotients q [] h = record { quotients = []; is = refl }
all_quotients q (x ∷ z) h =
    let (y, e) = quotient_of q x h.0 in
    let r = all_quotients q z h.1 in
    record { quotients = y ∷ r.quotients; is = ap₂ ◌∷◌ e r.is }

length-times : (q : ℤ) (z : List ℤ) → length (times_q q z) ≡ length z
unfolding times_q
length-times q [] = refl
length-times q (x ∷ z) = ap suc (length-times q z)

size-times : (q : ℤ) (z : List ℤ) → size_of (times_q q z) ≡ unsigned_abs q * size_of z
unfolding times_q size_of
size-times q [] = omega arith
size-times q (x ∷ z) =
    ap₂ ◌+◌ (unsigned_abs-mul q x) (size-times q z) ∙ sym (spread (unsigned_abs q))
  where
    spread : (k : ℕ) → k * (unsigned_abs x + size_of z)
        ≡ k * unsigned_abs x + k * size_of z
    spread k = mul-add k (unsigned_abs x) (size_of z)

zero-times : (q : ℤ) (z : List ℤ) → Each (λ x. x ≡ pos 0) z
    → Each (λ x. x ≡ pos 0) (times_q q z)
unfolding times_q Each
zero-times q [] h = tt
zero-times q (x ∷ z) h = (ap (λ y. q *ℤ y) h.0 ∙ mul-zero ℤ_ring q, zero-times q z h.1)

dot-times : (q : ℤ) (z : List ℤ) (fs : List Fraction)
    → sum_of_products ℚ (map whole (times_q q z)) fs
    ≡ ℚ.mul (whole q) (sum_of_products ℚ (map whole z) fs)
unfolding times_q sum_of_products
dot-times q [] fs = sym (mul-zero ℚ_ring (whole q))
dot-times q (x ∷ z) [] = sym (mul-zero ℚ_ring (whole q))
dot-times q (x ∷ z) (f ∷ fs) =
    ap₂ ℚ.add (ap (λ y. ℚ.mul y f) (sym (product-whole q x))
    ∙ ℚ_ring.mul_assoc (whole q) (whole x) f) (dot-times q z fs)
    ∙ sym (ℚ_ring.mul-add (whole q) (ℚ.mul (whole x) f) (sum_of_products ℚ (map whole z) fs))

-- half of a number that isn't 0 is less
halved : (k s n : ℕ) → 2 ≤ k → k * s ≤ suc n → s ≤ n
halved k s n l h =
    let twice : 2 * s ≤ k * s = mul-le-mul_right s l in
    omega (arith, twice, h)

-- ---- whole multiples of fractions
record IsScaled (c : List Fraction) : Type 0 where
  by : ℤ
  nonzero : whole by ≢ ℚ.zero
  numbers : List ℤ
  is : map (ℚ.mul (whole by)) c ≡ map whole numbers

more_scaled : (d by : ℤ) (c : List Fraction) (z : List ℤ)
    → map (ℚ.mul (whole by)) c ≡ map whole z
    → map (ℚ.mul (whole (d *ℤ by))) c ≡ map whole (map (λ x. d *ℤ x) z)
more_scaled d by c z e = first c ∙ ap (map (ℚ.mul (whole d))) e ∙ second z
  where
    first : (c : List Fraction)
        → map (ℚ.mul (whole (d *ℤ by))) c ≡ map (ℚ.mul (whole d)) (map (ℚ.mul (whole by)) c)
    first [] = refl
    first (x ∷ c) =
        ap₂ ◌∷◌ (ap (λ y. ℚ.mul y x) (sym (product-whole d by))
        ∙ ℚ_ring.mul_assoc (whole d) (whole by) x) (first c)

    second : (z : List ℤ) → map (ℚ.mul (whole d)) (map whole z)
        ≡ map whole (map (λ x. d *ℤ x) z)
    second [] = refl
    second (x ∷ z) = ap₂ ◌∷◌ (product-whole d x) (second z)

scaled : (c : List Fraction) → IsScaled c
scaled [] = record { by = pos 1; nonzero = whole-some 1 (omega arith); numbers = []; is = refl }
scaled (x ∷ c) =
    let r = scaled c in
    let d = pos x.den in
    record {
      by = d *ℤ r.by;
      nonzero = λ e. elim (FL.no_zero_divisors ℚ_field (whole d) (whole r.by)
          (product-whole d r.by ∙ e)) [
            | inl z ↦ whole-some x.den (some x) z
            | inr z ↦ r.nonzero z
          ];
      numbers = (r.by *ℤ x.num) ∷ map (λ y. d *ℤ y) r.numbers;
      is =
          ap₂ ◌∷◌ (ap (λ y. ℚ.mul y x) (ap whole (ℤ_ring.mul_comm d r.by)
          ∙ sym (product-whole r.by d)) ∙ ℚ_ring.mul_assoc (whole r.by) (whole d) x
          ∙ ap (ℚ.mul (whole r.by)) (times_bottom x) ∙ product-whole r.by x.num)
          (more_scaled d r.by c r.numbers r.is);
    }

sum_scaled_by : (a : Fraction) (c fs : List Fraction)
    → sum_of_products ℚ (map (ℚ.mul a) c) fs ≡ ℚ.mul a (sum_of_products ℚ c fs)
unfolding sum_of_products
sum_scaled_by a [] fs = sym (mul-zero ℚ_ring a)
sum_scaled_by a (x ∷ c) [] = sym (mul-zero ℚ_ring a)
sum_scaled_by a (x ∷ c) (f ∷ fs) =
    ap₂ ℚ.add (ℚ_ring.mul_assoc a x f) (sum_scaled_by a c fs)
    ∙ sym (ℚ_ring.mul-add a (ℚ.mul x f) (sum_of_products ℚ c fs))

zero_back : (by : ℤ) → whole by ≢ ℚ.zero → (c : List Fraction) (z : List ℤ)
    → map (ℚ.mul (whole by)) c ≡ map whole z → Each (λ x. x ≡ pos 0) z
    → Each (λ x. x ≡ ℚ.zero) c
unfolding Each
zero_back by n [] z e h = tt
zero_back by n (x ∷ c) [] e h = absurd (let l = ap length e in omega (arith, l))
zero_back by n (x ∷ c) (y ∷ z) e h =
    let first : ℚ.mul (whole by) x ≡ whole y = cc in
    let rest : map (ℚ.mul (whole by)) c ≡ map whole z = cc in (
      elim (FL.no_zero_divisors ℚ_field (whole by) x (first ∙ ap whole h.0)) [
        | inl w ↦ absurd (n w)
        | inr w ↦ w
      ],
      zero_back by n c z rest h.1,
    )

module _ (k : ℕ) (big : 2 ≤ k) (n : ℕ) (rows : List (List ℤ))
    (independent : IsIndependentModulo (pos k) n rows)
    (values : (row : List ℤ) → In row rows → List Fraction)
    (are : (row : List ℤ) (i : In row rows) → AreResidues (pos k) (values row i) row) where
  abbrev q : ℤ
  q = pos k

  abbrev AreZero : List ℤ → Type 0
  AreZero z = (row : List ℤ) (i : In row rows)
      → sum_of_products ℚ (map whole z) (values row i) ≡ ℚ.zero

  multiples : (z : List ℤ) → length z ≡ n → AreZero z → Each (IsMultiple q) z
  multiples z l h =
      independent.none z l
      (each_from rows (λ row i. residue_zero q (sum_of_products (operations ℤ_ring) z row)
      (subst (λ f. IsResidueOf q f (sum_of_products (operations ℤ_ring) z row)) (h row i)
      (residue_dot q z (values row i) row (are row i)))))

  cancelled : (z : List ℤ) → AreZero (times_q q z) → AreZero z
  cancelled z h row i =
      elim (FL.no_zero_divisors ℚ_field (whole q)
      (sum_of_products ℚ (map whole z) (values row i))
      (sym (dot-times q z (values row i)) ∙ h row i)) [
        | inl e ↦ absurd (whole-some k (omega arith) e)
        | inr e ↦ e
      ]

  pub whole_zero : (b : ℕ) (z : List ℤ) → size_of z ≤ b → length z ≡ n → AreZero z
      → Each (λ x. x ≡ pos 0) z
  whole_zero zero z s l h = size_none z s
  whole_zero (suc b) z s l h =
      let t = all_quotients q z (multiples z l h) in
      let e : unsigned_abs q * size_of t.quotients ≤ suc b =
      subst (λ x. x ≤ suc b) (ap size_of t.is ∙ size-times q t.quotients) s in
      subst (λ y. Each (λ x. x ≡ pos 0) y) (sym t.is)
      (zero-times q t.quotients
      (whole_zero b t.quotients (halved k (size_of t.quotients) b big e)
      (sym (length-times q t.quotients) ∙ ap length (sym t.is) ∙ l)
      (cancelled t.quotients (subst AreZero t.is h))))

  -- ---- fractions
  pub fractions_zero : (c : List Fraction) → length c ≡ n
      → ((row : List ℤ) (i : In row rows) → sum_of_products ℚ c (values row i) ≡ ℚ.zero)
      → Each (λ x. x ≡ ℚ.zero) c
  fractions_zero c l h =
      let s = scaled c in
      zero_back s.by s.nonzero c s.numbers s.is
      (whole_zero (size_of s.numbers) s.numbers (omega arith)
      (sym (length-map s.numbers whole) ∙ ap length (sym s.is)
      ∙ length-map c (ℚ.mul (whole s.by)) ∙ l)
      (λ row i. ap (λ z. sum_of_products ℚ z (values row i)) (sym s.is)
      ∙ sum_scaled_by (whole s.by) c (values row i) ∙ ap (ℚ.mul (whole s.by)) (h row i)
      ∙ mul-zero ℚ_ring (whole s.by)))
