-- Independence: an exponential polynomial whose value at every N lies in an ideal has its coefficients there.
--   IsChar0 F             the field F has characteristic 0
--   positive, of_nat_same     a natural number above zero isn't zero in F, and different ones are different in F
--   number bs x           the number of the key x: a sign by s, times the powers of bs by u, over those by v
--   size bs x             its part in u and v; number-ne-zero: it isn't zero
--   value n t             the value of a term at n; number-power: that of the monomial x in s, u and v is the power n of its number
--   key_test              a test whether two keys are the same
--   coefficient x a ts    the coefficient of the monomial with the exponents x of s, u and v and the exponent a of n in the terms ts
--   coefficient_in        where all values lie in the ideal, each coefficient does
use Rattle.std.proofs.Common.{◌≡◌, ◌≢◌, inl, inr, cond, ℕ, zero, suc, ◌+◌, ◌*◌, ◌<◌, List, [], ◌∷◌, map, refl, sym, ap, ap₂, subst, ◌∙◌, arith}
use Rattle.algebra.specs.Each.{Each}
use Rattle.algebra.specs.In.{In}
use Rattle.exponentials.specs.Base.{Coprime, product}
use Rattle.algebra.specs.Arithmetic.{power}
use Rattle.algebra.specs.Ring.{Hom, CommRing, Field, operations, of_nat}
use Rattle.algebra.specs.Sum.{sum_over}
use Rattle.algebra.proofs.RingLaws as L
use Rattle.algebra.proofs.FieldLaws as FL
use native.Mathlib.Nat as N
use Rattle.algebra.proofs.OfInt.{of_nat-mul, of_nat-add}
use Rattle.algebra.proofs.RingSolver.{ring_rules, ring, from_one}
use Rattle.algebra.proofs.Each.{each-map}
use Rattle.algebra.proofs.In.{each_in, each_from, map-in}
use Rattle.exponentials.proofs.Lists.{Test, sum_alike}
use Rattle.exponentials.proofs.Flat.{IsIdeal, Cancels, Within}
use Rattle.exponentials.proofs.Flat as Flat
use Rattle.exponentials.specs.Table.{alike}
use Rattle.exponentials.proofs.Terms.{expo, expo_in}
use Rattle.polynomials.specs.Exponent.{plus}
use Rattle.exponentials.proofs.Powers.{exponents_same, product-plus, product-pos, plus-fits, disjoint_same}
use Rattle.polynomials.specs.Terms.{monomial_at}
use Rattle.exponentials.proofs.Monomial.{monomial-powers, of_nat-product, to-monomial, to-nat, power-mul, power-one, power-power, power_inverse}
use Rattle.algebra.proofs.Homs.{to-neg as to_neg, to-power}
use Rattle.polynomials.specs.Algebra.{Monomials, IsMonoid}
use Rattle.polynomials.specs.Exponent.{exponents}
use Rattle.polynomials.proofs.Exponent.{exponents_monoid}
use Rattle.polynomials.proofs.Products.{numbers, numbers_monoid, pairs, pairs_monoid}
use Rattle.exponentials.specs.Keys.{Key, IsNormalKey}

-- no whole number above zero is zero
pub record IsChar0 {K : Type 0} (F : Field K) : Type 0 where
  pub whole : (n : ℕ) → of_nat F.ring (suc n) ≢ F.zero

-- ---- the test of exponents of s, u and v, from their monoid
keys : Monomials (ℕ × (List ℕ × List ℕ))
keys = pairs numbers (pairs exponents exponents)

keys_monoid : IsMonoid (pairs numbers (pairs exponents exponents))
keys_monoid = pairs_monoid numbers (pairs exponents exponents) numbers_monoid
    (pairs_monoid exponents exponents exponents_monoid exponents_monoid)

pub key_test : Test Key
unfolding keys
key_test = record {
  same = λ x y. keys.same (x.0, (x.1, x.2)) (y.0, (y.1, y.2));
  same_true = λ x y h. let e = keys_monoid.same_true (x.0, (x.1, x.2)) (y.0, (y.1, y.2)) h in
      λ i. ((e i).0, (e i).1.0, (e i).1.1);
  same_refl = λ x. keys_monoid.same_refl (x.0, (x.1, x.2));
}

-- ---- the numbers in a field
module _ {K : Type 0} (F : Field K) (char : IsChar0 F) where
  pub of_nat_same : (m n : ℕ) → of_nat F.ring m ≡ of_nat F.ring n → m ≡ n
  of_nat_same zero zero e = refl
  of_nat_same zero (suc n) e = absurd (char.whole n (sym e))
  of_nat_same (suc m) zero e = absurd (char.whole m e)
  of_nat_same (suc m) (suc n) e =
      ap suc (of_nat_same m n (L.add_cancel F.ring F.one (of_nat F.ring m) (of_nat F.ring n) e))

  pub positive : (n : ℕ) → 0 < n → of_nat F.ring n ≢ F.zero
  positive zero h = absurd (omega arith)
  positive (suc n) h = char.whole n

  -- the number of exponents u and v: the product of the b^u over that of the b^v
  abbrev pub over : ℕ → K
  over b = F.inverse (of_nat F.ring b)

  -- the part of u and v in it
  abbrev pub size : List ℕ → Key → K
  size bs x = F.mul (monomial_at (operations F.ring) (map (of_nat F.ring) bs) x.1)
      (monomial_at (operations F.ring) (map over bs) x.2)

  abbrev pub sign : ℕ → K
  sign n = power (operations F.ring) (F.neg F.one) n

  abbrev pub number : List ℕ → Key → K
  number bs x = F.mul (sign x.0) (size bs x)

  undo : (b n : ℕ) → 0 < b → F.mul (power (operations F.ring) (over b) n)
      (power (operations F.ring) (of_nat F.ring b) n) ≡ F.one
  undo b n h =
      sym (power-mul F.ring (over b) (of_nat F.ring b) n)
      ∙ ap (λ z. power (operations F.ring) z n) (F.mul_comm (over b) (of_nat F.ring b)
      ∙ F.mul-inverse (of_nat F.ring b) (positive b h)) ∙ power-one F.ring n

  undo_all : (bs e : List ℕ) → Coprime bs → F.mul (monomial_at (operations F.ring) (map over bs) e)
      (monomial_at (operations F.ring) (map (of_nat F.ring) bs) e) ≡ F.one
  unfolding monomial_at
  undo_all [] e c = L.one-mul F.ring F.one
  undo_all (b ∷ bs) [] c = L.one-mul F.ring F.one
  undo_all (b ∷ bs) (n ∷ e) c =
      L.mul_swap F.ring (power (operations F.ring) (over b) n) (monomial_at (operations F.ring)
      (map over bs) e) (power (operations F.ring) (of_nat F.ring b) n)
      (monomial_at (operations F.ring) (map (of_nat F.ring) bs) e)
      ∙ ap₂ F.mul (undo b n (let big : 1 < b = c.0 in omega arith)) (undo_all bs e c.2)
      ∙ L.one-mul F.ring F.one

  number-times : (bs : List ℕ) (x : Key) → Coprime bs
      → F.mul (size bs x) (of_nat F.ring (product bs x.2)) ≡ of_nat F.ring (product bs x.1)
  number-times bs x c =
      let p = monomial_at (operations F.ring) (map (of_nat F.ring) bs) x.1 in
      ap (F.mul (size bs x)) (of_nat-product F.ring bs x.2)
      ∙ F.mul_assoc p (monomial_at (operations F.ring) (map over bs) x.2)
      (monomial_at (operations F.ring) (map (of_nat F.ring) bs) x.2)
      ∙ ap (F.mul p) (undo_all bs x.2 c) ∙ F.ring.mul-one p ∙ sym (of_nat-product F.ring bs x.1)

  size-ne-zero : (bs : List ℕ) (x : Key) → Coprime bs → size bs x ≢ F.zero
  size-ne-zero bs x c e =
      positive (product bs x.1) (product-pos bs x.1 c)
      (sym (number-times bs x c) ∙ ap (λ z. F.mul z (of_nat F.ring (product bs x.2))) e
      ∙ L.zero-mul F.ring (of_nat F.ring (product bs x.2)))

  sign_squared : (n : ℕ) → F.mul (sign n) (sign n) ≡ F.one
  sign_squared n = power_inverse F.ring (F.neg F.one) (F.neg F.one) n (L.minus_squared F.ring)

  sign-ne-zero : (n : ℕ) → sign n ≢ F.zero
  sign-ne-zero n e = F.one-ne-zero (sym (sign_squared n) ∙ ap (λ z. F.mul z (sign n)) e
      ∙ L.zero-mul F.ring (sign n))

  pub number-ne-zero : (bs : List ℕ) (x : Key) → Coprime bs → number bs x ≢ F.zero
  number-ne-zero bs x c = FL.product-ne-zero F (sign x.0) (size bs x) (sign-ne-zero x.0)
      (size-ne-zero bs x c)

  cross : (x y p q p' q' : K) → F.mul x q ≡ p → F.mul y q' ≡ p' → x ≡ y → F.mul p q' ≡ F.mul p' q
  cross x y p q p' q' h h' e =
      ap (λ z. F.mul z q') (sym h) ∙ ap (λ z. F.mul (F.mul z q) q') e
      ∙ ring F.ring (y ∷ q ∷ q' ∷ []) (search ring_rules depth 40) refl ∙ ap (λ z. F.mul z q) h'

  -- different exponents have different numbers
  size_same : (bs : List ℕ) → Coprime bs → (x y : Key) → IsNormalKey bs x → IsNormalKey bs y
      → size bs x ≡ size bs y → (x.1 ≡ y.1) × (x.2 ≡ y.2)
  size_same bs c x y g h e =
      let wholes : product bs x.1 * product bs y.2 ≡ product bs y.1 * product bs x.2 =
      of_nat_same (product bs x.1 * product bs y.2) (product bs y.1 * product bs x.2)
      (of_nat-mul F.ring (product bs x.1) (product bs y.2)
      ∙ cross (size bs x) (size bs y) (of_nat F.ring (product bs x.1))
      (of_nat F.ring (product bs x.2)) (of_nat F.ring (product bs y.1))
      (of_nat F.ring (product bs y.2)) (number-times bs x c) (number-times bs y c) e
      ∙ sym (of_nat-mul F.ring (product bs y.1) (product bs x.2))) in
      let sums : plus x.1 y.2 ≡ plus y.1 x.2 =
      exponents_same bs c (plus x.1 y.2) (plus y.1 x.2) (plus-fits bs x.1 y.2 g.1 h.2)
      (plus-fits bs y.1 x.2 h.1 g.2)
      (product-plus bs x.1 y.2 ∙ wholes ∙ sym (product-plus bs y.1 x.2)) in
      disjoint_same bs x.1 x.2 y.1 y.2 g.1 g.2 h.1 h.2 g.3 h.3 sums

  -- and so have different signs: the sizes are above zero
  size_apart : (bs : List ℕ) → Coprime bs → (x y : Key) → F.add (size bs x) (size bs y) ≢ F.zero
  size_apart bs c x y e =
      let p = of_nat F.ring (product bs x.1) in
      let q = of_nat F.ring (product bs x.2) in
      let p' = of_nat F.ring (product bs y.1) in
      let q' = of_nat F.ring (product bs y.2) in
      let none : F.add (F.mul p q') (F.mul p' q) ≡ F.zero = cleared (size bs x) (size bs y) p q p'
      q' (number-times bs x c) (number-times bs y c) e in
      positive (product bs x.1 * product bs y.2 + product bs y.1 * product bs x.2)
      (let z : 0 < product bs x.1 * product bs y.2 = N.mul-pos (product-pos bs x.1 c)
      (product-pos bs y.2 c) in omega (arith, z))
      (of_nat-add F.ring (product bs x.1 * product bs y.2) (product bs y.1 * product bs x.2)
      ∙ ap₂ F.add (of_nat-mul F.ring (product bs x.1) (product bs y.2))
      (of_nat-mul F.ring (product bs y.1) (product bs x.2)) ∙ none)
    where
      cleared : (x y p q p' q' : K) → F.mul x q ≡ p → F.mul y q' ≡ p' → F.add x y ≡ F.zero
          → F.add (F.mul p q') (F.mul p' q) ≡ F.zero
      cleared x y p q p' q' h h' e =
          ap₂ (λ a b. F.add (F.mul a q') (F.mul b q)) (sym h) (sym h')
          ∙ from_one F.ring (F.mul q q') e (ring F.ring (x ∷ y ∷ q ∷ q' ∷ [])
          (search ring_rules depth 40) refl)

  pub number_same : (bs : List ℕ) → Coprime bs → (x y : Key) → IsNormalKey bs x → IsNormalKey bs y
      → number bs x ≡ number bs y → x ≡ y
  unfolding power
  number_same bs c x y g h e = go x.0 y.0 refl refl g.0 h.0
    where
      done : x.0 ≡ y.0 → size bs x ≡ size bs y → x ≡ y
      done a f = let r = size_same bs c x y g h f in λ i. (a i, r.0 i, r.1 i)

      told : (m n : ℕ) → x.0 ≡ m → y.0 ≡ n → F.mul (sign m) (size bs x) ≡ F.mul (sign n) (size bs y)
      told m n a b = ap (λ k. F.mul (sign k) (size bs x)) (sym a) ∙ e
          ∙ ap (λ k. F.mul (sign k) (size bs y)) b

      opposite : (a b : K) → F.mul F.one a ≡ F.mul (F.mul (F.neg F.one) F.one) b
          → F.add a b ≡ F.zero
      opposite a b f =
          from_one F.ring F.one f (ring F.ring (a ∷ b ∷ []) (search ring_rules depth 40) refl)

      minus_same : (a b : K) → F.mul (F.mul (F.neg F.one) F.one) a
          ≡ F.mul (F.mul (F.neg F.one) F.one) b → a ≡ b
      minus_same a b f = from_one F.ring (F.neg F.one) f
          (ring F.ring (a ∷ b ∷ []) (search ring_rules depth 40) refl)

      go : (m n : ℕ) → x.0 ≡ m → y.0 ≡ n → m < 2 → n < 2 → x ≡ y
      go zero zero a b l k = done (a ∙ sym b) (sym (L.one-mul F.ring (size bs x)) ∙ told 0 0 a b
          ∙ L.one-mul F.ring (size bs y))
      go zero (suc zero) a b l k =
          absurd (size_apart bs c x y (opposite (size bs x) (size bs y) (told 0 1 a b)))
      go (suc zero) zero a b l k =
          absurd (size_apart bs c y x (opposite (size bs y) (size bs x) (sym (told 1 0 a b))))
      go (suc zero) (suc zero) a b l k =
          done (a ∙ sym b) (minus_same (size bs x) (size bs y) (told 1 1 a b))
      go (suc (suc m)) n a b l k = absurd (omega arith)
      go zero (suc (suc n)) a b l k = absurd (omega arith)
      go (suc zero) (suc (suc n)) a b l k = absurd (omega arith)

-- ---- exponential polynomials over a ring that holds the field
module _ {K A : Type 0} (F : Field K) (char : IsChar0 F) (R : CommRing A) (φ : Hom F.ring R) (S : A
    → Type 0) (I : IsIdeal R S) where
  pub cancels_constant : (k : K) → k ≢ F.zero → Cancels R S (φ.to k)
  cancels_constant k ne = record {
    out = λ x p. Flat.moved R S I
        (sym (R.mul_assoc (φ.to (F.inverse k)) (φ.to k) x)
        ∙ ap (λ z. R.mul z x) (sym (φ.to-mul (F.inverse k) k) ∙ ap φ.to (F.mul_comm (F.inverse k) k
        ∙ F.mul-inverse k ne) ∙ φ.to-one) ∙ L.one-mul R x)
        (I.mul_in (φ.to (F.inverse k)) (R.mul (φ.to k) x) p);
  }

  module _ (bs : List ℕ) (c : Coprime bs) {W : Type 0} (deg : W → ℕ) (key : W → Key) (coef : W
      → A) where
    -- the values of u and v at n
    abbrev pub u_at : ℕ → List A
    u_at n = map (λ b. power (operations R) (φ.to (of_nat F.ring b)) n) bs

    abbrev pub v_at : ℕ → List A
    v_at n = map (λ b. power (operations R) (φ.to (F.inverse (of_nat F.ring b))) n) bs

    -- and of s
    abbrev pub s_at : ℕ → A
    s_at n = power (operations R) (R.neg R.one) n

    -- the value of the monomial in s, u and v
    abbrev pub key_at : ℕ → Key → A
    key_at n x = R.mul (power (operations R) (s_at n) x.0)
        (R.mul (monomial_at (operations R) (u_at n) x.1) (monomial_at (operations R) (v_at n) x.2))

    abbrev pub value : ℕ → W → A
    value n t = R.mul (coef t) (R.mul (power (operations R) (of_nat R n) (deg t))
        (key_at n (key t)))

    abbrev base_of : Key → A
    base_of x = φ.to (number F char bs x)

    -- the power of a number is its monomial's value
    pub number-power : (n : ℕ) (x : Key)
        → key_at n x ≡ power (operations R) (φ.to (number F char bs x)) n
    unfolding Each
    number-power n x =
        let p = monomial_at (operations F.ring) (map (of_nat F.ring) bs) x.1 in
        let q = monomial_at (operations F.ring) (map (λ b. F.inverse (of_nat F.ring b)) bs) x.2 in
        ap₂ R.mul
        (power-power R (R.neg R.one) x.0 n
        ∙ ap (λ z. power (operations R) (power (operations R) z x.0) n) (ap R.neg (sym φ.to-one)
        ∙ sym (to_neg φ F.one))
        ∙ ap (λ z. power (operations R) z n) (sym (to-power φ (F.neg F.one) x.0)))
        (ap₂ R.mul
        (monomial-powers R (λ b. φ.to (of_nat F.ring b)) n bs x.1
        ∙ ap (λ z. power (operations R) z n) (sym (to-monomial φ (of_nat F.ring) bs x.1)))
        (monomial-powers R (λ b. φ.to (F.inverse (of_nat F.ring b))) n bs x.2
        ∙ ap (λ z. power (operations R) z n)
        (sym (to-monomial φ (λ b. F.inverse (of_nat F.ring b)) bs x.2)))
        ∙ sym (power-mul R (φ.to p) (φ.to q) n)
        ∙ ap (λ z. power (operations R) z n) (sym (φ.to-mul p q)))
        ∙ sym (power-mul R (φ.to (power (operations F.ring) (F.neg F.one) x.0)) (φ.to (F.mul p q))
        n) ∙ ap (λ z. power (operations R) z n)
        (sym (φ.to-mul (power (operations F.ring) (F.neg F.one) x.0) (F.mul p q)))

    value-is : (n : ℕ) (t : W)
        → value n t ≡ R.mul (coef t) (R.mul (power (operations R) (of_nat R n) (deg t))
        (power (operations R) (base_of (key t)) n))
    value-is n t = ap (λ z. R.mul (coef t) (R.mul (power (operations R) (of_nat R n) (deg t)) z))
        (number-power n (key t))

    whole : (n : ℕ) → Cancels R S (of_nat R (suc n))
    whole n = subst (Cancels R S) (to-nat φ (suc n)) (cancels_constant (of_nat F.ring (suc n))
        (char.whole n))

    unit : (x : Key) → Cancels R S (base_of x)
    unit x = cancels_constant (number F char bs x) (number-ne-zero F char bs x c)

    apart : (keys : List Key) → Each (IsNormalKey bs) keys → (x y : Key) → In x keys → In y keys
        → x ≢ y → Cancels R S (R.add (base_of x) (R.neg (base_of y)))
    apart keys g x y i j ne =
        let nx = number F char bs x in
        let ny = number F char bs y in
        subst (Cancels R S) (φ.to-add nx (F.neg ny) ∙ ap (R.add (φ.to nx)) (to_neg φ ny))
        (cancels_constant (F.add nx (F.neg ny))
        (λ e. ne (number_same F char bs c x y (each_in (IsNormalKey bs) keys x g i)
        (each_in (IsNormalKey bs) keys y g j) (L.eq_of_sub F.ring nx ny e))))

    values : (ts : List W) → Within S (λ n. sum_over (operations R) (value n) ts)
        → Within S (expo R S I key_test base_of deg key coef ts)
    values ts h n =
        Flat.moved R S I (sum_alike R (value n)
        (λ t. R.mul (coef t) (R.mul (power (operations R) (of_nat R n) (deg t))
        (power (operations R) (base_of (key t)) n))) ts (value-is n)) (h n)

    -- the coefficient of the monomial in n, u and v: the sum of those of the terms that have it
    abbrev pub coefficient : Key → ℕ → List W → A
    coefficient x a ts = sum_over (operations R)
        (λ t. cond (alike (deg t) a) (cond (key_test.same x (key t)) (coef t) R.zero) R.zero) ts

    -- any list of terms: each coefficient lies in S
    pub coefficient_in : (ts : List W) → Each (λ t. IsNormalKey bs (key t)) ts
        → Within S (λ n. sum_over (operations R) (value n) ts)
        → (x : Key) → IsNormalKey bs x → (a : ℕ) → S (coefficient x a ts)
    unfolding Each
    coefficient_in ts g h x gx a =
        expo_in R S I key_test base_of deg key coef (x ∷ map key ts) ts
        (each_from ts (λ t j. inr (map-in key ts t j))) whole unit
        (apart (x ∷ map key ts) (gx, each-map (IsNormalKey bs) key ts g)) (values ts h) x (inl refl)
        a
