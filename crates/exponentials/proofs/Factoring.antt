-- The exponents of a number over a coprime base, by division alone.
--   disjoint-coprime   products with disjoint exponents have no common divisor
--   fraction_made      a fraction in lowest terms that is the quotient of two such products has them for its numerator and its denominator
--   Taken b x          x is the power `times` of b, times a number `left` that b doesn't divide
--   taken-product      for a product of powers of a coprime base, the first exponent and the product of the other powers
use Rattle.std.proofs.Common.{◌≡◌, ◌⊎◌, inl, inr, ℕ, zero, suc, ◌*◌, ◌^◌, ◌<◌, List, [], ◌∷◌, refl, sym, ap, subst, ◌∙◌, arith}
use Rattle.exponentials.proofs.Coprimes.{power_none, power_apart}
use Rattle.exponentials.specs.Base.{Coprime, Disjoint, product}
use Prim.Native.Nat.{◌∣◌}
use native.Mathlib.Nat as N
use Rattle.algebra.specs.Gcd.{gcd}
use Rattle.algebra.proofs.GcdLaws as G
use Rattle.exponentials.proofs.Coprimes as C
use Rattle.exponentials.proofs.PowerProducts.{coprime_product}

-- products of disjoint exponents have no common divisor
pub disjoint-coprime : (bs d e : List ℕ) → Coprime bs → Disjoint d e
    → gcd (product bs d) (product bs e) ≡ 1
disjoint-coprime [] d e c p = C.coprime_one 1
disjoint-coprime (b ∷ bs) [] e c p = C.coprime_sym (product (b ∷ bs) e) 1
    (C.coprime_one (product (b ∷ bs) e))
disjoint-coprime (b ∷ bs) (m ∷ d) [] c p = C.coprime_one (b ^ m * product bs d)
disjoint-coprime (b ∷ bs) (m ∷ d) (n ∷ e) c p = go p.0 (disjoint-coprime bs d e c.2 p.1)
  where
    go : (m ≡ 0) ⊎ (n ≡ 0) → gcd (product bs d) (product bs e) ≡ 1
        → gcd (b ^ m * product bs d) (b ^ n * product bs e) ≡ 1
    go (inl z) r = subst (λ x. gcd x (b ^ n * product bs e) ≡ 1) (power_none b m z (product bs d))
        (power_apart b (product bs d) n (product bs e) (coprime_product b bs d c.1) r)
    go (inr z) r =
        subst (λ x. gcd (b ^ m * product bs d) x ≡ 1) (power_none b n z (product bs e))
        (C.coprime_sym (product bs e) (b ^ m * product bs d) (power_apart b (product bs e) m
        (product bs d) (coprime_product b bs e c.1) (C.coprime_sym (product bs d)
        (product bs e) r)))

-- a fraction p / q in lowest terms that is a product of whole powers: its parts are the products of
-- the two lists
pub lowest_same : (p q x y : ℕ) → gcd p q ≡ 1 → gcd x y ≡ 1 → p * y ≡ x * q → (p ≡ x) × (q ≡ y)
lowest_same p q x y c d e = (
  N.dvd_antisymm (G.dvd_from_coprime q p x (C.coprime_sym p q c)
      (subst (λ z. p ∣ z) e (N.dvd-mul_right p y)))
      (G.dvd_from_coprime y x p (C.coprime_sym x y d)
      (subst (λ z. x ∣ z) (sym e) (N.dvd-mul_right x q))),
  N.dvd_antisymm (G.dvd_from_coprime p q y c (subst (λ z. q ∣ z) (sym e ∙ N.mul_comm p y)
      (N.dvd-mul_left q x)))
      (G.dvd_from_coprime x y q d (subst (λ z. y ∣ z) (e ∙ N.mul_comm x q) (N.dvd-mul_left y p))),
)

pub fraction_made : (bs u v : List ℕ) (p q : ℕ) → Coprime bs → Disjoint u v → gcd p q ≡ 1
    → p * product bs v ≡ product bs u * q → (p ≡ product bs u) × (q ≡ product bs v)
fraction_made bs u v p q c d g e = lowest_same p q (product bs u) (product bs v) g
    (disjoint-coprime bs u v c d) e

-- ---- one number of the base is taken out as often as it goes: what is left, and how often
pub record Taken (b x : ℕ) : Type 0 where
  pub times : ℕ
  pub left : ℕ
  pub whole : b ^ times * left ≡ x
  pub over : (b ∣ left) → ⊥

-- what is left of a product of powers is the product of the others
pub taken-product : (b : ℕ) (bs : List ℕ) (n : ℕ) (e : List ℕ) (x : ℕ) → Coprime (b ∷ bs)
    → (t : Taken b x) → product (b ∷ bs) (n ∷ e) ≡ x → (t.times ≡ n) × (t.left ≡ product bs e)
taken-product b bs n e x c t h = go t.times n (t.whole ∙ sym h)
  where
    unit : (k : ℕ) → b ^ 0 * k ≡ k
    unit k = ap (λ x. x * k) (N.pow-zero b) ∙ N.one-mul k

    out : (n k : ℕ) → b ^ suc n * k ≡ b * (b ^ n * k)
    out n k = ap (λ x. x * k) (N.pow-succ' b n) ∙ N.mul_assoc b (b ^ n) k

    big : 1 < b
    big = c.0

    go : (m n : ℕ) → b ^ m * t.left ≡ b ^ n * product bs e → (m ≡ n) × (t.left ≡ product bs e)
    go zero zero h = (refl, sym (unit t.left) ∙ h ∙ unit (product bs e))
    go zero (suc n) h =
        absurd (t.over (subst (λ z. b ∣ z) (sym (sym (unit t.left) ∙ h ∙ out n (product bs e)))
        (N.dvd-mul_right b (b ^ n * product bs e))))
    go (suc m) zero h =
        let d : b ∣ product bs e = subst (λ z. b ∣ z) (sym (out m t.left) ∙ h ∙ unit (product bs e))
        (N.dvd-mul_right b (b ^ m * t.left)) in
        let one : b ≡ 1 =
        N.eq-one_of_dvd-one (C.coprime_out b (product bs e) b (coprime_product b bs e c.1)
        (N.dvd_refl b) d) in
        absurd (omega arith)
    go (suc m) (suc n) h =
        let some : 0 < b = omega arith in
        let r = go m n (N.eq_of_mul-eq-mul_left b some (b ^ m * t.left) (b ^ n * product bs e)
        (sym (out m t.left) ∙ h ∙ out n (product bs e))) in
        (ap suc r.0, r.1)
