-- Products of powers in a commutative ring, and homomorphisms.
--   power-one, power-mul     powers of one, and of a product
--   power_inverse     powers of inverses are inverses
--   to-nat            a homomorphism keeps natural numbers
use Rattle.std.proofs.Common.{◌≡◌, ℕ, zero, suc, ◌^◌, List, [], ◌∷◌, map, refl, sym, ap, ap₂, ◌∙◌}
use Rattle.exponentials.specs.Base.{product}
use native.Mathlib.Nat as N
use Rattle.algebra.specs.Ring.{CommRing, Hom, operations, of_nat}
use Rattle.algebra.specs.Arithmetic.{power}
use Rattle.polynomials.specs.Terms.{monomial_at}
use Rattle.algebra.proofs.Homs.{to-zero, to-power}
use Rattle.algebra.proofs.RingLaws as L
use Rattle.algebra.proofs.OfInt.{of_nat-mul}

module _ {A : Type 0} (R : CommRing A) where
  open R use {zero as 𝟘, one as 𝟙, add, mul, neg}

  pub power-one : (n : ℕ) → power (operations R) 𝟙 n ≡ 𝟙
  unfolding power
  power-one zero = refl
  power-one (suc n) = L.one-mul R (power (operations R) 𝟙 n) ∙ power-one n

  pub power-mul : (x y : A) (n : ℕ) → power (operations R) (mul x y) n
      ≡ mul (power (operations R) x n) (power (operations R) y n)
  unfolding power
  power-mul x y zero = sym (L.one-mul R 𝟙)
  power-mul x y (suc n) = ap (mul (mul x y)) (power-mul x y n)
      ∙ L.mul_swap R x y (power (operations R) x n) (power (operations R) y n)

  pub power_inverse : (x y : A) (n : ℕ) → mul x y ≡ 𝟙
      → mul (power (operations R) x n) (power (operations R) y n) ≡ 𝟙
  power_inverse x y n h = sym (power-mul x y n) ∙ ap (λ z. power (operations R) z n) h ∙ power-one n

  pub power-power : (x : A) (m n : ℕ) → power (operations R) (power (operations R) x n) m
      ≡ power (operations R) (power (operations R) x m) n
  unfolding power
  power-power x zero n = sym (power-one n)
  power-power x (suc m) n = ap (mul (power (operations R) x n)) (power-power x m n)
      ∙ sym (power-mul x (power (operations R) x m) n)

  -- at powers of the points
  pub monomial-powers : {X : Type 0} (f : X → A) (n : ℕ) (xs : List X) (e : List ℕ)
      → monomial_at (operations R) (map (λ x. power (operations R) (f x) n) xs) e
      ≡ power (operations R) (monomial_at (operations R) (map f xs) e) n
  unfolding monomial_at
  monomial-powers f n [] e = sym (power-one n)
  monomial-powers f n (x ∷ xs) [] = sym (power-one n)
  monomial-powers f n (x ∷ xs) (m ∷ e) = ap₂ mul (power-power (f x) m n) (monomial-powers f n xs e)
      ∙ sym (power-mul (power (operations R) (f x) m) (monomial_at (operations R) (map f xs) e) n)

  pub of_nat-power : (b n : ℕ) → of_nat R (b ^ n) ≡ power (operations R) (of_nat R b) n
  unfolding power
  of_nat-power b zero = ap (of_nat R) (N.pow-zero b) ∙ R.add-zero 𝟙
  of_nat-power b (suc n) = ap (of_nat R) (N.pow-succ' b n) ∙ of_nat-mul R b (b ^ n)
      ∙ ap (mul (of_nat R b)) (of_nat-power b n)

  pub of_nat-product : (bs e : List ℕ) → of_nat R (product bs e) ≡ monomial_at (operations R)
      (map (of_nat R) bs) e
  unfolding monomial_at
  of_nat-product [] e = R.add-zero 𝟙
  of_nat-product (b ∷ bs) [] = R.add-zero 𝟙
  of_nat-product (b ∷ bs) (n ∷ e) = of_nat-mul R (b ^ n) (product bs e)
      ∙ ap₂ mul (of_nat-power b n) (of_nat-product bs e)

module _ {A B : Type 0} {R : CommRing A} {Q : CommRing B} (φ : Hom R Q) where
  pub to-nat : (n : ℕ) → φ.to (of_nat R n) ≡ of_nat Q n
  to-nat zero = to-zero φ
  to-nat (suc n) = φ.to-add R.one (of_nat R n) ∙ ap₂ Q.add φ.to-one (to-nat n)

  pub to-monomial : {X : Type 0} (f : X → A) (xs : List X) (e : List ℕ)
      → φ.to (monomial_at (operations R) (map f xs) e) ≡ monomial_at (operations Q)
      (map (λ x. φ.to (f x)) xs) e
  unfolding monomial_at
  to-monomial f [] e = φ.to-one
  to-monomial f (x ∷ xs) [] = φ.to-one
  to-monomial f (x ∷ xs) (n ∷ e) = φ.to-mul (power (operations R) (f x) n)
      (monomial_at (operations R) (map f xs) e)
      ∙ ap₂ Q.mul (to-power φ (f x) n) (to-monomial f xs e)
