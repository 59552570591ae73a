-- What follows from independence: two exponential polynomials with the same values have the same coefficients; the point as one list;
-- and the rationals have characteristic 0.
--   zero_ideal         zero alone is an ideal
--   fraction_char0     no whole number above zero is zero among the rationals
use Rattle.std.proofs.Common.{pos, ◌≡◌, Bool, true, false, cond, ℕ, suc, List, [], ◌∷◌, ◌++◌, map, length, take, drop, refl, sym, ap, ap₂, ◌∙◌}
use Rattle.algebra.specs.Each.{Each}
use Rattle.exponentials.specs.Base.{Coprime}
use Rattle.algebra.specs.Arithmetic.{power}
use Rattle.algebra.specs.Ring.{Hom, CommRing, Field, operations, of_nat}
use Rattle.algebra.specs.Sum.{sum_over}
use Rattle.algebra.proofs.RingLaws as L
use Rattle.algebra.proofs.Sums as Sums
use Rattle.polynomials.proofs.Value.{monomial-nil}
use Rattle.vectors.proofs.FractionEigen.{ℚ_fractions}
use Rattle.algebra.proofs.Fractions.{ℚ_field}
use Rattle.exponentials.proofs.Lists.{sum_alike}
use Rattle.exponentials.proofs.Flat.{IsIdeal}
use Rattle.exponentials.specs.Table.{alike}
use Rattle.polynomials.specs.Terms.{monomial_at}
use Rattle.exponentials.specs.Keys.{Key, IsNormalKey}
use Rattle.exponentials.proofs.Expo.{IsChar0, key_test, value, coefficient, coefficient_in}

module _ {A : Type 0} (R : CommRing A) where
  -- the ideal of zero alone
  pub zero_ideal : IsIdeal R (λ x. x ≡ R.zero)
  zero_ideal = record {
    zero_in = refl;
    add_in = λ a b p q. ap₂ R.add p q ∙ L.zero-add R R.zero;
    mul_in = λ k a p. ap (R.mul k) p ∙ L.mul-zero R k;
  }

  abbrev signed : Bool → A → A
  signed true x = x
  signed false x = R.neg x

  -- a list and another one with opposite signs
  abbrev against : {W : Type 0} → List W → List W → List (Bool × W)
  against ts us = map (λ t. (true, t)) ts ++ map (λ t. (false, t)) us

  sum-against : {W : Type 0} (f : Bool × W → A) (g : W → A) → ((t : W) → f (true, t) ≡ g t)
      → ((t : W) → f (false, t) ≡ R.neg (g t)) → (ts us : List W)
      → sum_over (operations R) f (against ts us) ≡ R.add (sum_over (operations R) g ts)
      (R.neg (sum_over (operations R) g us))
  sum-against {W} f g p q ts us =
      Sums.sum-append R f (map (λ t. (true, t)) ts) (map (λ t. (false, t)) us)
      ∙ ap₂ R.add (Sums.sum-map R f (λ (t : W). let r : Bool × W = (true, t) in r) ts
      ∙ sum_alike R (λ t. f (true, t)) g ts p)
      (Sums.sum-map R f (λ (t : W). let r : Bool × W = (false, t) in r) us
      ∙ sum_alike R (λ t. f (false, t)) (λ t. R.neg (g t)) us q ∙ Sums.sum-neg R g us)

each-against : {W : Type 0} (P : W → Type 0) (ts us : List W) → Each P ts → Each P us
    → Each (λ (t : Bool × W). P t.1) (map (λ t. (true, t)) ts ++ map (λ t. (false, t)) us)
unfolding Each
each-against P [] [] p q = tt
each-against P [] (u ∷ us) p q = (q.0, each-against P [] us tt q.1)
each-against P (t ∷ ts) us p q = (p.0, each-against P ts us p.1 q)

module _ {K A : Type 0} (F : Field K) (char : IsChar0 F) (R : CommRing A) (φ : Hom F.ring R) where
  abbrev Zero : A → Type 0
  Zero x = x ≡ R.zero

  module _ (bs : List ℕ) (c : Coprime bs) {W : Type 0} (deg : W → ℕ) (key : W → Key) (coef : W
      → A) where
    abbrev pub sum_at : List W → ℕ → A
    sum_at ts n = sum_over (operations R) (value F char R φ Zero (zero_ideal R) bs c deg key coef n)
        ts

    abbrev pub coefficient_of : Key → ℕ → List W → A
    coefficient_of x a ts = coefficient F char R φ Zero (zero_ideal R) bs c deg key coef x a ts

    -- the same values have the same coefficients
    pub same_coefficients : (ts us : List W) → Each (λ t. IsNormalKey bs (key t)) ts
        → Each (λ t. IsNormalKey bs (key t)) us → ((n : ℕ) → sum_at ts n ≡ sum_at us n)
        → (x : Key) → IsNormalKey bs x → (a : ℕ) → coefficient_of x a ts ≡ coefficient_of x a us
    same_coefficients ts us g h e x gx a =
        L.eq_of_sub R (coefficient_of x a ts) (coefficient_of x a us)
        (sym (sum-against R both_coef (λ t. one t (coef t)) (λ t. refl)
        (λ t. turned (alike (deg t) a) (key_test.same x (key t)) (coef t)) ts us)
        ∙ coefficient_in F char R φ Zero (zero_ideal R) bs c deg' key' coef' (against R ts us)
        (each-against (λ t. IsNormalKey bs (key t)) ts us g h)
        (λ n. sum-against R (value F char R φ Zero (zero_ideal R) bs c deg' key' coef' n)
        (value F char R φ Zero (zero_ideal R) bs c deg key coef n) (λ t. refl)
        (λ t. L.neg-mul R (coef t) (R.mul (power (operations R) (of_nat R n) (deg t)) (point n t)))
        ts us
        ∙ ap (λ z. R.add z (R.neg (sum_at us n))) (e n) ∙ R.add-neg (sum_at us n))
        x gx a)
      where
        deg' : Bool × W → ℕ
        deg' t = deg t.1

        key' : Bool × W → Key
        key' t = key t.1

        coef' : Bool × W → A
        coef' t = signed R t.0 (coef t.1)

        point : ℕ → W → A
        point n t = R.mul (power (operations R) (power (operations R) (R.neg R.one) n) (key t).0)
            (R.mul (monomial_at (operations R)
            (map (λ b. power (operations R) (φ.to (of_nat F.ring b)) n) bs) (key t).1)
            (monomial_at (operations R)
            (map (λ b. power (operations R) (φ.to (F.inverse (of_nat F.ring b))) n) bs)
            (key t).2))

        one : W → A → A
        one t y = cond (alike (deg t) a) (cond (key_test.same x (key t)) y R.zero) R.zero

        both_coef : Bool × W → A
        both_coef t = cond (alike (deg' t) a) (cond (key_test.same x (key' t)) (coef' t) R.zero)
            R.zero

        turned : (p q : Bool) (y : A) → cond p (cond q (R.neg y) R.zero) R.zero
            ≡ R.neg (cond p (cond q y R.zero) R.zero)
        turned true true y = refl
        turned true false y = sym (L.neg-zero R)
        turned false q y = sym (L.neg-zero R)

-- ---- one list of points and one of exponents
module _ {A : Type 0} (R : CommRing A) where
  pub monomial-append : (xs ys : List A) (e : List ℕ) → monomial_at (operations R) (xs ++ ys) e
      ≡ R.mul (monomial_at (operations R) xs (take (length xs) e)) (monomial_at (operations R) ys
      (drop (length xs) e))
  unfolding monomial_at
  monomial-append [] ys e = sym (L.one-mul R (monomial_at (operations R) ys e))
  monomial-append (x ∷ xs) ys [] = empty (x ∷ xs) ys
    where
      empty : (xs ys : List A) → monomial_at (operations R) (xs ++ ys) []
          ≡ R.mul (monomial_at (operations R) xs []) (monomial_at (operations R) ys [])
      empty xs ys = monomial-nil R (xs ++ ys)
          ∙ sym (ap₂ R.mul (monomial-nil R xs) (monomial-nil R ys) ∙ L.one-mul R R.one)
  monomial-append (x ∷ xs) ys (n ∷ e) =
      ap (R.mul (power (operations R) x n)) (monomial-append xs ys e)
      ∙ sym (R.mul_assoc (power (operations R) x n) (monomial_at (operations R) xs
      (take (length xs) e)) (monomial_at (operations R) ys (drop (length xs) e)))

-- ---- the fractions have characteristic 0
pub fraction_char0 : IsChar0 ℚ_field
fraction_char0 =
    record {
      whole = λ n e. (let z : pos (suc n) ≡ pos 0 = ℚ_fractions.injective (pos (suc n))
          (pos 0) e in cc);
    }
