-- The table that solves y(n+1) = l y(n) + n^a σ^n with y(0) = 0.
--   choose n k               the binomial coefficient
--   numbers lo n             so many numbers from lo on; sum_numbers R f lo n: the sum of f over them
--   delta i a                one where i is a, and else zero
--   value d q x              q 0 + q 1 x + .. + q d x^d
--   binomial_term q i j            the binomial coefficient of j and i, times q j; above a q i: their sum over the j above i, up to a
--   IsOther σ l a q          the numbers of the table where σ is not l; other_form: the solution
--   IsEqual l a q            those where σ is l; equal_form: the solution
--   Solves σ l a y           what is asked of y
use Rattle.std.specs.Prelude.{◌≡◌, ◌≤◌, ℕ, zero, suc, ◌+◌, ◌-◌, Bool, true, false, cond, List, [], ◌∷◌}
use Rattle.algebra.specs.Arithmetic.{power}
use Rattle.algebra.specs.Ring.{CommRing, Field, operations, of_nat}
use Rattle.algebra.specs.Sum.{sum_over}

-- whether two numbers are the same, by recursion
abbrev pub alike : ℕ → ℕ → Bool
alike zero zero = true
alike zero (suc n) = false
alike (suc m) zero = false
alike (suc m) (suc n) = alike m n

abbrev pub choose : ℕ → ℕ → ℕ
choose n zero = 1
choose zero (suc k) = 0
choose (suc n) (suc k) = choose n k + choose n (suc k)

abbrev pub numbers : ℕ → ℕ → List ℕ
numbers lo zero = []
numbers lo (suc n) = lo ∷ numbers (suc lo) n

module _ {A : Type 0} (R : CommRing A) where
  abbrev pub sum_numbers : (ℕ → A) → ℕ → ℕ → A
  sum_numbers f lo n = sum_over (operations R) f (numbers lo n)

  abbrev pub delta : ℕ → ℕ → A
  delta i a = cond (alike i a) R.one R.zero

  abbrev pub value : ℕ → (ℕ → A) → A → A
  value d q x = sum_numbers (λ i. R.mul (q i) (power (operations R) x i)) 0 (suc d)

  abbrev pub binomial_term : (ℕ → A) → ℕ → ℕ → A
  binomial_term q i j = R.mul (of_nat R (choose j i)) (q j)

  abbrev pub above : ℕ → (ℕ → A) → ℕ → A
  above d q i = sum_numbers (binomial_term q i) (suc i) (d - i)

  abbrev pub other_form : A → A → ℕ → (ℕ → A) → ℕ → A
  other_form σ l a q n =
      R.add (R.mul (value a q (of_nat R n)) (power (operations R) σ n))
      (R.neg (R.mul (q 0) (power (operations R) l n)))

  abbrev pub equal_form : A → ℕ → (ℕ → A) → ℕ → A
  equal_form l a q n = R.mul (value (suc a) q (of_nat R n)) (power (operations R) l n)

module _ {K : Type 0} (F : Field K) where
  abbrev pub IsOther : K → K → ℕ → (ℕ → K) → Type 0
  IsOther σ l a q =
      (i : ℕ) → i ≤ a
      → q i ≡ F.mul (F.add (delta F.ring i a) (F.neg (F.mul σ (above F.ring a q i))))
      (F.inverse (F.add σ (F.neg l)))

  pub record IsEqual (l : K) (a : ℕ) (q : ℕ → K) : Type 0 where
    pub first : q 0 ≡ F.zero
    pub next : (i : ℕ) → i ≤ a
        → q (suc i) ≡ F.mul
        (F.add (F.mul (delta F.ring i a) (F.inverse l))
        (F.neg (sum_numbers F.ring (binomial_term F.ring q i) (suc (suc i)) (a - i))))
        (F.inverse (of_nat F.ring (suc i)))

  pub record Solves (σ l : K) (a : ℕ) (y : ℕ → K) : Type 0 where
    pub start : y 0 ≡ F.zero
    pub next : (n : ℕ)
        → y (suc n) ≡ F.add (F.mul l (y n))
        (F.mul (power (operations F.ring) (of_nat F.ring n) a) (power (operations F.ring) σ n))
