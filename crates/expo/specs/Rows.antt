-- The rows of the table that solves y(n+1) = l y(n) + n^a σ^n, and what is past in one: an operation with its numbers.
--   binomial j i              the binomial coefficient of j and i, as a fraction
--   other_rest σ a q i        what is divided in the i-th row where σ is not l;  other_number: the row's number
--   equal_rest l a q i        the same where σ is l;  equal_number: the number of the (i+1)-th row
--   sum_behind q i j n        the sum of q k with the binomial coefficient of k and i, over the places k behind j and below n
--   IsPastSum q i lo n        of the sum of q j with the binomial coefficient of j and i, over n places j from lo on: a coefficient, a product, or the sum
--   IsPastBehind q i j n      the same of a sum behind a place
--   IsPastOther σ l a, IsPastEqual l a      an operation of a row is past, where the rows above it are known
use Rattle.std.specs.Prelude.{◌≡◌, ◌⊎◌, ℕ, suc, ◌+◌, ◌-◌, ◌<◌, ◌≤◌, pos}
use Rattle.algebra.specs.Sum.{sum_over}
use Rattle.algebra.specs.Fraction.{Fraction, ℚ, fraction_size, whole, inverse}
use Rattle.algebra.specs.Size.{sizes, sum_size, product_size, quotient_size, IsPast}
use Rattle.algebra.proofs.Fractions.{ℚ_ring}
use Rattle.exponentials.specs.Table.{choose, numbers, delta, binomial_term, above, sum_numbers}

abbrev pub binomial : ℕ → ℕ → Fraction
binomial j i = whole (pos (choose j i))

abbrev pub other_rest : Fraction → ℕ → (ℕ → Fraction) → ℕ → Fraction
other_rest σ a q i = ℚ.add (delta ℚ_ring i a) (ℚ.neg (ℚ.mul σ (above ℚ_ring a q i)))

abbrev pub other_number : Fraction → Fraction → ℕ → (ℕ → Fraction) → ℕ → Fraction
other_number σ l a q i = ℚ.mul (other_rest σ a q i) (inverse (ℚ.add σ (ℚ.neg l)))

abbrev pub equal_sum : ℕ → (ℕ → Fraction) → ℕ → Fraction
equal_sum a q i = sum_numbers ℚ_ring (binomial_term ℚ_ring q i) (suc (suc i)) (a - i)

abbrev pub equal_rest : Fraction → ℕ → (ℕ → Fraction) → ℕ → Fraction
equal_rest l a q i = ℚ.add (ℚ.mul (delta ℚ_ring i a) (inverse l)) (ℚ.neg (equal_sum a q i))

abbrev pub equal_number : Fraction → ℕ → (ℕ → Fraction) → ℕ → Fraction
equal_number l a q i = ℚ.mul (equal_rest l a q i) (inverse (whole (pos (suc i))))

abbrev pub sum_behind : (ℕ → Fraction) → ℕ → ℕ → ℕ → Fraction
sum_behind q i j n = sum_numbers ℚ_ring (binomial_term ℚ_ring q i) (suc j) (n - suc j)

-- ---- what is past
pub data IsPastSum (q : ℕ → Fraction) (i lo n : ℕ) : Type 0 where
  coefficient : (j : ℕ) → lo ≤ j → j < lo + n → IsPast (fraction_size (binomial j i))
      → IsPastSum q i lo n
  product : (j : ℕ) → lo ≤ j → j < lo + n
      → IsPast (product_size (fraction_size (binomial j i)) (fraction_size (q j)))
      → IsPastSum q i lo n
  sum : IsPast (sum_over sizes (λ j. fraction_size (ℚ.mul (binomial j i) (q j))) (numbers lo n))
      → IsPastSum q i lo n

abbrev pub IsPastBehind : (ℕ → Fraction) → ℕ → ℕ → ℕ → Type 0
IsPastBehind q i j n = IsPastSum q i (suc j) (n - suc j)

-- an operation of the row i where σ is not l
abbrev pub IsPastOtherRow : Fraction → Fraction → ℕ → (ℕ → Fraction) → ℕ → Type 0
IsPastOtherRow σ l a q i =
    IsPastSum q i (suc i) (a - i)
    ⊎ IsPast (product_size (fraction_size σ) (fraction_size (above ℚ_ring a q i)))
    ⊎ IsPast (sum_size (fraction_size (delta ℚ_ring i a))
    (fraction_size (ℚ.mul σ (above ℚ_ring a q i))))
    ⊎ IsPast (quotient_size (fraction_size (other_rest σ a q i))
    (fraction_size (ℚ.add σ (ℚ.neg l))))

-- an operation of the row i + 1 where σ is l
abbrev pub IsPastEqualRow : Fraction → ℕ → (ℕ → Fraction) → ℕ → Type 0
IsPastEqualRow l a q i =
    IsPastSum q i (suc (suc i)) (a - i)
    ⊎ IsPast (sum_size (fraction_size (ℚ.mul (delta ℚ_ring i a) (inverse l)))
    (fraction_size (equal_sum a q i)))
    ⊎ IsPast (quotient_size (fraction_size (equal_rest l a q i))
    (fraction_size (whole (pos (suc i)))))

pub data IsPastOther (σ l : Fraction) (a : ℕ) : Type 0 where
  divisor : IsPast (sum_size (fraction_size σ) (fraction_size l)) → IsPastOther σ l a
  row : (q : ℕ → Fraction) (i : ℕ) → i ≤ a
      → ((j : ℕ) → i < j → j ≤ a → q j ≡ other_number σ l a q j)
      → IsPastOtherRow σ l a q i → IsPastOther σ l a

pub data IsPastEqual (l : Fraction) (a : ℕ) : Type 0 where
  row : (q : ℕ → Fraction) (i : ℕ) → i ≤ a
      → ((j : ℕ) → i < j → j ≤ a → q (suc j) ≡ equal_number l a q j)
      → IsPastEqualRow l a q i → IsPastEqual l a
