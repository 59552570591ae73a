-- Solutions by the table, and what is past on the way.
--   most_degree                         the highest power of n in an inhomogeneity: it is one less than the highest exponent
--   most_numbers                        a solution has at most so many numbers
--   AreOther m a σ l x y ts, AreEqual m a l y ts     the terms that the table gives, where x and y are the exponents of s, u and v in the n-th powers of σ and l
--   AreTabled m a σ l x y ts            the one or the other
--   IsPastTable σ l a                   an operation of that table is past
--   IsSolutionOf base m an inhomogeneity own e     e is zero at 0, and at n + 1 it is the number of own times e at n, and n^a times the n-th power of the number of inhomogeneity
--   IsTabled base m an inhomogeneity own e      e has the terms that the table gives for the numbers of inhomogeneity and own
--   IsPastSolution base an inhomogeneity own    one of these numbers does not fit, or an operation of the table is past
use Rattle.std.specs.Prelude.{◌≡◌, ◌≢◌, ◌⊎◌, ℕ, List}
use Rattle.algebra.specs.Fraction.{Fraction}
use Rattle.algebra.proofs.Fractions.{ℚ_field}
use Rattle.polynomials.specs.Terms.{Terms}
use Rattle.exponentials.specs.Keys.{Key}
use Rattle.exponentials.specs.Table.{IsOther, IsEqual}
use Rattle.poly.specs.Seen.{terms_in}
use Rattle.solvable_maps.specs.Expo.{other_terms, equal_terms, IsSolution}
use Rattle.expo.specs.declared.exponential.Expo.{Expo}
use Rattle.expo.specs.declared.powers.Power.{Power}
use Rattle.expo.specs.Powers.{number_of, key_of_power, IsPastNumber}
use Rattle.expo.specs.Rows.{IsPastOther, IsPastEqual}
use Rattle.expo.specs.View.{IsExpo}

abbrev pub most_degree : ℕ
most_degree = 65534

abbrev pub most_numbers : ℕ
most_numbers = 65536

pub record AreOther (m a : ℕ) (σ l : Fraction) (x y : Key) (ts : Terms Fraction) : Type 0 where
  pub numbers : ℕ → Fraction
  pub table : IsOther ℚ_field σ l a numbers
  pub terms : ts ≡ other_terms m x y a numbers

pub record AreEqual (m a : ℕ) (l : Fraction) (y : Key) (ts : Terms Fraction) : Type 0 where
  pub numbers : ℕ → Fraction
  pub table : IsEqual ℚ_field l a numbers
  pub terms : ts ≡ equal_terms m y a numbers

pub data AreTabled (m a : ℕ) (σ l : Fraction) (x y : Key) (ts : Terms Fraction) : Type 0 where
  different : σ ≢ l → AreOther m a σ l x y ts → AreTabled m a σ l x y ts
  same : σ ≡ l → AreEqual m a l y ts → AreTabled m a σ l x y ts

abbrev pub IsPastTable : Fraction → Fraction → ℕ → Type 0
IsPastTable σ l a = ((σ ≢ l) × IsPastOther σ l a) ⊎ ((σ ≡ l) × IsPastEqual l a)

abbrev pub IsSolutionOf : List ℕ → ℕ → ℕ → Power → Power → Expo → Type 0
IsSolutionOf base m a inhomogeneity own e = IsSolution base m a (number_of base inhomogeneity)
    (number_of base own) (terms_in e.body)

pub data IsTabled (base : List ℕ) (m a : ℕ) (inhomogeneity own : Power) (e : Expo) : Type 0 where
  other : (ts : Terms Fraction) → number_of base inhomogeneity ≢ number_of base own
      → AreOther m a (number_of base inhomogeneity) (number_of base own)
      (key_of_power inhomogeneity)
      (key_of_power own) ts
      → IsExpo base m ts e → IsTabled base m a inhomogeneity own e
  equal : (ts : Terms Fraction) → number_of base inhomogeneity ≡ number_of base own
      → AreEqual m a (number_of base own) (key_of_power own) ts
      → IsExpo base m ts e → IsTabled base m a inhomogeneity own e

pub data IsPastSolution (base : List ℕ) (a : ℕ) (inhomogeneity own : Power) : Type 0 where
  inhomogeneity_number : IsPastNumber base inhomogeneity → IsPastSolution base a inhomogeneity own
  own_number : IsPastNumber base own → IsPastSolution base a inhomogeneity own
  other : number_of base inhomogeneity ≢ number_of base own
      → IsPastOther (number_of base inhomogeneity) (number_of base own) a
      → IsPastSolution base a inhomogeneity own
  equal : number_of base inhomogeneity ≡ number_of base own
      → IsPastEqual (number_of base own) a → IsPastSolution base a inhomogeneity own
