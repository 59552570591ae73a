-- Echelon lists of rows of fractions: what they are, what adding a row computes, and the weights of its combinations.
--   IsEchelonOf n given rows     rows of width n, reduced echelon, with the same combinations as the rows that were given
--   IsCombinationOf rows row     the row is a combination of them
--   AreKernel n given vectors    the vectors of the columns without a leading one, in order
--   lead row                     the place of the first entry that isn't zero
--   reduce_row rows row             row less the sum of each of rows times row's entry in its leading column
--   quotient row                 the row over its first entry that isn't zero
--   row_size row                 the weight of a row, its entries taken as coefficients of different variables
--   IsPastTarget rows row target     the weight of the combination with this target is past
use Rattle.std.specs.Prelude.{◌≡◌, ◌⊎◌, ℕ, zero, suc, ◌<◌, ℤ, pos, negsuc, List, [], ◌∷◌, length, get_or}
use Rattle.algebra.specs.Each.{Each}
use Rattle.algebra.specs.Fraction.{Fraction, ℚ, inverse, fraction_size}
use Rattle.algebra.specs.Size.{Size, size, sum_size, product_size, quotient_size, IsPast}
use Rattle.algebra.proofs.Fractions.{ℚ_ring, ℚ_field}
use Rattle.vectors.specs.Space.{IsCombination}
use Rattle.vectors.specs.Sequences.{sequences}
use Rattle.vectors.specs.Lists.{entries, tables}
use Rattle.vectors.specs.Echelon.{Pivots, rows_in, IsRref, AreKernelVectors, free_from}

pub record IsEchelonOf (n : ℕ) (given rows : List (List Fraction)) : Type 0 where
  pub widths : Each (λ row. length row ≡ n) rows
  pub pivots : Pivots ℚ_field
  pub are : tables ℚ_field rows ≡ rows_in ℚ_field pivots
  pub reduced : IsRref ℚ_field n (tables ℚ_field given) pivots

pub record IsCombinationOf (rows : List (List Fraction)) (row : List Fraction) : Type 0 where
  pub is : IsCombination (sequences ℚ_ring ℕ) (tables ℚ_field rows) (entries ℚ_field row)

pub record AreKernel (n : ℕ) (given vectors : List (List Fraction)) : Type 0 where
  pub widths : Each (λ v. length v ≡ n) vectors
  pub pivots : Pivots ℚ_field
  pub reduced : IsRref ℚ_field n (tables ℚ_field given) pivots
  pub are : AreKernelVectors ℚ_field n pivots (free_from ℚ_field pivots 0 n)
      (tables ℚ_field vectors)

-- ---- what adding a row computes
abbrev pub after_zero : ℤ → ℕ → ℕ
after_zero (pos zero) n = suc n
after_zero (pos (suc k)) n = 0
after_zero (negsuc k) n = 0

abbrev pub lead : List Fraction → ℕ
lead [] = 0
lead (a ∷ row) = after_zero a.num (lead row)

abbrev pub entry : List Fraction → ℕ → Fraction
entry row i = get_or row i ℚ.zero

abbrev pub less : List Fraction → Fraction → List Fraction → List Fraction
less [] c other = []
less (a ∷ row) c [] = a ∷ row
less (a ∷ row) c (b ∷ other) = ℚ.add a (ℚ.neg (ℚ.mul c b)) ∷ less row c other

-- by: the row whose entries are the multiples
abbrev pub reduced_by : List Fraction → List (List Fraction) → List Fraction → List Fraction
reduced_by by [] row = row
reduced_by by (e ∷ rows) row = reduced_by by rows (less row (entry by (lead e)) e)

abbrev pub reduce_row : List (List Fraction) → List Fraction → List Fraction
reduce_row rows row = reduced_by row rows row

abbrev pub scale_row : Fraction → List Fraction → List Fraction
scale_row c [] = []
scale_row c (a ∷ row) = ℚ.mul a c ∷ scale_row c row

abbrev pub quotient : List Fraction → List Fraction
quotient row = scale_row (inverse (entry row (lead row))) row

-- ---- weights
abbrev pub row_size : List Fraction → Size
row_size [] = size 0 1
row_size (a ∷ row) = sum_size (fraction_size a) (row_size row)

abbrev pub reduced_size : List Fraction → List (List Fraction) → Size → Size
reduced_size by [] s = s
reduced_size by (e ∷ rows) s =
    reduced_size by rows
    (sum_size s (product_size (row_size e) (fraction_size (entry by (lead e)))))

abbrev pub first_entry : List Fraction → Fraction
first_entry row = entry row (lead row)

-- of the row that is added
abbrev pub IsPastRow : List (List Fraction) → List Fraction → Type 0
IsPastRow rows row =
    IsPast (reduced_size row rows (row_size row))
    ⊎ IsPast (quotient_size (row_size (reduce_row rows row))
    (fraction_size (first_entry (reduce_row rows row))))

-- of the row e, when the new row h, which leads in the column c, is cleared out of it
abbrev pub IsPastClearing : List Fraction → ℕ → List Fraction → Type 0
IsPastClearing h c e = IsPast
    (sum_size (row_size e) (product_size (row_size h) (fraction_size (entry e c))))

abbrev pub IsPastTarget : List (List Fraction) → List Fraction → ℕ → Type 0
IsPastTarget rows row target =
    ((target ≡ length rows) × IsPastRow rows row)
    ⊎ ((target < length rows)
    × IsPastClearing (quotient (reduce_row rows row)) (lead (reduce_row rows row))
    (get_or rows target []))
