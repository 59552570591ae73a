-- Matrices of whole numbers, as the code has them, and what they mean.
--   ints row, ints_of rows   a row of numbers, and rows of them
--   wholes row, whole_rows rows     as fractions
--   shifted_entry d p rows i j      the entry of d times the matrix, less p on the diagonal
--   shifted_rows             that matrix
--   int_column j rows, int_columns n rows     a column, and n of them
--   int_dot xs ys            the sum of the products;  times_columns row columns: with each column
--   power_rows d p rows k    the power k + 1 of that matrix
--   sizes xs                 the sum of the absolute values
--   FitsProduct xs ys               the sum of the products fits, whatever its order
--   AllFit rows columns      each row fits beside each column
--   most_rows                a matrix has at most so many rows;  most_sum: the greatest limit of a column sum
--   IsReady n rows d         a matrix of n rows, 2 to most_rows, with its least common denominator, whose column sums are within the limit;
--                            ready_prop: that is a proposition
use Rattle.std.specs.Prelude.{◌≡◌, ℕ, zero, suc, ◌+◌, ◌*◌, ◌<◌, ◌≤◌, ℤ, pos, ◌+ℤ◌, ◌*ℤ◌, neg_ℤ, cond, eqb, List, [], ◌∷◌, map, length, get_or, All}
use Rattle.std.specs.Coded.{le_prop}
use Rattle.std.specs.declared.alloc.Global.{Global}
use Rattle.std.specs.declared.vec.Vec.{Vec}
use lib.IntN.{nat_abs}
use native.Mathlib.Nat.{ℕ_set}
use Rattle.frac128.specs.declared.Whole.{Whole}
use Rattle.algebra.specs.Each.{Each}
use Rattle.algebra.proofs.Each.{each_prop}
use Rattle.algebra.specs.Fraction.{Fraction, whole}
use Rattle.algebra.specs.Limits.{number_limit}
use Rattle.vectors.specs.Adding.{entry}
use Rattle.vectors.specs.Matrices.{denominator, whole_number, greatest_sum}
use Rattle.vectors.specs.Causes.{limit, row_at, numbers_to}

abbrev pub ints : List Whole → List ℤ
ints row = map (λ whole. whole.value) row

abbrev pub ints_of : List (Vec Whole Global) → List (List ℤ)
ints_of rows = map (λ row. ints row.items) rows

abbrev pub wholes : List ℤ → List Fraction
wholes row = map whole row

abbrev pub whole_rows : List (List ℤ) → List (List Fraction)
whole_rows rows = map wholes rows

abbrev pub shifted_entry : ℕ → ℤ → List (List Fraction) → ℕ → ℕ → ℤ
shifted_entry d p rows i j = whole_number d (entry (row_at rows i) j) +ℤ neg_ℤ
    (cond (eqb i j) p (pos 0))

abbrev pub shifted_row : ℕ → ℤ → List (List Fraction) → ℕ → List ℤ
shifted_row d p rows i = map (λ j. shifted_entry d p rows i j) (numbers_to (length rows))

abbrev pub shifted_rows : ℕ → ℤ → List (List Fraction) → List (List ℤ)
shifted_rows d p rows = map (λ i. shifted_row d p rows i) (numbers_to (length rows))

abbrev pub int_column : ℕ → List (List ℤ) → List ℤ
int_column j rows = map (λ row. get_or row j (pos 0)) rows

abbrev pub int_columns : ℕ → List (List ℤ) → List (List ℤ)
int_columns n rows = map (λ j. int_column j rows) (numbers_to n)

abbrev pub int_dot : List ℤ → List ℤ → ℤ
int_dot [] ys = pos 0
int_dot (x ∷ xs) [] = pos 0
int_dot (x ∷ xs) (y ∷ ys) = x *ℤ y +ℤ int_dot xs ys

abbrev pub times_columns : List (List ℤ) → List ℤ → List ℤ
times_columns columns row = map (λ column. int_dot row column) columns

abbrev pub power_rows : ℕ → ℤ → List (List Fraction) → ℕ → List (List ℤ)
power_rows d p rows zero = shifted_rows d p rows
power_rows d p rows (suc k) =
    map (times_columns (int_columns (length rows) (shifted_rows d p rows))) (power_rows d p rows k)

abbrev pub sizes : List ℤ → ℕ
sizes [] = 0
sizes (x ∷ xs) = nat_abs x + sizes xs

pub record FitsProduct (xs ys : List ℤ) : Type 0 where
  pub most : ℕ
  pub within : Each (λ x. nat_abs x ≤ most) xs
  pub small : most * sizes ys < number_limit

abbrev pub AllFit : List (Vec Whole Global) → List (Vec Whole Global) → Type 0
AllFit rows columns = All (λ (row : Vec Whole Global). All (λ (column : Vec Whole Global).
    FitsProduct (ints row.items) (ints column.items)) columns) rows

abbrev pub most_rows : ℕ
most_rows = 12

abbrev pub most_sum : ℕ
most_sum = 4096

pub record IsReady (n : ℕ) (rows : List (List Fraction)) (d : ℕ) : Type 0 where
  pub count : length rows ≡ n
  pub widths : Each (λ row. length row ≡ n) rows
  pub few : n ≤ most_rows
  pub least : d ≡ denominator rows
  pub small : d < number_limit
  pub within : greatest_sum n rows ≤ limit n

at_most_prop : (m n : ℕ) → IsProp (m ≤ n)
at_most_prop m n = le_prop

pub ready_prop : (n : ℕ) (rows : List (List Fraction)) (d : ℕ) → IsProp (IsReady n rows d)
ready_prop n rows d = hlevel (
  ℕ_set,
  each_prop (λ row. length row ≡ n) (λ row. ℕ_set _ _) rows,
  at_most_prop,
)
