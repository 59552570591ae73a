-- Matrices modulo 65,521, and a polynomial modulo it of which one is a root.
--   GF                        how to compute modulo 65,521
--   gfs row, gf_rows rows     what the numbers of a row, and of rows, mean
--   IsNone number             it means zero
--   entry_in N rows i j       an entry; square n f: the matrix of the f i j; zeros N n: of zeros
--   dot_in N xs ys            the sum of the products; trace_in N rows columns: the trace of the rows times the matrix of these columns
--   next_in N n columns c rows     the rows times the matrix of these columns, plus c on the diagonal; next_entry: an entry of it
--   matrix_in N n columns rows cs  Horner's scheme at that matrix: from the rows on, a step for each coefficient
--   value_in N p s cs         the same at the number p, from s on
--   residue_at d rows i j     what the entry of d times the matrix leaves; residue_columns: the columns of these
--   IsAnnihilating n d rows cs     d times the matrix is a root of the polynomial with these coefficients, from the leading one on
use Rattle.std.specs.Prelude.{◌≡◌, ℕ, ◌<◌, List, [], ◌∷◌, map, cond, eqb, get_or}
use Rattle.std.specs.declared.alloc.Global.{Global}
use Rattle.std.specs.declared.vec.Vec.{Vec}
use Rattle.algebra.specs.Arithmetic.{Arithmetic}
use Rattle.algebra.specs.Integers.{integer_in}
use Rattle.algebra.specs.Fraction.{Fraction}
use Rattle.algebra.specs.Residue.{Residue, residues, prime}
use Rattle.gf65521.specs.declared.Gf.{Gf}
use Rattle.gf65521.specs.GfMeaning.{residue_of}
use Rattle.vectors.specs.Adding.{entry}
use Rattle.vectors.specs.Matrices.{whole_number}
use Rattle.vectors.specs.Causes.{row_at, numbers_to}

abbrev pub GF : Arithmetic (Residue prime)
GF = (residues prime tt).arithmetic

abbrev pub gfs : List Gf → List (Residue prime)
gfs row = map residue_of row

abbrev pub gf_rows : List (Vec Gf Global) → List (List (Residue prime))
gf_rows rows = map (λ row. gfs row.items) rows

-- it means zero
pub record IsNone (number : Gf) : Type 0 where
  pub is : residue_of number ≡ GF.zero

abbrev pub square : {A : Type 0} → ℕ → (ℕ → ℕ → A) → List (List A)
square n f = map (λ i. map (λ j. f i j) (numbers_to n)) (numbers_to n)

module _ {A : Type 0} (N : Arithmetic A) where
  abbrev pub entry_in : List (List A) → ℕ → ℕ → A
  entry_in rows i j = get_or (get_or rows i []) j N.zero

  abbrev pub zeros : ℕ → List (List A)
  zeros n = square n (λ i j. N.zero)

  abbrev pub dot_in : List A → List A → A
  dot_in [] ys = N.zero
  dot_in (x ∷ xs) [] = N.zero
  dot_in (x ∷ xs) (y ∷ ys) = N.add (N.mul x y) (dot_in xs ys)

  -- of the rows times the matrix of these columns
  abbrev pub trace_in : List (List A) → List (List A) → A
  trace_in [] columns = N.zero
  trace_in (row ∷ rows) [] = N.zero
  trace_in (row ∷ rows) (column ∷ columns) = N.add (dot_in row column) (trace_in rows columns)

  -- of the row at place i
  abbrev pub next_entry : List (List A) → A → List A → ℕ → ℕ → A
  next_entry columns c row i j = N.add (dot_in row (get_or columns j [])) (cond (eqb i j) c N.zero)

  abbrev pub next_in : ℕ → List (List A) → A → List (List A) → List (List A)
  next_in n columns c rows = square n (λ i j. next_entry columns c (get_or rows i []) i j)

  abbrev pub matrix_in : ℕ → List (List A) → List (List A) → List A → List (List A)
  matrix_in n columns rows [] = rows
  matrix_in n columns rows (c ∷ cs) = matrix_in n columns (next_in n columns c rows) cs

  abbrev pub value_in : A → A → List A → A
  value_in p s [] = s
  value_in p s (c ∷ cs) = value_in p (N.add (N.mul s p) c) cs

abbrev pub residue_at : ℕ → List (List Fraction) → ℕ → ℕ → Residue prime
residue_at d rows i j = integer_in GF (whole_number d (entry (row_at rows i) j))

abbrev pub residue_columns : ℕ → ℕ → List (List Fraction) → List (List (Residue prime))
residue_columns n d rows = square n (λ j i. residue_at d rows i j)

pub record IsAnnihilating (n d : ℕ) (rows : List (List Fraction)) (cs : List (Residue prime)) : Type
    0 where
  pub none : (i j : ℕ) → i < n → j < n
      → entry_in GF (matrix_in GF n (residue_columns n d rows) (zeros GF n) cs) i j ≡ GF.zero
