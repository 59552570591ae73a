-- What the parts of a split answer.
--   found_of s                       forms and values as fractions
--   next_rows step columns rows      the rows at step 0, and else the rows times the columns
--   IsKernelOf rows vectors          the kernel of the echelon list of the columns of a matrix of whole numbers
--   IsEchelonOfColumns rows e        that list
--   IfColumnPast n rows p power e    adding a column of this power, which has these rows, is past;  IfColumnPastOf rows p power e: the same of whole numbers
--   IfVectorPast n found vectors p power e     adding one of the vectors is past; the row is n more than its place
--   IfRowPast rows v p power row e     adding v to the rows is past
--   IsPastPower n rows p power row     a column or a vector of a power, from 1, that the search takes is past
--   IfPastIn n rows e                that of a column or of a vector at a candidate
use Rattle.std.specs.Prelude.{◌≡◌, ℕ, zero, suc, ◌+◌, ◌≤◌, ℤ, List, map, length}
use Rattle.std.specs.declared.alloc.Global.{Global}
use Rattle.std.specs.declared.vec.Vec.{Vec}
use Rattle.algebra.specs.Fraction.{Fraction}
use Rattle.frac128.specs.declared.Whole.{Whole}
use Rattle.linear.specs.Rows.{fractions_of, rows_of}
use Rattle.linear.specs.View.{Echelon}
use Rattle.vectors.specs.Adding.{IsPastTarget}
use Rattle.eigen_split.specs.Ints.{ints_of, whole_rows, times_columns}
use Rattle.eigen_split.specs.Search.{Found, IsKernelAt, IsEchelonAt}
use Rattle.eigen_split.specs.Refusal.{IsPastAt, IsPastNew, IsPastIn, IsTried}
use Rattle.eigen_split.specs.declared.EigenError.{EigenError}
use Rattle.eigen_split.specs.declared.EigenError.TheVariants.{Eigen, Range, Wide, Memory}
use Rattle.eigen_split.specs.declared.splitting.Split.{Split}

abbrev pub found_of : Split → Found
found_of s = record { forms = rows_of s.forms.items; values = fractions_of s.values.items }

abbrev pub next_rows : ℕ → List (List ℤ) → List (List ℤ) → List (List ℤ)
next_rows zero columns rows = rows
next_rows (suc step) columns rows = map (times_columns columns) rows

abbrev pub IsKernelOf : List (Vec Whole Global) → List (List Fraction) → Type 0
IsKernelOf rows vectors = IsKernelAt (length rows) (whole_rows (ints_of rows)) vectors

abbrev pub IsEchelonOfColumns : List (Vec Whole Global) → Echelon → Type 0
IsEchelonOfColumns rows e = IsEchelonAt (length rows) (whole_rows (ints_of rows)) (length rows) e

abbrev pub IfColumnPast : ℕ → List (List Fraction) → ℤ → ℕ → EigenError → Type 0
IfColumnPast n rows p power Eigen = ⊥
IfColumnPast n rows p power (Range sum) = ⊥
IfColumnPast n rows p power (Wide candidate k row) = (candidate ≡ p) × (k ≡ power) × (row ≤ n)
    × IsPastAt n rows row
IfColumnPast n rows p power Memory = Unit {0}

abbrev pub IfColumnPastOf : List (Vec Whole Global) → ℤ → ℕ → EigenError → Type 0
IfColumnPastOf rows p power e = IfColumnPast (length rows) (whole_rows (ints_of rows)) p power e

abbrev pub IfVectorPast : ℕ → List (List Fraction) → List (List Fraction) → ℤ → ℕ → EigenError
    → Type 0
IfVectorPast n found vectors p power Eigen = ⊥
IfVectorPast n found vectors p power (Range sum) = ⊥
IfVectorPast n found vectors p power (Wide candidate k row) =
    (candidate ≡ p) × (k ≡ power) × ((before : ℕ) × (row ≡ n + suc before)
    × IsPastNew n found vectors before)
IfVectorPast n found vectors p power Memory = Unit {0}

abbrev pub IfRowPast : List (List Fraction) → List Fraction → ℤ → ℕ → ℕ → EigenError → Type 0
IfRowPast rows v p power row Eigen = ⊥
IfRowPast rows v p power row (Range sum) = ⊥
IfRowPast rows v p power row (Wide candidate k r) = (candidate ≡ p) × (k ≡ power) × (r ≡ row)
    × ((target : ℕ) × IsPastTarget rows v target)
IfRowPast rows v p power row Memory = Unit {0}

abbrev pub IsPastPower : ℕ → List (List Fraction) → ℤ → ℕ → ℕ → Type 0
IsPastPower n rows p zero row = ⊥
IsPastPower n rows p (suc k) row = IsTried n rows p k × IsPastIn n rows p k row

abbrev pub IfPastIn : ℕ → List (List Fraction) → EigenError → Type 0
IfPastIn n rows Eigen = ⊥
IfPastIn n rows (Range sum) = ⊥
IfPastIn n rows (Wide candidate power row) = IsPastPower n rows candidate power row
IfPastIn n rows Memory = Unit {0}
