-- What a refusal tells of a matrix of n rows.
--   IsPastAt n rows row          adding the column `row` of a matrix, from 1, is past
--   IsPastNew n found vectors place     adding the vector at this place, behind those before it, to the forms found is past
--   IsPastForm n rows p k row    that of a vector of the kernel of the power k + 1; row is n more than its place, from 1
--   IsCandidate n rows p         p is within the greatest column sum, and 0 only where the others have fewer forms than there are rows
--   IsTried n rows p k           the search takes the power k + 1 of the candidate p: the kernel of each power before has grown
--   IsPastIn n rows p k row      adding this column of that power, or above n this vector of its kernel, is past
--   IsWithin n rows              the greatest column sum is within the limit, and nothing is too wide
--   IsPastRow n rows p power row     what `Wide` tells: of power 0, with candidate 0, that something is too wide before the search,
--                                of another one a column or a vector of it, which the search takes
--   IsUnsplit n rows             the matrix doesn't split, and where it has two or more rows it is within the limit
--   IsOutOfRange n rows sum      it has two or more rows, and the sum is the greatest column sum, above the limit
--   IsWideAt n rows candidate power row     it has two or more rows, and this row is past
--   IfSplitRefused n rows e           the cause of each refusal
--   Ascending values             no value is below an earlier one, but those that are 0 stand last; MayFollow c later: of two values
--   IsSingle a forms values      the form 1 with the value a
--   IsSearched n rows forms values      what the whole search has found, candidate by candidate, up to the greatest column sum, and 0 last
--   IsSplitInto n rows forms values     what a split answers: of one number the form 1 with it, of more rows what the whole search
--                                has found, the kernels' vectors in order
--   IsAnswer n rows result       the forms and values, or that cause
use Rattle.std.specs.Prelude.{◌≡◌, ◌≢◌, ◌⊎◌, ℕ, zero, suc, ◌+◌, ◌<◌, ◌≤◌, ℤ, pos, List, [], ◌∷◌, ◌++◌, map, take, length, Result, Ok, Err}
use Rattle.std.specs.declared.cmp.Ordering.TheVariants.{Less}
use Rattle.algebra.specs.Each.{Each}
use Rattle.algebra.specs.Fraction.{Fraction, ℚ, fraction_order}
use lib.IntN.{nat_abs}
use Rattle.vectors.specs.Adding.{IsEchelonOf, IsPastTarget}
use Rattle.vectors.specs.Matrices.{greatest_sum, SplitsAt, AreForms, AreSearched}
use Rattle.vectors.specs.Causes.{limit, row_at, column, numbers_to, IsTooWide, IsPastColumn, IsPastVector}
use Rattle.eigen_split.specs.Search.{IsKernelAt, AreNew, multiple, FormsTo, HasGrownTo, IsMissing, IsWholeSearch}
use Rattle.linear.specs.Rows.{fractions_of, rows_of}
use Rattle.eigen_split.specs.declared.splitting.Split.{Split}
use Rattle.eigen_split.specs.declared.EigenError.{EigenError}
use Rattle.eigen_split.specs.declared.EigenError.TheVariants.{Eigen, Range, Wide, Memory}

pub record IsPastAt (n : ℕ) (rows : List (List Fraction)) (row : ℕ) : Type 0 where
  pub before : ℕ
  pub number : row ≡ suc before
  pub target : ℕ
  pub echelon : List (List Fraction)
  pub is : IsEchelonOf n (map (λ j. column j rows) (numbers_to before)) echelon
  pub past : IsPastTarget echelon (column before rows) target

pub record IsPastNew (n : ℕ) (found vectors : List (List Fraction)) (place : ℕ) : Type 0 where
  pub within : place < length vectors
  pub new : List (List Fraction)
  pub are : AreNew found (take place vectors) new
  pub past : IsPastVector n (found ++ new) (row_at vectors place)

pub record IsPastForm (n : ℕ) (rows : List (List Fraction)) (p : ℤ) (k row : ℕ) : Type 0 where
  pub before : ℕ
  pub number : row ≡ n + suc before
  pub found : List (List Fraction)
  pub are : FormsTo n rows p k found
  pub vectors : List (List Fraction)
  pub kernel : IsKernelAt n (multiple n rows p k) vectors
  pub past : IsPastNew n found vectors before

pub record IsCandidate (n : ℕ) (rows : List (List Fraction)) (p : ℤ) : Type 0 where
  pub within : nat_abs p ≤ greatest_sum n rows
  pub last : p ≡ pos 0 → IsMissing n rows

pub record IsTried (n : ℕ) (rows : List (List Fraction)) (p : ℤ) (k : ℕ) : Type 0 where
  pub candidate : IsCandidate n rows p
  pub few : suc k ≤ n
  pub grown : HasGrownTo n rows p k

abbrev pub IsWithin : ℕ → List (List Fraction) → Type 0
IsWithin n rows = (greatest_sum n rows ≤ limit n) × (IsTooWide n rows → ⊥)

abbrev pub IsPastIn : ℕ → List (List Fraction) → ℤ → ℕ → ℕ → Type 0
IsPastIn n rows p k row =
    ((row ≤ n) × IsPastColumn n rows p k row) ⊎ ((n < row) × IsPastForm n rows p k row)

abbrev pub IsPastRow : ℕ → List (List Fraction) → ℤ → ℕ → ℕ → Type 0
IsPastRow n rows p zero row = (p ≡ pos 0) × (row ≡ 0) × IsTooWide n rows
IsPastRow n rows p (suc k) row = IsWithin n rows × IsTried n rows p k × IsPastIn n rows p k row

abbrev pub IsUnsplit : ℕ → List (List Fraction) → Type 0
IsUnsplit n rows = (SplitsAt n rows → ⊥) × (2 ≤ n → IsWithin n rows)

abbrev pub IsOutOfRange : ℕ → List (List Fraction) → ℤ → Type 0
IsOutOfRange n rows sum =
    (2 ≤ n) × (sum ≡ pos (greatest_sum n rows)) × (limit n < greatest_sum n rows)
    × (IsTooWide n rows → ⊥)

abbrev pub IsWideAt : ℕ → List (List Fraction) → ℤ → ℕ → ℕ → Type 0
IsWideAt n rows candidate power row = (2 ≤ n) × IsPastRow n rows candidate power row

abbrev pub IfSplitRefused : ℕ → List (List Fraction) → EigenError → Type 0
IfSplitRefused n rows Eigen = IsUnsplit n rows
IfSplitRefused n rows (Range sum) = IsOutOfRange n rows sum
IfSplitRefused n rows (Wide candidate power row) = IsWideAt n rows candidate power row
IfSplitRefused n rows Memory = Unit {0}

-- behind c: 0, or where c isn't 0 what isn't below it in the order of the fractions
abbrev pub MayFollow : Fraction → Fraction → Type 0
MayFollow c later = (later ≡ ℚ.zero) ⊎ ((c ≢ ℚ.zero) × (fraction_order later c ≢ Less))

abbrev pub Ascending : List Fraction → Type 0
Ascending [] = Unit {0}
Ascending (c ∷ values) = Each (MayFollow c) values × Ascending values

pub record IsSingle (a : Fraction) (forms : List (List Fraction)) (values : List Fraction)
    : Type 0 where
  pub forms_are : forms ≡ (ℚ.one ∷ []) ∷ []
  pub values_are : values ≡ a ∷ []

abbrev pub IsSearched : ℕ → List (List Fraction) → List (List Fraction) → List Fraction → Type 0
IsSearched n rows forms values =
    IsWholeSearch n rows (greatest_sum n rows) (record { forms = forms; values = values })

pub record IsSplitInto (n : ℕ) (rows forms : List (List Fraction)) (values : List Fraction)
    : Type 0 where
  pub single : n ≡ 1 → (a : Fraction) → rows ≡ (a ∷ []) ∷ [] → IsSingle a forms values
  pub search : 2 ≤ n → IsSearched n rows forms values

-- forms and values of a matrix, all that there are, or the cause of a refusal
abbrev pub IsAnswer : ℕ → List (List Fraction) → Result Split EigenError → Type 0
IsAnswer n rows (Ok found) =
    AreForms n rows (rows_of found.forms.items) (fractions_of found.values.items)
    × SplitsAt n rows
    × AreSearched n rows (rows_of found.forms.items) (fractions_of found.values.items)
    × Ascending (fractions_of found.values.items)
    × IsWithin n rows
    × IsSearched n rows (rows_of found.forms.items) (fractions_of found.values.items)
IsAnswer n rows (Err e) = IfSplitRefused n rows e
