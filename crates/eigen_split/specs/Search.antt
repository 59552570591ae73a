-- The forms of a candidate p, for a matrix of n rows, by the powers of its multiple with whole numbers, less p.
--   IsKernelAt n rows vectors      the kernel of the echelon list of the columns of a matrix
--   IsEchelonAt n rows count e     the echelon list of the first columns
--   AreNew found vectors new     those of the vectors that are no combination of what was found before them
--   multiple rows p k              the power k + 1 of the least whole multiple of the matrix less p
--   FormsTo n rows p k found       the forms by the first k powers
--   HasKernel n rows p k m         the kernel of the k-th power has m vectors; at power 0 there are none
--   HasGrownTo n rows p k          the kernel of each of the first k powers has another number of vectors than that before
--   AreFormsOf n rows p forms      the forms by as many powers as it takes: until a kernel has not grown, or as many as rows
--   IsNoEigenvalue n rows c        no row but zero is multiplied by c
--   Found, IsIteration n rows p f g     what was found before and after the candidate p; IsOther: the same where 0 is passed over
--   IterationsTo n rows bound k f       what is found after the first k candidates from -bound on, but 0
--   AreOthers n rows bound f       what is found of all candidates from -bound to bound but 0
--   IsWholeSearch n rows bound f   the same, and of 0 where these have fewer forms than there are rows
--   IsMissing n rows               they have fewer forms, so 0 is a candidate
use Rattle.std.specs.Prelude.{◌≡◌, ◌≢◌, ◌⊎◌, ℕ, zero, suc, ◌<◌, ◌≤◌, ◌+◌, ◌*◌, ℤ, pos, ◌+ℤ◌, neg_ℤ, List, [], ◌∷◌, ◌++◌, map, length}
use Rattle.algebra.specs.Fraction.{Fraction, over}
use Rattle.algebra.proofs.Fractions.{ℚ_field}
use Rattle.vectors.specs.Rows.{Row, rows_of}
use Rattle.vectors.specs.Splitting.{shift}
use Rattle.vectors.specs.Adding.{IsEchelonOf, IsCombinationOf, AreKernel}
use Rattle.linear.specs.View.{Echelon}
use Rattle.vectors.specs.Matrices.{denominator, greatest_sum, times_matrix}
use Rattle.vectors.specs.Causes.{column, numbers_to, matrix_less, power}

pub record IsKernelAt (n : ℕ) (rows vectors : List (List Fraction)) : Type 0 where
  pub echelon : List (List Fraction)
  pub is : IsEchelonOf n (map (λ j. column j rows) (numbers_to n)) echelon
  pub are : AreKernel n echelon vectors

-- the echelon list of the first columns
abbrev pub IsEchelonAt : ℕ → List (List Fraction) → ℕ → Echelon → Type 0
IsEchelonAt n rows count e = (e.width ≡ n)
    × IsEchelonOf n (map (λ j. column j rows) (numbers_to count)) e.rows

abbrev pub AreNew : List (List Fraction) → List (List Fraction) → List (List Fraction) → Type 0
AreNew found [] new = new ≡ []
AreNew found (v ∷ vectors) new =
    (IsCombinationOf found v × AreNew found vectors new)
    ⊎ ((IsCombinationOf found v → ⊥) × ((rest : List (List Fraction)) × (new ≡ v ∷ rest)
    × AreNew (found ++ v ∷ []) vectors rest))

abbrev pub multiple : ℕ → List (List Fraction) → ℤ → ℕ → List (List Fraction)
multiple n rows p k = power n (matrix_less (denominator rows) p rows) k

abbrev pub FormsTo : ℕ → List (List Fraction) → ℤ → ℕ → List (List Fraction) → Type 0
FormsTo n rows p zero found = found ≡ []
FormsTo n rows p (suc k) found =
    (earlier : List (List Fraction)) × (vectors : List (List Fraction))
    × (new : List (List Fraction))
    × FormsTo n rows p k earlier × IsKernelAt n (multiple n rows p k) vectors
    × AreNew earlier vectors new × (found ≡ earlier ++ new)

abbrev pub HasKernel : ℕ → List (List Fraction) → ℤ → ℕ → ℕ → Type 0
HasKernel n rows p zero m = m ≡ 0
HasKernel n rows p (suc k) m = (vectors : List (List Fraction))
    × IsKernelAt n (multiple n rows p k) vectors × (length vectors ≡ m)

abbrev pub HasGrownTo : ℕ → List (List Fraction) → ℤ → ℕ → Type 0
HasGrownTo n rows p zero = Unit {0}
HasGrownTo n rows p (suc k) =
    HasGrownTo n rows p k
    × ((a : ℕ) × (b : ℕ) × HasKernel n rows p k a × HasKernel n rows p (suc k) b × (a ≢ b))

pub record AreFormsOf (n : ℕ) (rows : List (List Fraction)) (p : ℤ)
    (forms : List (List Fraction)) : Type 0 where
  pub powers : ℕ
  pub few : powers ≤ n
  pub made : FormsTo n rows p powers forms
  pub ended : (powers ≡ n) ⊎ ((m : ℕ) × HasKernel n rows p powers m
      × HasKernel n rows p (suc powers) m)

pub record IsNoEigenvalue (n : ℕ) (rows : List (List Fraction)) (c : Fraction) : Type 0 where
  pub is : (v : Row ℚ_field n) → shift (rows_of ℚ_field n) (times_matrix n rows) c v
      ≡ (rows_of ℚ_field n).zero → v ≡ (rows_of ℚ_field n).zero

pub record Found : Type 0 where
  pub forms : List (List Fraction)
  pub values : List Fraction

abbrev pub copies : ℕ → Fraction → List Fraction
copies zero c = []
copies (suc k) c = c ∷ copies k c

pub data IsIteration (n : ℕ) (rows : List (List Fraction)) (p : ℤ) (f g : Found) : Type 0 where
  no_eigenvalue : IsNoEigenvalue n rows (over p (denominator rows)) → g ≡ f
      → IsIteration n rows p f g
  new_forms : (forms : List (List Fraction)) → AreFormsOf n rows p forms
      → g ≡ record {
        forms = f.forms ++ forms;
        values = f.values ++ copies (length forms)
            (over p (denominator rows));
      } → IsIteration n rows p f g

-- 0 is passed over
pub data IsOther (n : ℕ) (rows : List (List Fraction)) (p : ℤ) (f g : Found) : Type 0 where
  zero_passed : p ≡ pos 0 → g ≡ f → IsOther n rows p f g
  other_iteration : p ≢ pos 0 → IsIteration n rows p f g → IsOther n rows p f g

-- found and the new ones of the vectors
pub record AreAdded (found vectors more : List (List Fraction)) : Type 0 where
  pub new : List (List Fraction)
  pub are : AreNew found vectors new
  pub is : more ≡ found ++ new

-- so many candidates, from -bound on, one after another
abbrev pub IterationsTo : ℕ → List (List Fraction) → ℕ → ℕ → Found → Type 0
IterationsTo n rows bound zero f = f ≡ record { forms = []; values = [] }
IterationsTo n rows bound (suc k) f = (e : Found) × IterationsTo n rows bound k e
    × IsOther n rows (pos k +ℤ neg_ℤ (pos bound)) e f

abbrev pub AreOthers : ℕ → List (List Fraction) → ℕ → Found → Type 0
AreOthers n rows bound f = IterationsTo n rows bound (2 * bound + 1) f

pub data IsWholeSearch (n : ℕ) (rows : List (List Fraction)) (bound : ℕ) (f : Found)
    : Type 0 where
  enough : AreOthers n rows bound f → n ≤ length f.forms → IsWholeSearch n rows bound f
  zero_last : (e : Found) → AreOthers n rows bound e → length e.forms < n
      → IsIteration n rows (pos 0) e f → IsWholeSearch n rows bound f

pub record IsMissing (n : ℕ) (rows : List (List Fraction)) : Type 0 where
  pub found : Found
  pub others : AreOthers n rows (greatest_sum n rows) found
  pub few : length found.forms < n

-- a vector goes behind the forms exactly where it is no combination of the rows
abbrev pub IsTakenIf : List (List Fraction) → List Fraction → List (List Fraction)
    → List (List Fraction) → Type 0
IsTakenIf rows v old new =
    ((IsCombinationOf rows v → ⊥) × (new ≡ old ++ v ∷ []))
    ⊎ (((IsCombinationOf rows v → ⊥) → ⊥) × (new ≡ old))
