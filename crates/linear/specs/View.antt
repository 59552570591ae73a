-- What an `Rref` is seen as.
--   Echelon         its width and its rows
--   IsReducedEchelon n rows   rows of width n that are a reduced echelon list
--   IsWithRow e row f  of whatever rows e is the echelon list, f is that of these and the row
--   IsIndependent e row     the row is no combination of its rows
--   AreKernelOf e vs     vs are the kernel of its rows
use Rattle.std.specs.Prelude.{ℕ, List, [], ◌∷◌, ◌++◌}
use Rattle.algebra.specs.Fraction.{Fraction}
use Rattle.vectors.specs.Adding.{IsEchelonOf, IsCombinationOf, AreKernel}

pub record Echelon : Type 0 where
  pub width : ℕ
  pub rows : List (List Fraction)

abbrev pub IsReducedEchelon : ℕ → List (List Fraction) → Type 0
IsReducedEchelon n rows = IsEchelonOf n rows rows

abbrev pub IsWithRow : Echelon → List Fraction → Echelon → Type 0
IsWithRow e row f = (given : List (List Fraction)) → IsEchelonOf e.width given e.rows
    → IsEchelonOf e.width (given ++ row ∷ []) f.rows

abbrev pub IsIndependent : Echelon → List Fraction → Type 0
IsIndependent e row = ¬ (IsCombinationOf e.rows row)

abbrev pub AreKernelOf : Echelon → List (List Fraction) → Type 0
AreKernelOf e vs = AreKernel e.width e.rows vs
