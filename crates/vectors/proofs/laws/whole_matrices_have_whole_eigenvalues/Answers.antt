use Rattle.std.proofs.Common.{◌≡◌, ℕ, ℤ, List, [], ◌∷◌, refl, ap, ap₂, ◌∙◌, length}
use mathlib.Core.Path.{fun_ext}
use native.Mathlib.Nat as N
use Rattle.algebra.specs.Fraction.{Fraction}
use Rattle.algebra.proofs.Fractions.{ℚ_ring, ℚ_field}
use Rattle.algebra.proofs.Wholes.{of_int-whole}
use Rattle.vectors.specs.Sequences.{times_matrix, column_sum}
use Rattle.vectors.specs.WholeMatrices.{over_fractions, IsEigenvalue, IsWholeWithin, greatest_column_sum}
use Rattle.vectors.proofs.FractionEigen.{ℚ_fractions, as_fractions, fraction_root, WholeRoot}
use Rattle.vectors.proofs.SplitDecided.{at_most_greatest}
use Rattle.vectors.proofs.laws.whole_matrices_have_whole_eigenvalues.Goals as goal

same_rows : (rows : List (ℕ → ℤ)) → as_fractions ℚ_field ℚ_fractions rows ≡ over_fractions rows
same_rows [] = refl
same_rows (r ∷ rows) = ap₂ (λ x xs. x ∷ xs) (fun_ext (λ j. of_int-whole (r j))) (same_rows rows)

whole_within : (rows : List (ℕ → ℤ)) (c : Fraction) → IsEigenvalue rows c
    → IsWholeWithin (greatest_column_sum rows) c
whole_within rows c e =
    let w : WholeRoot ℚ_field ℚ_fractions rows c = fraction_root ℚ_field ℚ_fractions rows c e.row
    e.past (λ j. ap (λ m. times_matrix ℚ_ring e.row m j) (same_rows rows) ∙ e.is j) e.place
    e.some in
    record {
      number = w.root;
      is = w.is ∙ of_int-whole w.root;
      within = N.le_trans w.bound.under (at_most_greatest (length rows) (column_sum rows)
          w.bound.column w.bound.within);
    }

pub returns : goal.returns
returns c = λ rows value e. whole_within rows value e
