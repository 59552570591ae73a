-- Bases of the kernel of a list of rows.
--   IsInKernel F n rows y    y is of width n, and its product with each row is zero
--   IsKernelBasis F n rows xs    the xs are independent, and their combinations are exactly what is in the kernel
use Rattle.std.specs.Prelude.{◌≡◌, ℕ, ◌≤◌, List}
use Rattle.algebra.specs.Ring.{Field}
use Rattle.vectors.specs.Space.{IsCombination, Independent}
use Rattle.vectors.specs.Sequences.{sequences}
use Rattle.vectors.specs.Echelon.{IsKernel}

module _ {A : Type 0} (F : Field A) where
  abbrev pub IsInKernel : ℕ → List (ℕ → A) → (ℕ → A) → Type 0
  IsInKernel n rows y = IsKernel F n rows y × ((i : ℕ) → n ≤ i → y i ≡ F.zero)

  pub record IsKernelBasis (n : ℕ) (rows xs : List (ℕ → A)) : Type 0 where
    pub independent : Independent (sequences F.ring ℕ) xs
    pub inside : (y : ℕ → A) → IsCombination (sequences F.ring ℕ) xs y → IsInKernel n rows y
    pub all : (y : ℕ → A) → IsInKernel n rows y → IsCombination (sequences F.ring ℕ) xs y
