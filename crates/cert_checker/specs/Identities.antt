-- The identities of a certificate, over lists of terms.
--   StartHolds m basis images i      element i composed with the images is 0
--   StepHolds m basis images rows i  it is the combination of row i with the elements
--   StartIsPast basis images i       the weight of the composition is past
--   StepIsPast basis images rows i   that weight is, or one of the combination
--   FirstFailure P n o               o is the first number below n at which P fails, or none where there is none
use Rattle.std.specs.Prelude.{◌⊎◌, ℕ, ◌<◌, List, [], get_or, Option, Some, None}
use Rattle.algebra.specs.Fraction.{Fraction, ℚ, fractions}
use Rattle.polynomials.specs.Terms.{Terms, Same, combination, compose}
use Rattle.polynomials.specs.Weight.{IsPastComposition}
use Rattle.loops.specs.First.{IsFirstFailure}
use Rattle.task_lists.specs.Past.{IsPastCombination}

module _ (m : ℕ) (basis images : List (Terms Fraction)) where
  abbrev pub StartHolds : ℕ → Type 0
  StartHolds i = Same ℚ (compose ℚ m (get_or basis i []) images) []

  abbrev pub StepHolds : List (List (Terms Fraction)) → ℕ → Type 0
  StepHolds rows i = Same ℚ (compose ℚ m (get_or basis i []) images)
      (combination ℚ (get_or rows i []) basis)

module _ (basis images : List (Terms Fraction)) where
  abbrev pub StartIsPast : ℕ → Type 0
  StartIsPast i = IsPastComposition fractions (get_or basis i []) images

  abbrev pub StepIsPast : List (List (Terms Fraction)) → ℕ → Type 0
  StepIsPast rows i = StartIsPast i ⊎ IsPastCombination (get_or rows i []) basis

abbrev pub FirstFailure : (ℕ → Type 0) → ℕ → Option ℕ → Type 0
FirstFailure P n None = (i : ℕ) → i < n → P i
FirstFailure P n (Some i) = IsFirstFailure P n i
