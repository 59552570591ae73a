-- The branch after a number of iterations, as the code makes it, and how many values of the classes' forms are zero.
--   zeros_in values              how many of the values are zero
--   some_of values              those that aren't zero
--   next_of m images state       the images with the state, of m variables, for their variables
--   after images n               the variables' polynomials after n iterations;  states_to images n: after 0 to n iterations
--   IsPastNextState images state     a composition that makes the next one is past
--   IsPastState images n         that is so of one of those up to n
--   AreZeros images z            the values of all classes' forms have so many zeros
use Rattle.std.specs.Prelude.{◌≡◌, ◌<◌, ℕ, zero, suc, List, [], ◌∷◌, ◌++◌, map, cond, length, Option}
use Rattle.algebra.specs.Fraction.{Fraction, ℚ, fractions, is_zero}
use Rattle.polynomials.specs.Terms.{Terms, variables, compose}
use Rattle.polynomials.specs.Weight.{IsPastComposition}
use Rattle.solvable_maps.specs.Uses.{poly_at}
use Rattle.eigen_split.specs.declared.splitting.Split.{Split}
use Rattle.closed_forms.specs.Inhomogeneities.{collect_terms}
use Rattle.closed_forms.specs.Splits.{AreSplits}
use Rattle.closed_forms.specs.Values.{values_in}

abbrev pub zeros_in : List Fraction → ℕ
zeros_in [] = 0
zeros_in (c ∷ values) = cond (is_zero c) (suc (zeros_in values)) (zeros_in values)

abbrev pub some_of : List Fraction → List Fraction
some_of [] = []
some_of (c ∷ values) = cond (is_zero c) (some_of values) (c ∷ some_of values)

abbrev pub next_of : ℕ → List (Terms Fraction) → List (Terms Fraction) → List (Terms Fraction)
next_of m images state = map (λ p. collect_terms (compose ℚ m p state)) images

abbrev pub after : List (Terms Fraction) → ℕ → List (Terms Fraction)
after images zero = variables ℚ (length images)
after images (suc n) = next_of (length images) images (after images n)

abbrev pub states_to : List (Terms Fraction) → ℕ → List (List (Terms Fraction))
states_to images zero = after images zero ∷ []
states_to images (suc n) = states_to images n ++ after images (suc n) ∷ []

pub record IsPastNextState (images state : List (Terms Fraction)) : Type 0 where
  pub place : ℕ
  pub within : place < length images
  pub past : IsPastComposition fractions (poly_at images place) state

pub record IsPastState (images : List (Terms Fraction)) (n : ℕ) : Type 0 where
  pub iteration : ℕ
  pub before : iteration < n
  pub past : IsPastNextState images (after images iteration)

pub record AreZeros (images : List (Terms Fraction)) (z : ℕ) : Type 0 where
  pub splits : List (Option Split)
  pub are : AreSplits images splits
  pub count : zeros_in (values_in splits) ≡ z
