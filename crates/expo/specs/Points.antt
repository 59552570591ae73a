-- What stands for n, s, u, v and the variables at a number of iterations, and what is past in making it.
--   number_image m n        the number n among the polynomials of m variables: 0 has no term
--   powers_by inverted base n     the n-th powers of the base's numbers, or of their inverses
--   iteration_images base m n    n, (-1)^n, the powers of the base, those of the inverses, and the variables
--   IsPastPower x n         a power of x, up to the n-th, does not fit
--   IsPastPoint base n      that is so of a number of the base, or of its inverse
use Rattle.std.specs.Prelude.{◌⊎◌, ◌≤◌, ℕ, zero, suc, pos, Bool, List, [], ◌∷◌, ◌++◌, map}
use Rattle.algebra.specs.Arithmetic.{power}
use Rattle.algebra.specs.In.{In}
use Rattle.algebra.specs.Fraction.{Fraction, ℚ, fraction_size, whole, inverse}
use Rattle.algebra.specs.Size.{IsPast}
use Rattle.polynomials.specs.Terms.{Terms, constant, variables}
use Rattle.expo.specs.Images.{factor}
use Rattle.solvable_maps.specs.Iterations.{powers, inverses, sign}

abbrev pub number_image : ℕ → ℕ → Terms Fraction
number_image m zero = []
number_image m (suc n) = constant m (whole (pos (suc n)))

abbrev pub powers_by : Bool → List ℕ → ℕ → List Fraction
powers_by inverted base n = map (λ b. power ℚ (factor inverted b) n) base

abbrev pub iteration_images : List ℕ → ℕ → ℕ → List (Terms Fraction)
iteration_images base m n =
    number_image m n ∷ constant m (sign n) ∷ (map (constant m) (powers base n)
    ++ (map (constant m) (inverses base n) ++ variables ℚ m))

pub record IsPastPower (x : Fraction) (n : ℕ) : Type 0 where
  pub exponent : ℕ
  pub within : exponent ≤ n
  pub past : IsPast (fraction_size (power ℚ x exponent))

pub record IsPastPoint (base : List ℕ) (n : ℕ) : Type 0 where
  pub number : ℕ
  pub within : In number base
  pub past : IsPastPower (whole (pos number)) n ⊎ IsPastPower (inverse (whole (pos number))) n
