-- Points with whole numbers from 0.
--   wholes xs              the numbers xs, as fractions
--   IsFirstPoint m q xs    a point for the m variables at which q isn't zero, and q is zero at each
--                          lesser one
--   substitution m xs      the numbers xs for the first of m variables, the others for themselves
--   IsZeroWith m q xs      with the numbers xs for the first variables q is 0
--   IsFirstPrefix m q xs   it isn't, and it is with each lesser list of as many numbers
use Rattle.std.specs.Prelude.{◌≡◌, ◌≢◌, ℕ, pos, List, [], ◌++◌, map, length, drop}
use Rattle.algebra.specs.Fraction.{Fraction, ℚ, whole}
use Rattle.polynomials.specs.Terms.{Terms, Same, constant, variables, value_at, compose}
use Rattle.corollaries.specs.Word.{IsLess}

unfoldable pub wholes : List ℕ → List Fraction
wholes xs = map (λ n. whole (pos n)) xs

pub record IsFirstPoint (m : ℕ) (q : Terms Fraction) (xs : List ℕ) : Type 0 where
  pub count : length xs ≡ m
  pub off : value_at ℚ q (wholes xs) ≢ ℚ.zero
  pub first : (ys : List ℕ) → length ys ≡ m → IsLess ys xs → value_at ℚ q (wholes ys) ≡ ℚ.zero

unfoldable pub substitution : ℕ → List ℕ → List (Terms Fraction)
substitution m xs = map (constant m) (wholes xs) ++ drop (length xs) (variables ℚ m)

abbrev pub IsZeroWith : ℕ → Terms Fraction → List ℕ → Type 0
IsZeroWith m q xs = Same ℚ (compose ℚ m q (substitution m xs)) []

pub record IsFirstPrefix (m : ℕ) (q : Terms Fraction) (xs : List ℕ) : Type 0 where
  pub fails : ¬ (IsZeroWith m q xs)
  pub first : (ys : List ℕ) → length ys ≡ length xs → IsLess ys xs → IsZeroWith m q ys
