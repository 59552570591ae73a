-- The inhomogeneity of a form's recurrence, exactly as lists of terms, and what is past in making it.
--   collect_terms p                 like terms collected, in descending order
--   part w rests                the form w of the rests
--   part_by_forms base m w rests ps     composed with the closed forms ps of m variables
--   IsBy w matrix back by       by is w times the matrix times the inverse of the forms
--   IsBefore w matrix back done p     p is the form by of earlier forms
--   inhomogeneity_in base m w rests ps by done    the inhomogeneity, with earlier forms by the numbers `by`, made normal
--   IsInhomogeneity base m w rests ps matrix back done q     q is that
--   IsPastInhomogeneity base m w rests ps matrix back done     a number or a weight on the way is past
use Rattle.std.specs.Prelude.{◌≡◌, ◌⊎◌, ℕ, List, ◌++◌, length}
use Rattle.algebra.specs.Fraction.{Fraction, ℚ, rationals, fractions, fraction_size}
use Rattle.algebra.specs.Size.{IsPast}
use Rattle.polynomials.specs.Order.{grevlex}
use Rattle.polynomials.specs.Terms.{Terms, compose}
use Rattle.polynomials.specs.Weight.{weight, IsPastSum, IsPastComposition}
use Rattle.machines.specs.Collect.{collect}
use Rattle.solvable_maps.specs.Expo.{with_normal_keys}
use Rattle.solvable_maps.specs.Inverse.{IsProduct}
use Rattle.solvable_maps.specs.Iterations.{width}
use Rattle.closed_forms.specs.Products.{IsPastRow}
use Rattle.closed_forms.specs.Sums.{mix, IsPastMix}

abbrev pub collect_terms : Terms Fraction → Terms Fraction
collect_terms p = collect rationals grevlex p

abbrev pub part : List Fraction → List (Terms Fraction) → Terms Fraction
part w rests = collect_terms (mix w rests)

abbrev pub part_by_forms : List ℕ → ℕ → List Fraction → List (Terms Fraction)
    → List (Terms Fraction)
    → Terms Fraction
part_by_forms base m w rests ps = collect_terms (compose ℚ (width (length base) m) (part w rests)
    ps)

pub record IsBy (w : List Fraction) (matrix back : List (List Fraction)) (by : List Fraction)
    : Type 0 where
  pub turned : List Fraction
  pub first : IsProduct (length w) w matrix turned
  pub second : IsProduct (length w) turned back by

-- the form by of earlier forms
pub record IsBefore (w : List Fraction) (matrix back : List (List Fraction))
    (done : List (Terms Fraction)) (p : Terms Fraction) : Type 0 where
  pub by : List Fraction
  pub is_by : IsBy w matrix back by
  pub terms : p ≡ part by done

abbrev pub both : List ℕ → ℕ → List Fraction → List (Terms Fraction) → List (Terms Fraction)
    → List Fraction → List (Terms Fraction) → Terms Fraction
both base m w rests ps by done = collect_terms (part_by_forms base m w rests ps ++ part by done)

abbrev pub inhomogeneity_in : List ℕ → ℕ → List Fraction → List (Terms Fraction)
    → List (Terms Fraction)
    → List Fraction → List (Terms Fraction) → Terms Fraction
inhomogeneity_in base m w rests ps by done =
    collect_terms (with_normal_keys (length base) (both base m w rests ps by done))

pub record IsInhomogeneity (base : List ℕ) (m : ℕ) (w : List Fraction)
    (rests ps : List (Terms Fraction))
    (matrix back : List (List Fraction)) (done : List (Terms Fraction)) (q : Terms Fraction)
    : Type 0 where
  pub by : List Fraction
  pub is_by : IsBy w matrix back by
  pub terms : q ≡ inhomogeneity_in base m w rests ps by done

abbrev pub IsPastMoved : List Fraction → List (Terms Fraction) → List (Terms Fraction) → Type 0
IsPastMoved w rests ps = IsPastMix w rests ⊎ IsPastComposition fractions (part w rests) ps

pub data IsPastBefore (w : List Fraction) (matrix back : List (List Fraction))
    (done : List (Terms Fraction)) : Type 0 where
  turned : IsPastRow (length w) w matrix → IsPastBefore w matrix back done
  back : (turned : List Fraction) → IsProduct (length w) w matrix turned
      → IsPastRow (length w) turned back → IsPastBefore w matrix back done
  before : (by : List Fraction) → IsBy w matrix back by → IsPastMix by done
      → IsPastBefore w matrix back done

pub data IsPastInhomogeneity (base : List ℕ) (m : ℕ) (w : List Fraction)
    (rests ps : List (Terms Fraction))
    (matrix back : List (List Fraction)) (done : List (Terms Fraction)) : Type 0 where
  moved_past : IsPastMoved w rests ps → IsPastInhomogeneity base m w rests ps matrix back done
  before_past : IsPastBefore w matrix back done → IsPastInhomogeneity base m w rests ps matrix back
      done
  sum_past : (by : List Fraction) → IsBy w matrix back by
      → IsPastSum fractions (part_by_forms base m w rests ps) (part by done)
      → IsPastInhomogeneity base m w rests ps matrix back done
  normal_past : (by : List Fraction) → IsBy w matrix back by
      → IsPast (weight fraction_size (both base m w rests ps by done))
      → IsPastInhomogeneity base m w rests ps matrix back done
