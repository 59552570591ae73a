-- The matrices of a map's classes, and the base of their eigenvalues.
--   class_matrix images g     the linear part of the polynomials of g on g's own variables
--   IsClass images g          g is the class of a variable, in declared order
--   Passes images g           no refusal: the matrix splits, and where g has two or more variables its sums are within the limit and no number is too wide
--   column images g j         the numbers of variable j in the polynomials of the class g
--   IsEigenvalue images x     a combination of the variables of a class, not zero, is by the class's matrix x times itself
--   sizes_of values           the absolute values of the numerators, and the denominators
--   IsFormBase images base    the base of the sizes of all eigenvalues but 0
--   first_of g                the first variable of a class
--   IsReachedClass images g   a class of a solvable map, before which, by its first variable, all pass
use Rattle.std.specs.Prelude.{◌≡◌, ◌≢◌, ℕ, ◌<◌, ◌≤◌, List, [], ◌∷◌, ◌++◌, map, length, unsigned_abs}
use Rattle.algebra.specs.Each.{Each}
use Rattle.algebra.specs.In.{In}
use Rattle.algebra.specs.Fraction.{Fraction, ℚ}
use Rattle.polynomials.specs.Terms.{Terms, coefficient, sum_of_products}
use Rattle.exponentials.specs.Base.{IsTheBase}
use Rattle.solvable_maps.specs.Dependency.{IsNonlinearCycle}
use Rattle.solvable_maps.specs.Class.{IsClassOf}
use Rattle.solvable_maps.specs.Uses.{uses, strongly, poly_at, unit}
use Rattle.vectors.specs.Matrices.{SplitsAt, greatest_sum}
use Rattle.vectors.specs.Causes.{limit, IsTooWide}

abbrev pub class_matrix : List (Terms Fraction) → List ℕ → List (List Fraction)
class_matrix images g =
    map (λ i. map (λ j. coefficient ℚ (poly_at images i) (unit (length images) j)) g) g

pub record IsClass (images : List (Terms Fraction)) (g : List ℕ) : Type 0 where
  pub of : ℕ
  pub within : of < length images
  pub is : IsClassOf (uses images) (length images) of g

pub record Passes (images : List (Terms Fraction)) (g : List ℕ) : Type 0 where
  pub splits : SplitsAt (length g) (class_matrix images g)
  pub within : 2 ≤ length g → greatest_sum (length g) (class_matrix images g) ≤ limit (length g)
  pub narrow : 2 ≤ length g → IsTooWide (length g) (class_matrix images g) → ⊥

module _ (images : List (Terms Fraction)) where
  abbrev pub column : List ℕ → ℕ → List Fraction
  column g j = map (λ i. coefficient ℚ (poly_at images i) (unit (length images) j)) g

  pub record IsEigenvalue (x : Fraction) : Type 0 where
    pub class : List ℕ
    pub is : IsClass images class
    pub vector : List Fraction
    pub nonzero : Each (λ a. a ≡ ℚ.zero) vector → ⊥
    pub eigen : map (λ j. sum_of_products ℚ vector (column class j)) class ≡ map (ℚ.mul x) vector

abbrev pub sizes_of : List Fraction → List ℕ
sizes_of values = map (λ (c : Fraction). unsigned_abs c.num) values ++ map (λ (c : Fraction). c.den)
    values

pub record IsFormBase (images : List (Terms Fraction)) (base : List ℕ) : Type 0 where
  pub values : List Fraction
  pub all : (c : Fraction) → IsEigenvalue images c → c ≢ ℚ.zero → In c values
  pub only : (c : Fraction) → In c values → IsEigenvalue images c
  pub is : IsTheBase (sizes_of values) base

abbrev pub first_of : List ℕ → ℕ
first_of [] = 0
first_of (i ∷ g) = i

pub record IsReachedClass (images : List (Terms Fraction)) (g : List ℕ) : Type 0 where
  pub solvable : (vs : List ℕ) → IsNonlinearCycle (uses images) (strongly images) vs → ⊥
  pub is : IsClass images g
  pub before : (h : List ℕ) → IsClass images h → first_of h < first_of g → Passes images h
