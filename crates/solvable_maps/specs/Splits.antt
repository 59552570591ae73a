-- Classes that have forms whose values, but 0, are numbers of a base.
--   IsOfBase base x        x is a product of whole powers of the base, or the opposite of one
--   HasForms base images g     the class g of the map has such forms
use Rattle.std.specs.Prelude.{◌≡◌, ◌≢◌, ℕ, ℤ, Bool, List, length}
use Rattle.algebra.specs.Each.{Each}
use Rattle.algebra.specs.Fraction.{Fraction, ℚ}
use Rattle.polynomials.specs.Terms.{Terms}
use Rattle.exponentials.specs.Powers.{number, negate_if}
use Rattle.vectors.specs.Matrices.{AreForms}
use Rattle.solvable_maps.specs.Classes.{class_matrix}

pub record IsOfBase (base : List ℕ) (x : Fraction) : Type 0 where
  pub negative : Bool
  pub by : List ℤ
  pub size : length by ≡ length base
  pub is : negate_if negative (number base by) ≡ x

pub record HasForms (base : List ℕ) (images : List (Terms Fraction)) (g : List ℕ) : Type 0 where
  pub forms : List (List Fraction)
  pub values : List Fraction
  pub are : AreForms (length g) (class_matrix images g) forms values
  pub numbers : Each (λ x. x ≢ ℚ.zero → IsOfBase base x) values
