-- The splittings of a map's classes.
--   groups_in groups                the classes as lists of variables
--   IsSplitOf images g split        the forms and values that the matrix of the class g, which is not refused, is split into
--   IsSplitAmong images groups k found     found is that of the one of these classes that begins with k, where there is one
--   IsSplitAt images k found        the same of all classes of the map;  AreSplits images splits: of each variable, AreSplitsTo: of the first ones
--   IfRefusedAt images P e          the error tells of a class for which P holds, and why it does not split
use Rattle.std.specs.Prelude.{◌≡◌, ◌<◌, ◌≤◌, ℕ, List, map, length, get_or, Option, Some}
use Rattle.std.specs.declared.alloc.Global.{Global}
use Rattle.std.specs.declared.vec.Vec.{Vec}
use Rattle.algebra.specs.In.{In}
use Rattle.algebra.specs.Fraction.{Fraction}
use Rattle.polynomials.specs.Terms.{Terms}
use Rattle.vectors.specs.Matrices.{AreForms}
use Rattle.linear.specs.Rows.{fractions_of, rows_of}
use Rattle.solvable_maps.specs.Classes.{class_matrix, IsClass, Passes, first_of}
use Rattle.eigen_split.specs.Refusal as eigen
use Rattle.eigen_split.specs.declared.EigenError.{EigenError}
use Rattle.eigen_split.specs.declared.EigenError.TheVariants as eigen_error
use Rattle.eigen_split.specs.declared.splitting.Split.{Split}
use Rattle.closed_forms.specs.declared.errors.FormsError.{FormsError}
use Rattle.closed_forms.specs.declared.errors.FormsError.TheVariants.{NotSolvable, Eigen, Range, WideSplit, LimitForm, WideForm, Memory}

abbrev pub groups_in : List (Vec ℕ Global) → List (List ℕ)
groups_in groups = map (λ g. g.items) groups

pub record IsSplitOf (images : List (Terms Fraction)) (g : List ℕ) (split : Split) : Type 0 where
  pub are : AreForms (length g) (class_matrix images g) (rows_of split.forms.items)
      (fractions_of split.values.items)
  pub found : eigen.IsSplitInto (length g) (class_matrix images g) (rows_of split.forms.items)
      (fractions_of split.values.items)
  pub passes : Passes images g

pub record IsSplitAmong (images : List (Terms Fraction)) (groups : List (List ℕ)) (k : ℕ)
    (found : Option Split) : Type 0 where
  pub every : (g : List ℕ) → In g groups → first_of g ≡ k
      → (split : Split) × (found ≡ Some split) × IsSplitOf images g split
  pub only : (split : Split) → found ≡ Some split
      → (g : List ℕ) × In g groups × (first_of g ≡ k) × IsSplitOf images g split

pub record IsSplitAt (images : List (Terms Fraction)) (k : ℕ) (found : Option Split) : Type 0 where
  pub every : (g : List ℕ) → IsClass images g → first_of g ≡ k
      → (split : Split) × (found ≡ Some split) × IsSplitOf images g split
  pub only : (split : Split) → found ≡ Some split
      → (g : List ℕ) × IsClass images g × (first_of g ≡ k) × IsSplitOf images g split

pub record AreSplits (images : List (Terms Fraction)) (splits : List (Option Split)) : Type 0 where
  pub count : length splits ≡ length images
  pub each : (k : ℕ) (d : Option Split) → k < length splits → IsSplitAt images k (get_or splits k d)

-- of the first variables
pub record AreSplitsTo (images : List (Terms Fraction)) (splits : List (Option Split))
    : Type 0 where
  pub few : length splits ≤ length images
  pub each : (k : ℕ) (d : Option Split) → k < length splits → IsSplitAt images k (get_or splits k d)

-- why the matrix of a class does not split
abbrev pub IfRefusedMatrix : List (Terms Fraction) → List ℕ → EigenError → Type 0
IfRefusedMatrix images g e = eigen.IfSplitRefused (length g) (class_matrix images g) e

abbrev pub IfRefusedAt : List (Terms Fraction) → (List ℕ → Type 0) → FormsError → Type 0
IfRefusedAt images P (NotSolvable cycle) = ⊥
IfRefusedAt images P (Eigen class) =
    P class.items × IfRefusedMatrix images class.items eigen_error.Eigen
IfRefusedAt images P (Range class sum) =
    P class.items × IfRefusedMatrix images class.items (eigen_error.Range sum)
IfRefusedAt images P (WideSplit class candidate power row) =
    P class.items × IfRefusedMatrix images class.items (eigen_error.Wide candidate power row)
IfRefusedAt images P (LimitForm variable) = ⊥
IfRefusedAt images P (WideForm variable) = ⊥
IfRefusedAt images P Memory = Unit {0}
