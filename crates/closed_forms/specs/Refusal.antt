-- Why a map has no closed forms here.
--   AllPass images          no class is refused
--   IfWide base images z e    the error is that of a class whose closed forms are past, or want of memory;  IfWideIteration base images z e: or whose values at a number of iterations are
--   IsWideForm images z v   what may be past once the classes have split: what the branch does in up to z iterations, for the first variable; the closed forms
--                           of the class of v; or their values at a number of iterations
--   IsLater images v, IfLater images e     that is so, where the classes' values have z zeros
--   Refusal                 why a map has no closed forms here: the least cycle; a class that doesn't split; one whose greatest
--                           column sum is out of range; one with a row that is too wide in its splitting; the first variable of
--                           the first one that is too long, or of one whose closed forms are too wide
--   IsTooLong images v      all classes split, and v is the first variable of the first that is too long
--   IfFormRefused images e      the cause of each: that is the least cycle; or the class is the first that is refused, and this is why
--                           its matrix isn't split; or all classes split, and it is the first that is too long, or its closed forms are past
--   refusal_in e            the refusal that an error tells; want of memory tells none;  IfRefusedBy images e: it has its cause
use Rattle.std.specs.Prelude.{◌≡◌, ℕ, ℤ, List, length, Option, Some, None, IfSome}
use Rattle.algebra.specs.Fraction.{Fraction}
use Rattle.polynomials.specs.Terms.{Terms}
use Rattle.solvable_maps.specs.Dependency.{IsLeastCycle}
use Rattle.solvable_maps.specs.Uses.{uses, strongly}
use Rattle.solvable.specs.Refusal.{IsSolvable}
use Rattle.solvable_maps.specs.Classes.{class_matrix, IsClass, Passes, IsFormBase, IsReachedClass}
use Rattle.eigen_split.specs.Refusal as eigen
use Rattle.closed_forms.specs.Known.{IsWideClass, IsWideIteration}
use Rattle.closed_forms.specs.Lengths.{IsLong}
use Rattle.closed_forms.specs.States.{AreZeros, IsPastState}
use Rattle.closed_forms.specs.declared.errors.FormsError.{FormsError}
use Rattle.closed_forms.specs.declared.errors.FormsError.TheVariants.{NotSolvable, Eigen, Range, WideSplit, LimitForm, WideForm, Memory}

pub data Refusal : Type 0 where
  not_solvable : (cycle : List ℕ) → Refusal
  eigenvalues : (class : List ℕ) → Refusal
  range : (class : List ℕ) (sum : ℤ) → Refusal
  wide_split : (class : List ℕ) (candidate : ℤ) (power row : ℕ) → Refusal
  limit_form : (variable : ℕ) → Refusal
  wide_form : (variable : ℕ) → Refusal

abbrev pub AllPass : List (Terms Fraction) → Type 0
AllPass images = (g : List ℕ) → IsClass images g → Passes images g

-- the error is one of the class of v, of which Q holds
abbrev pub IfOfClass : (ℕ → Type 0) → FormsError → Type 0
IfOfClass Q (NotSolvable cycle) = ⊥
IfOfClass Q (Eigen class) = ⊥
IfOfClass Q (Range class sum) = ⊥
IfOfClass Q (WideSplit class candidate power row) = ⊥
IfOfClass Q (LimitForm variable) = ⊥
IfOfClass Q (WideForm variable) = Q variable
IfOfClass Q Memory = Unit {0}

abbrev pub IfWide : List ℕ → List (Terms Fraction) → ℕ → FormsError → Type 0
IfWide base images z e = IfOfClass (IsWideClass base images z) e

abbrev pub IfWideIteration : List ℕ → List (Terms Fraction) → ℕ → FormsError → Type 0
IfWideIteration base images z e = IfOfClass (IsWideIteration base images z) e

pub data IsWideForm (base : List ℕ) (images : List (Terms Fraction)) (z v : ℕ) : Type 0 where
  state_past : v ≡ 0 → IsPastState images z → IsWideForm base images z v
  class_past : IsWideClass base images z v → IsWideForm base images z v
  iteration_past : IsWideIteration base images z v → IsWideForm base images z v

pub record IsLater (images : List (Terms Fraction)) (v : ℕ) : Type 0 where
  pub base : List ℕ
  pub is : IsFormBase images base
  pub zeros : ℕ
  pub are : AreZeros images zeros
  pub wide : IsWideForm base images zeros v

abbrev pub IfLater : List (Terms Fraction) → FormsError → Type 0
IfLater images e = IfOfClass (IsLater images) e

pub record IsTooLong (images : List (Terms Fraction)) (v : ℕ) : Type 0 where
  pub solvable : IsSolvable images
  pub pass : AllPass images
  pub long : IsLong images v

pub record IsWide (images : List (Terms Fraction)) (v : ℕ) : Type 0 where
  pub solvable : IsSolvable images
  pub pass : AllPass images
  pub later : IsLater images v

abbrev pub IfFormRefused : List (Terms Fraction) → Refusal → Type 0
IfFormRefused images (not_solvable cycle) = IsLeastCycle (uses images) (strongly images) cycle
IfFormRefused images (eigenvalues class) =
    IsReachedClass images class × eigen.IsUnsplit (length class) (class_matrix images class)
IfFormRefused images (range class sum) =
    IsReachedClass images class × eigen.IsOutOfRange (length class) (class_matrix images class) sum
IfFormRefused images (wide_split class candidate power row) =
    IsReachedClass images class
    × eigen.IsWideAt (length class) (class_matrix images class) candidate power row
IfFormRefused images (limit_form variable) = IsTooLong images variable
IfFormRefused images (wide_form variable) = IsWide images variable

abbrev pub refusal_in : FormsError → Option Refusal
refusal_in (NotSolvable cycle) = Some (not_solvable cycle.items)
refusal_in (Eigen class) = Some (eigenvalues class.items)
refusal_in (Range class sum) = Some (range class.items sum)
refusal_in (WideSplit class candidate power row) = Some (wide_split class.items candidate power row)
refusal_in (LimitForm variable) = Some (limit_form variable)
refusal_in (WideForm variable) = Some (wide_form variable)
refusal_in Memory = None

abbrev pub IfRefusedBy : List (Terms Fraction) → FormsError → Type 0
IfRefusedBy images e = IfSome (refusal_in e) (IfFormRefused images)
