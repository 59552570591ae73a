-- From which number of iterations on polynomials are the state.
--   IsAt e n q                e at n iterations is q
--   IsAtPlace es n state i    the one at the place i of es is at n iterations that of the state
--   IsMarked es n state marks i     the mark at i tells whether it isn't;  AreMarked es n state g marks: those at the places of g do
--   AreAllMarked es n state groups marks     so of all classes;  KeptMarks es n state old new: what is marked by old is by new
--   IsPastPlace es n g        what one of the places of g is at n iterations is past
--   IsPastOfClass groups es n v     that is so of the class that begins with v
--   IsSettling images base groups states es since     es are a closed form from `since` on, and the states those after each number of iterations
--   IsSettled images base es since d     they are one from d on, which is at most `since`, and from no smaller number on
use Rattle.std.specs.Prelude.{◌≡◌, ◌≤◌, ◌<◌, ◌↔◌, ℕ, Bool, false, List, [], length, get_or}
use Rattle.algebra.specs.In.{In}
use Rattle.algebra.specs.Fraction.{Fraction, ℚ}
use Rattle.polynomials.specs.Terms.{Terms, value_at}
use Rattle.solvable_maps.specs.Class.{AreClasses}
use Rattle.solvable_maps.specs.Uses.{uses, poly_at, IsMap}
use Rattle.exponentials.specs.Base.{Coprime}
use Rattle.solvable_maps.specs.Classes.{first_of}
use Rattle.solvable_maps.specs.Iterations.{IsClosedFormFrom}
use Rattle.expo.specs.Operations.{IsPastIteration}
use Rattle.expo.specs.View.{value_of}
use Rattle.expo.specs.declared.exponential.Expo.{Expo}
use Rattle.closed_forms.specs.States.{after}
use Rattle.closed_forms.specs.Values.{bodies_of, AreOver}
use Rattle.closed_forms.specs.View.{IsLeastFrom}

abbrev pub IsAt : Expo → ℕ → Terms Fraction → Type 0
IsAt e n q = (s : List Fraction) → length s ≡ e.vars → value_of e n s ≡ value_at ℚ q s

abbrev pub IsAtPlace : List Expo → ℕ → List (Terms Fraction) → ℕ → Type 0
IsAtPlace es n state i = (e : Expo) → e ≡ get_or es i e → IsAt e n (poly_at state i)

abbrev pub IsMarked : List Expo → ℕ → List (Terms Fraction) → List Bool → ℕ → Type 0
IsMarked es n state marks i = (get_or marks i false ≡ false) ↔ IsAtPlace es n state i

abbrev pub AreMarked : List Expo → ℕ → List (Terms Fraction) → List ℕ → List Bool → Type 0
AreMarked es n state g marks = (i : ℕ) → In i g → IsMarked es n state marks i

abbrev pub AreAllMarked : List Expo → ℕ → List (Terms Fraction) → List (List ℕ) → List Bool
    → Type 0
AreAllMarked es n state groups marks =
    (g : List ℕ) → In g groups → AreMarked es n state g marks

abbrev pub KeptMarks : List Expo → ℕ → List (Terms Fraction) → List Bool → List Bool → Type 0
KeptMarks es n state old new = (i : ℕ) → IsMarked es n state old i → IsMarked es n state new i

pub record IsPastPlace (es : List Expo) (n : ℕ) (g : List ℕ) : Type 0 where
  pub place : ℕ
  pub within : In place g
  pub past : (e : Expo) → e ≡ get_or es place e → IsPastIteration e n

pub record IsPastOfClass (groups : List (List ℕ)) (es : List Expo) (n v : ℕ) : Type 0 where
  pub class : List ℕ
  pub is : In class groups
  pub first : first_of class ≡ v
  pub past : IsPastPlace es n class

pub record IsSettling (images : List (Terms Fraction)) (base : List ℕ) (groups : List (List ℕ))
    (lists : List (List (Terms Fraction))) (es : List Expo) (since : ℕ) : Type 0 where
  pub map : IsMap (length images) images
  pub coprime : Coprime base
  pub over : AreOver base (length images) es
  pub count : length es ≡ length images
  pub classes : AreClasses (uses images) (length images) [] groups
  pub states : (n : ℕ) → n < length lists → get_or lists n [] ≡ after images n
  pub closed : IsClosedFormFrom base images since (bodies_of es)

pub record IsSettled (images : List (Terms Fraction)) (base : List ℕ) (es : List Expo)
    (since d : ℕ) : Type 0 where
  pub closed : IsClosedFormFrom base images d (bodies_of es)
  pub least : IsLeastFrom base images (bodies_of es) d
  pub low : d ≤ since
