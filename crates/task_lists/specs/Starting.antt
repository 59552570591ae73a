-- What a stage of a full certificate begins with, an orbit whose form is the state from the start on, or an intersection.
--   numbers_of base        how many numbers a base has
--   starting m s           the list that it begins with: orbit_starting, meet_starting
--   front_of s             how many variables stand in front of the m
--   FitsStart m s               the parts of s are over the variables that they should be over: FitsOrbit, FitsMeet
--   IsPastAt s i           the weight of an operation that makes the polynomial at place i of the list is past: IsPastOrbit back gs, and of an intersection's none
use Rattle.std.specs.Prelude.{◌≡◌, ℕ, ◌+◌, ◌<◌, ◌≤◌, List, [], length, get_or, All, Vec}
use Rattle.std.specs.declared.alloc.Global.{Global}
use Rattle.algebra.specs.Fraction.{Fraction, fractions, rationals}
use Rattle.polynomials.specs.Order.{grevlex, blocks}
use Rattle.polynomials.specs.Terms.{Terms}
use Rattle.polynomials.specs.Weight.{IsPastComposition}
use Rattle.machines.specs.Elimination.{blend}
use Rattle.rounds.specs.Form.{front, whole_orbit_list}
use Rattle.frac128.specs.declared.Whole.{Whole}
use Rattle.monos.specs.Variables.{most_variables}
use Rattle.poly.specs.Seen.{terms_each}
use Rattle.poly.specs.Standing.{IsInVariables}
use Rattle.loop_model.specs.FracPoly.{FracPoly}
use Rattle.coprime_base.specs.Sizes.{sizes}
use Rattle.expo.specs.Bases.{IsCoprimeBase}
use Rattle.task_lists.specs.declared.starting.Starting.{Starting}
use Rattle.task_lists.specs.declared.starting.Starting.TheVariants.{Orbit, Meet}

abbrev Polys : Type 0
Polys = Vec FracPoly Global

abbrev pub numbers_of : Vec Whole Global → ℕ
numbers_of base = length (sizes base.items)

abbrev pub orbit_starting : ℕ → Vec Whole Global → Polys → List FracPoly → List (Terms Fraction)
orbit_starting m base back list =
    whole_orbit_list (numbers_of base) m (terms_each back.items) (terms_each list)

abbrev pub meet_starting : (left right : Polys) → List (Terms Fraction)
meet_starting left right =
    blend rationals (blocks 1 grevlex grevlex) (terms_each left.items) (terms_each right.items)

abbrev pub starting : ℕ → Starting → List (Terms Fraction)
starting m (Orbit base back list) = orbit_starting m base.now back.now list.now.items
starting m (Meet left right) = meet_starting left.now right.now

abbrev pub front_of : Starting → ℕ
front_of (Orbit base back list) = front (numbers_of base.now)
front_of (Meet left right) = 1

-- ---- what fits
pub record FitsOrbit (m : ℕ) (base : Vec Whole Global) (back : Polys) (list : List FracPoly) : Type
    0 where
  pub some : 0 < m
  pub coprime : IsCoprimeBase (sizes base.items)
  pub few : front (numbers_of base) + m ≤ most_variables
  pub count : length back.items ≡ m
  pub backs : All (IsInVariables (front (numbers_of base) + m)) back.items
  pub elements : All (IsInVariables m) list

pub record FitsMeet (m : ℕ) (left right : Polys) : Type 0 where
  pub few : 1 + m ≤ most_variables
  pub lefts : All (IsInVariables m) left.items
  pub rights : All (IsInVariables m) right.items

abbrev pub FitsStart : ℕ → Starting → Type 0
FitsStart m (Orbit base back list) = FitsOrbit m base.now back.now list.now.items
FitsStart m (Meet left right) = FitsMeet m left.now right.now

-- ---- what is past
abbrev pub IsPastOrbit : (back gs : List (Terms Fraction)) → ℕ → Type 0
IsPastOrbit back gs i = (i < length gs) × IsPastComposition fractions (get_or gs i []) back

-- the products of an intersection are never past
abbrev pub IsPastAt : Starting → ℕ → Type 0
IsPastAt (Orbit base back list) i =
    IsPastOrbit (terms_each back.now.items) (terms_each list.now.items) i
IsPastAt (Meet left right) i = ⊥
