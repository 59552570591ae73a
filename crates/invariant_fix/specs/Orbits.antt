-- What an orbit along a branch begins with, and a single iteration of it.
--   numbers_of b, vars_of b   how many numbers the branch's base has, and how many variables it is of
--   orbit_front_of b          how many variables an orbit eliminates;  orbit_list_of b gs: the list that it begins with
--   pulling back b gs            what is done for the orbit of the gs along the branch b;  orbit_of b gs: as a machine, whose start is made by compositions
--   turning b gs, iteration_of b gs     the same for one iteration
--   pulled_back_list b gs     what an orbit begins with where the form of b is the state from the start on;  IsPastPulledBack b gs: the composition is past at one of the gs
--   IsPastPullingBack b gs, IsPastTurning b gs     what makes the list of an orbit, or of an iteration, is past
use Rattle.std.specs.Prelude.{◌⊎◌, ℕ, List, length}
use Rattle.algebra.specs.Fraction.{Fraction, fractions}
use Rattle.polynomials.specs.Order.{grevlex, blocks}
use Rattle.polynomials.specs.Terms.{Terms}
use Rattle.machines.specs.Elimination.{free_part}
use Rattle.rounds.specs.Form.{orbit_front, orbit_list, iteration_front, iteration_list}
use Rattle.rounds.specs.Past.{IsPastComposed, IsPastOrbit, IsPastIteration}
use Rattle.coprime_base.specs.Sizes.{sizes}
use Rattle.poly.specs.Seen.{terms_each}
use Rattle.loop_model.specs.FracPoly.{FracPoly}
use Rattle.machines.specs.Elimination as elimination
use Rattle.machines.specs.Machine.{Machine}
use Rattle.ideal_ops.specs.Calls.{Way, elimination_of}
use Rattle.task_lists.specs.Starting.{orbit_starting}
use Rattle.invariant_fix.specs.Setting.{form_of}
use Rattle.invariant_fix.specs.Started.{with_past_start}
use Rattle.invariant_fix.specs.declared.branches.Branch.{Branch}

module _ (b : Branch) where
  abbrev pub numbers_of : ℕ
  numbers_of = length (sizes b.form.base.items)

  abbrev pub vars_of : ℕ
  vars_of = length b.images.items

  -- ---- an orbit that is whole
  abbrev pub pulled_back_list : List FracPoly → List (Terms Fraction)
  pulled_back_list gs = orbit_starting vars_of b.form.base b.back gs

  abbrev pub IsPastPulledBack : List FracPoly → Type 0
  IsPastPulledBack gs = IsPastComposed (terms_each b.back.items) (terms_each gs)

  -- ---- an orbit
  abbrev pub orbit_front_of : ℕ
  orbit_front_of = orbit_front (form_of b.form) vars_of

  abbrev pub orbit_list_of : List FracPoly → List (Terms Fraction)
  orbit_list_of gs = orbit_list (form_of b.form) vars_of (terms_each gs)

  abbrev pub IsPastPullingBack : List FracPoly → Type 0
  IsPastPullingBack gs = IsPastOrbit (form_of b.form) vars_of (terms_each gs)

  abbrev pub pulling_back : List FracPoly → Way fractions
  pulling_back gs = record {
    order = blocks orbit_front_of grevlex grevlex;
    part = free_part orbit_front_of;
    gens = orbit_list_of gs;
  }

  abbrev pub orbit_of : List FracPoly → Machine (elimination.State Fraction)
  orbit_of gs =
      with_past_start (elimination_of (pulling_back gs))
      (IsPastPullingBack gs ⊎ (elimination_of (pulling_back gs)).IsPastStart)

  -- ---- an iteration
  abbrev pub iteration_front_of : ℕ
  iteration_front_of = iteration_front (form_of b.form) vars_of

  abbrev pub iteration_list_of : List FracPoly → List (Terms Fraction)
  iteration_list_of gs =
      iteration_list (form_of b.form) vars_of (terms_each b.images.items) (terms_each gs)

  abbrev pub IsPastTurning : List FracPoly → Type 0
  IsPastTurning gs =
      IsPastIteration (form_of b.form) vars_of (terms_each b.images.items) (terms_each gs)

  abbrev pub turning : List FracPoly → Way fractions
  turning gs = record {
    order = blocks iteration_front_of grevlex grevlex;
    part = free_part iteration_front_of;
    gens = iteration_list_of gs;
  }

  abbrev pub iteration_of : List FracPoly → Machine (elimination.State Fraction)
  iteration_of gs =
      with_past_start (elimination_of (turning gs))
      (IsPastTurning gs ⊎ (elimination_of (turning gs)).IsPastStart)
