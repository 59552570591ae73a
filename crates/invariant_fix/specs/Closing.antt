-- The closing divisions of a list.
--   seen_steps s           lists of polynomials, as lists of terms
--   IsClosing A b i gs qs  the division of the element i of gs, with the map of branch b for its variables, ends with nothing left and the cofactors qs
--   AreSteps A gs qs       that is so of each branch and element, and of its cofactors
--   HasStep s b i gs qs, HasBranchSteps s b gs steps, HasSteps s gs steps     of the program's own lists
--   IsSquare m n rows      n lists of n polynomials in m variables
--   pullback_by b g          g with the map of the branch b for its variables
--   test_of b g gs          its division by the gs, as a machine, whose start is made by a composition
use Rattle.std.specs.Prelude.{◌≡◌, ◌<◌, ℕ, List, [], get_or, length, map, All, None}
use Rattle.std.specs.Global.{Vec}
use Rattle.algebra.specs.Fraction.{Fraction, ℚ, fractions, rationals}
use Rattle.polynomials.specs.Order.{grevlex}
use Rattle.polynomials.specs.Terms.{Terms, compose}
use Rattle.polynomials.specs.Weight.{IsPastComposition}
use Rattle.machines.specs.Collect.{collect}
use Rattle.machines.specs.Machine.{Machine}
use Rattle.machines.specs.Machines as machines
use Rattle.machines.specs.Division as division
use Rattle.machines.specs.Run.{HasEnded}
use Rattle.rounds.specs.Analysis.{Setting, pullback}
use Rattle.rounds.specs.Results.{LeadsTo}
use Rattle.poly.specs.Seen.{terms_in, terms_each}
use Rattle.loop_model.specs.FracPoly.{FracPoly}
use Rattle.ideal_ops.specs.Calls.{AreOver}
use Rattle.invariant_fix.specs.Setting.{setting_of}
use Rattle.invariant_fix.specs.Started.{with_past_start}
use Rattle.invariant_fix.specs.declared.branches.Branch.{Branch}
use Rattle.invariant_fix.specs.declared.setting.Setting as setting

abbrev pub seen_branch_steps : List (Vec FracPoly) → List (List (Terms Fraction))
seen_branch_steps s = map (λ (v : Vec FracPoly). terms_each v.items) s

abbrev pub seen_steps : List (Vec (Vec FracPoly)) → List (List (List (Terms Fraction)))
seen_steps s = map (λ (v : Vec (Vec FracPoly)). seen_branch_steps v.items) s

module _ (A : Setting) where
  pub record IsClosing (b i : ℕ) (gs qs : List (Terms Fraction)) : Type 0 where
    pub last : division.State Fraction
    pub leads : LeadsTo (division.next rationals grevlex gs)
        (division.initial_state gs (pullback A b (get_or gs i []))) last
    pub ended : HasEnded (division.next rationals grevlex gs) last
    pub gone : last.current ≡ None
    pub cofactors : qs ≡ last.cofactors

  pub record AreBranchSteps (b : ℕ) (gs : List (Terms Fraction)) (qs : List (List (Terms Fraction)))
      : Type 0 where
    pub count : length qs ≡ length gs
    pub each : (i : ℕ) → i < length gs → IsClosing b i gs (get_or qs i [])

  pub record AreSteps (gs : List (Terms Fraction)) (qs : List (List (List (Terms Fraction))))
      : Type 0 where
    pub count : length qs ≡ length A.forms
    pub each : (b : ℕ) → b < length A.forms → AreBranchSteps b gs (get_or qs b [])

pub record IsSquare (m n : ℕ) (rows : List (Vec FracPoly)) : Type 0 where
  pub height : length rows ≡ n
  pub widths : All (λ (row : Vec FracPoly). length row.items ≡ n) rows
  pub arities : All (λ (row : Vec FracPoly). AreOver m row.items) rows

module _ (s : setting.Setting) where
  abbrev pub HasStep : (b i : ℕ) → (gs qs : List FracPoly) → Type 0
  HasStep b i gs qs = IsClosing (setting_of s) b i (terms_each gs) (terms_each qs)

  abbrev pub HasBranchSteps : ℕ → List FracPoly → List (Vec FracPoly) → Type 0
  HasBranchSteps b gs steps = AreBranchSteps (setting_of s) b (terms_each gs)
      (seen_branch_steps steps)

  abbrev pub HasSteps : List FracPoly → List (Vec (Vec FracPoly)) → Type 0
  HasSteps gs steps = AreSteps (setting_of s) (terms_each gs) (seen_steps steps)

module _ (b : Branch) (g : FracPoly) where
  abbrev pub pullback_by : Terms Fraction
  pullback_by =
      collect rationals grevlex (compose ℚ g.arity (terms_in g) (terms_each b.images.items))

  abbrev pub test_of : List FracPoly → Machine (division.State Fraction)
  test_of gs =
      with_past_start (machines.division fractions grevlex (terms_each gs) pullback_by)
      (IsPastComposition fractions (terms_in g) (terms_each b.images.items))
