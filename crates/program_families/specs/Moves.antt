-- Moves of the code: a transition that is followed from a state.
--   fractions_in xs       the numbers as fractions
--   point_of vs s         values of the unknowns, and a state behind them
--   IsTransitionOver n t      the transition's polynomials are over its unknowns and n variables
--   LeadsBy t vs s z      with the values vs of its unknowns the transition leads from s to z
--   HasOther ps x         one of the polynomials ps isn't 0 at x;  HasPast ps x: the weight of its value is past
use Rattle.std.specs.Prelude.{◌≡◌, ◌≢◌, ℕ, ◌+◌, List, ◌++◌, map, length, All}
use Rattle.algebra.specs.Each.{Each}
use Rattle.algebra.specs.In.{In}
use Rattle.algebra.specs.Fraction.{Fraction, ℚ, fractions}
use Rattle.polynomials.specs.Terms.{Terms, value_at}
use Rattle.polynomials.specs.Weight.{IsPastValue}
use Rattle.frac128.specs.FracMeaning.{fraction_of}
use Rattle.frac128.specs.declared.fraction.Frac.{Frac}
use Rattle.poly.specs.Seen.{terms_each}
use Rattle.poly.specs.Standing.{IsInVariables}
use Rattle.flows.specs.Runs.{state_after}
use Rattle.program_model.specs.GraphView.{transition_of}
use Rattle.program_model.specs.declared.graph.Transition.{Transition}

abbrev pub fractions_in : List Frac → List Fraction
fractions_in xs = map fraction_of xs

abbrev pub point_of : List Frac → List Frac → List Fraction
point_of vs s = fractions_in vs ++ fractions_in s

pub record IsTransitionOver (n : ℕ) (t : Transition) : Type 0 where
  pub zeros : All (IsInVariables (t.unknowns + n)) t.zeros.items
  pub images : All (IsInVariables (t.unknowns + n)) t.images.items

pub record LeadsBy (t : Transition) (vs s z : List Frac) : Type 0 where
  pub count : length (fractions_in vs) ≡ t.unknowns
  pub zeros : Each (λ g. value_at ℚ g (point_of vs s) ≡ ℚ.zero) (terms_each t.zeros.items)
  pub is : fractions_in z
      ≡ state_after (record { transition = transition_of t; values = fractions_in vs })
      (fractions_in s)

pub record HasOther (ps : List (Terms Fraction)) (x : List Fraction) : Type 0 where
  pub polynomial : Terms Fraction
  pub within : In polynomial ps
  pub other : value_at ℚ polynomial x ≢ ℚ.zero

pub record HasPast (ps : List (Terms Fraction)) (x : List Fraction) : Type 0 where
  pub polynomial : Terms Fraction
  pub within : In polynomial ps
  pub past : IsPastValue fractions polynomial x
