-- The lists of an analysis.
--   IsList m most units gs     the gs, of m variables, are the reduced basis of their own ideal, and at most as many as `most` and the units
use Rattle.std.specs.Prelude.{◌≤◌, ◌+◌, ℕ, List, length}
use Rattle.rounds.specs.Results.{IsReducedList}
use Rattle.poly.specs.Seen.{terms_each}
use Rattle.ideal_ops.specs.Calls.{AreOver}
use Rattle.loop_model.specs.FracPoly.{FracPoly}

pub record IsList (m most units : ℕ) (gs : List FracPoly) : Type 0 where
  pub arity : AreOver m gs
  pub reduced : IsReducedList m (terms_each gs)
  pub few : length gs ≤ most + units
