-- The journal of a search: which tasks were begun, and each event.
--   Run k           the run with the number k, from 0
--   Ideal i         the completion and tidying of the source's list and the zeros of the transition at the place i
--   Image i e       the division of what the transition makes of element e of its target's list
--   Rest i m        the rest of the monomial m
use Rattle.std.specs.Prelude.{ℕ, List}
use Rattle.machines.specs.Event.{Event}

pub data Task : Type 0 where
  Run : ℕ → Task
  Ideal : ℕ → Task
  Image : ℕ → ℕ → Task
  Rest : ℕ → List ℕ → Task

pub data Entry : Type 0 where
  Begin : Task → Entry
  Did : Event → Entry
