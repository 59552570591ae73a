-- What forming does, in order, and where it stops.
--   Event              an operation on polynomials in so many variables; or a number at an offset, of which there may be at most so many
--   all_formed m os    the operations os, in m variables
--   offset_of e        the offset of an event
--   IsPastLimit e      it passes a limit: of degrees or terms, or the number is above the most there may be
--   IsTooWide e        its weight is past, and its degree isn't too high
--   AreFree es         none passes a limit
--   IsFirst P es at    an event at this offset for which P holds, with none before it that passes a limit
--   Stops es e         e is a limit, or a number too wide, at the first such event; want of memory says nothing
--   Makes es P r       r is something with P, and no event passes a limit; or r stops at one
use Rattle.std.specs.Prelude.{◌≡◌, ℕ, ◌<◌, List, ◌∷◌, ◌++◌, map, Result, Ok, Err}
use Rattle.std.specs.List.{All}
use Rattle.loop_model.specs.Operations.{Operation, PassesLimit, IsTooHigh, IsPastOperation}
use Rattle.loop_model.specs.declared.map_error.MapError.{MapError}
use Rattle.loop_model.specs.declared.map_error.MapError.TheVariants.{Limit, Wide, Memory}

pub data Event : Type 0 where
  forms : (variables : ℕ) → Operation → Event
  counts : (at number most : ℕ) → Event

abbrev pub all_formed : ℕ → List Operation → List Event
all_formed m os = map (forms m) os

unfoldable pub offset_of : Event → ℕ
offset_of (forms m o) = o.at
offset_of (counts at k most) = at

unfoldable pub IsPastLimit : Event → Type 0
IsPastLimit (forms m o) = PassesLimit m o
IsPastLimit (counts at k most) = most < k

unfoldable pub IsTooWide : Event → Type 0
IsTooWide (forms m o) = ¬ (IsTooHigh m o) × IsPastOperation m o
IsTooWide (counts at k most) = ⊥

abbrev pub AreFree : List Event → Type 0
AreFree es = All (λ e. ¬ (IsPastLimit e)) es

pub record IsFirst (P : Event → Type 0) (es : List Event) (at : ℕ) : Type 0 where
  pub before : List Event
  pub event : Event
  pub behind : List Event
  pub order : es ≡ before ++ event ∷ behind
  pub free : AreFree before
  pub offset : offset_of event ≡ at
  pub holds : P event

abbrev pub Stops : List Event → MapError → Type 0
Stops es (Limit at) = IsFirst IsPastLimit es at
Stops es (Wide at) = IsFirst IsTooWide es at
Stops es Memory = Unit {0}

abbrev pub Makes : {X : Type 0} → List Event → (X → Type 0) → Result X MapError → Type 0
Makes es P (Ok x) = P x × AreFree es
Makes es P (Err e) = Stops es e
