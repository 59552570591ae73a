-- What forming does in parts.
--   free_events, stops_events     of operations in m variables
--   free_append, stops_front, stops_behind     some events behind others
--   handed_on                     what stops in a part stops
--   makes_all                     what was made of operations, and what stops at one
use Rattle.std.proofs.Common.{◌≡◌, ◌<◌, ℕ, List, [], ◌∷◌, ◌++◌, refl, sym, ap, subst, ◌∙◌, append_assoc, Result, Ok, Err}
use Rattle.std.specs.Result.{IsErrAnd}
use Rattle.std.proofs.lemmas.List.{map-append}
use Rattle.std.proofs.lemmas.List.Elements.{All-nil, All-cons, All-head, All-tail, All-append}
use Rattle.loop_model.specs.Operations as operations
use Rattle.loop_model.specs.Operations.{Operation, PassesLimit, IsTooHigh, IsPastOperation, IsFree}
use Rattle.loop_model.specs.Stops as stops
use Rattle.loop_model.specs.declared.map_error.MapError.{MapError}
use Rattle.loop_model.specs.declared.map_error.MapError.TheVariants.{Limit, Wide, Memory}
use Rattle.program_model.specs.Events.{Event, forms, counts, all_formed, offset_of, IsPastLimit, IsTooWide, AreFree, IsFirst, Stops, Makes}

abbrev IsFreeOne : Event → Type 0
IsFreeOne e = ¬ (IsPastLimit e)

-- ---- of operations
module _ (m : ℕ) where
  pub free_events : (os : List Operation) → IsFree m os → AreFree (all_formed m os)
  unfolding IsPastLimit
  free_events [] f = All-nil IsFreeOne
  free_events (o ∷ os) f =
      All-cons IsFreeOne (forms m o) (all_formed m os)
      (All-head (λ o. ¬ (PassesLimit m o)) o os f)
      (free_events os (All-tail (λ o. ¬ (PassesLimit m o)) o os f))

  first_events : (P : Operation → Type 0) (Q : Event → Type 0)
      → ((o : Operation) → P o → Q (forms m o)) → (os : List Operation) (at : ℕ)
      → operations.IsFirst m P os at → IsFirst Q (all_formed m os) at
  unfolding offset_of
  first_events P Q to os at f = record {
    before = all_formed m f.before;
    event = forms m f.operation;
    behind = all_formed m f.behind;
    order = ap (all_formed m) f.order ∙ map-append (forms m) f.before (f.operation ∷ f.behind);
    free = free_events f.before f.free;
    offset = f.offset;
    holds = to f.operation f.holds;
  }

  pub stops_events : (os : List Operation) (e : MapError) → stops.Stops m os e
      → Stops (all_formed m os) e
  unfolding IsPastLimit IsTooWide
  stops_events os (Limit at) h = first_events (PassesLimit m) IsPastLimit (λ o k. k) os at h
  stops_events os (Wide at) h =
      first_events (λ o. ¬ (IsTooHigh m o) × IsPastOperation m o) IsTooWide (λ o k. k) os at h
  stops_events os Memory h = tt

-- ---- some behind others
pub free_append : (es fs : List Event) → AreFree es → AreFree fs → AreFree (es ++ fs)
free_append es fs f g = All-append IsFreeOne es fs f g

first_front : (P : Event → Type 0) (es fs : List Event) (at : ℕ) → IsFirst P es at
    → IsFirst P (es ++ fs) at
first_front P es fs at f = record {
  before = f.before;
  event = f.event;
  behind = f.behind ++ fs;
  order = ap (λ xs. xs ++ fs) f.order ∙ append_assoc f.before (f.event ∷ f.behind) fs;
  free = f.free;
  offset = f.offset;
  holds = f.holds;
}

first_behind : (P : Event → Type 0) (es fs : List Event) (at : ℕ) → AreFree es → IsFirst P fs at
    → IsFirst P (es ++ fs) at
first_behind P es fs at free f = record {
  before = es ++ f.before;
  event = f.event;
  behind = f.behind;
  order = ap (λ xs. es ++ xs) f.order ∙ sym (append_assoc es f.before (f.event ∷ f.behind));
  free = All-append IsFreeOne es f.before free f.free;
  offset = f.offset;
  holds = f.holds;
}

pub stops_front : (es fs : List Event) (e : MapError) → Stops es e → Stops (es ++ fs) e
stops_front es fs (Limit at) h = first_front IsPastLimit es fs at h
stops_front es fs (Wide at) h = first_front IsTooWide es fs at h
stops_front es fs Memory h = tt

pub stops_behind : (es fs : List Event) (e : MapError) → AreFree es → Stops fs e
    → Stops (es ++ fs) e
stops_behind es fs (Limit at) f h = first_behind IsPastLimit es fs at f h
stops_behind es fs (Wide at) f h = first_behind IsTooWide es fs at f h
stops_behind es fs Memory f h = tt

-- ---- counts
pub count_free : (at k most : ℕ) → ¬ (most < k) → AreFree (counts at k most ∷ [])
unfolding IsPastLimit
count_free at k most h = All-cons IsFreeOne (counts at k most) [] h (All-nil IsFreeOne)

pub count_stops : (at k most : ℕ) (es : List Event) → most < k
    → Stops (counts at k most ∷ es) (Limit at)
unfolding IsPastLimit offset_of
count_stops at k most es h = record {
  before = [];
  event = counts at k most;
  behind = es;
  order = refl;
  free = All-nil IsFreeOne;
  offset = refl;
  holds = h;
}

-- ---- the error that `?` hands on
pub handed_on : {X : Type 0} (es : List Event) (P : X → Type 0) (e : MapError)
    (r : Result X MapError) → IsErrAnd r (λ x. x ≡ e) → Stops es e → Makes es P r
handed_on es P e (Ok p) is h = absurd is
handed_on es P e (Err x) is h = subst (Stops es) (sym is) h

pub makes_front : {X : Type 0} (es fs : List Event) (P : X → Type 0) (e : MapError)
    (r : Result X MapError) → IsErrAnd r (λ x. x ≡ e) → Stops es e → Makes (es ++ fs) P r
makes_front es fs P e r is h = handed_on (es ++ fs) P e r is (stops_front es fs e h)

pub makes_behind : {X : Type 0} (es fs : List Event) (P Q : X → Type 0) (r : Result X MapError)
    → AreFree es → ((x : X) → P x → Q x) → Makes fs P r → Makes (es ++ fs) Q r
makes_behind es fs P Q (Ok x) f to h = (to x h.0, free_append es fs f h.1)
makes_behind es fs P Q (Err e) f to h = stops_behind es fs e f h
