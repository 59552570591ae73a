-- The events of a division (machines/specs/Division), over plain variables.
--   no_true     true isn't false
--   state b p qs, state_open   a state by whether its polynomial is put away
--   cut_step, zero_step        a Cut; the Zero
--   away_ended, nothing_left   where nothing comes next
--   place_below                the element is one of the list
--   cut_stops, cut_past        where the units are exhausted; where the cancellation is past
--   appended, pushed     a term more of a cofactor
--   begun_is                   the first state
--   wide_of, budget_of         what an error was before it was passed on
use Rattle.std.proofs.Common.{◌≡◌, ◌≢◌, ℕ, zero, suc, ◌<◌, ◌≤◌, Bool, true, false, cond, List, [], ◌∷◌, ◌++◌, map, replicate, length, set, slice_index_or, Option, Some, None, Result, Ok, Err, IsErrOf, refl, sym, ap, ap₂, ◌∙◌, arith}
use Rattle.std.specs.Result.{IsErrAnd}
use Rattle.std.proofs.lemmas.List.{map-append}
use Rattle.algebra.specs.Scalars.{Scalars, field}
use Rattle.algebra.specs.FieldArithmetic.{FieldArithmetic}
use Rattle.polynomials.specs.Terms.{Terms}
use Rattle.polynomials.specs.Order.{Rank}
use Rattle.machines.specs.Cut.{Cutting, find_cut, after_cut, all_places}
use Rattle.machines.specs.Division as division
use Rattle.machines.specs.Division.{State, with_term, next_cut, next_division, next}
use Rattle.machines.specs.Event.{Event, Cut, Zero}
use Rattle.machines.specs.Journal.{Journal, Did, units_of}
use Rattle.machines.specs.Past.{IsPastDivision, IsPastReduction}
use Rattle.machines.specs.Run.{HasEnded}
use Rattle.machines.specs.Work.{Step, StoppedAt}
use Rattle.machines.proofs.Cuts.{found_cut}
use Rattle.machines.proofs.Places.{get_below}
use Rattle.machines.proofs.Working.{step_of}
use Rattle.ring_laws.specs.declared.ArithmeticError.{ArithmeticError}
use Rattle.ring_laws.specs.declared.ArithmeticError.TheVariants as arithmetic_error
use Rattle.journal.specs.declared.MeterError as meter
use Rattle.journal.specs.declared.MeterError.TheVariants as meter_error
use Rattle.divide.specs.declared.EngineError.{EngineError}
use Rattle.divide.specs.declared.EngineError.TheVariants.{Wide, Budget}
use Rattle.divide.specs.Errors.{of_arithmetic, of_meter}

pub no_true : false ≡ true → ⊥
no_true e = cc

pub wide_of : {X : Type 0} (r : Result X EngineError) (e : ArithmeticError)
    → IsErrAnd r (λ f. f ≡ of_arithmetic e) → IsErrOf r Wide → e ≡ arithmetic_error.Wide
wide_of (Ok x) e h w = absurd h
wide_of (Err y) arithmetic_error.Wide h w = refl
wide_of (Err y) arithmetic_error.Memory h w = absurd (let z : ⊥ = cc in z)

pub budget_of : {X : Type 0} (r : Result X EngineError) (e : meter.MeterError)
    → IsErrAnd r (λ f. f ≡ of_meter e) → IsErrOf r Budget → e ≡ meter_error.Budget
budget_of (Ok x) e h w = absurd h
budget_of (Err y) meter_error.Budget h w = refl
budget_of (Err y) meter_error.Memory h w = absurd (let z : ⊥ = cc in z)

pub appended : {V A : Type 0} (seen : V → Terms A) (xs : List V) (k : ℕ) (old new : V) (t : List ℕ
    × A) → k < length xs → old ≡ slice_index_or xs k old → seen new ≡ seen old ++ t ∷ []
    → map seen (set xs k new) ≡ with_term k t (map seen xs)
unfolding with_term
appended seen [] k old new t l e h = absurd (omega arith)
appended seen (y ∷ xs) zero old new t l e h = ap (λ q. q ∷ map seen xs) (h
    ∙ ap (λ z. seen z ++ t ∷ []) e)
appended seen (y ∷ xs) (suc k) old new t l e h =
    ap (λ l. seen y ∷ l) (appended seen xs k old new t (omega arith) e h)

pub pushed : {X Y : Type 0} (h : X → Y) (olds news : List X) (x : X) → news ≡ olds ++ x ∷ []
    → map h news ≡ map h olds ++ h x ∷ []
pushed h olds news x e = ap (map h) e ∙ map-append h olds (x ∷ [])

module _ {A : Type 0} where
  abbrev pub state : Bool → Terms A → List (Terms A) → State A
  state b p qs = record { current = cond b None (Some p); cofactors = qs }

  abbrev left : Terms A → List (Terms A) → State A
  left p qs = record { current = Some p; cofactors = qs }

  state_open : (b : Bool) (p : Terms A) (qs : List (Terms A)) → b ≡ false → state b p qs ≡ left p qs
  state_open b p qs e = ap (λ z. state z p qs) e

module _ (S : Scalars) (gs : List (Terms S.Elem)) (p : Terms S.Elem) where
  pub place_below : (c : Cutting S.Elem) → find_cut (field S) all_places gs p ≡ Some c
      → c.place < length gs
  place_below c e =
      let b = (found_cut (field S) all_places gs p c e).by_first in
      let at = get_below gs b.after c.of b.at in
      let place = b.place in
      omega (arith, at, place)

module _ (S : Scalars) (O : Rank) (gs : List (Terms S.Elem)) (b : Bool) (p : Terms S.Elem)
    (qs : List (Terms S.Elem)) where
  abbrev F : FieldArithmetic S.Elem
  F = field S

  pub away_ended : b ≡ true → HasEnded (next F O gs) (state b p qs)
  unfolding next next_division
  away_ended e = ap (λ z. next F O gs (state z p qs)) e

  module _ (open_ : b ≡ false) where
    comes : (o : Option (Event × State S.Elem)) → next F O gs (left p qs) ≡ o
        → next F O gs (state b p qs) ≡ o
    comes o e = ap (next F O gs) (state_open b p qs open_) ∙ e

    cut_comes : (c : Cutting S.Elem) → find_cut F all_places gs p ≡ Some c → next F O gs (left p qs)
        ≡ Some (Cut c.place, left (after_cut F O p c) (with_term c.place (c.by, c.number) qs))
    unfolding next next_division next_cut
    cut_comes c e = ap (next_cut F O gs p qs) e

    pub cut_step : (c : Cutting S.Elem) (q : Terms S.Elem) (news : List (Terms S.Elem)) (n : ℕ)
        (before after : Journal) → find_cut F all_places gs p ≡ Some c → n ≡ c.place
        → q ≡ after_cut F O p c
        → news ≡ with_term n (c.by, c.number) qs → after ≡ record {
          limit = before.limit;
          entries = before.entries ++ Did (Cut n) ∷ [];
        } → units_of after.entries ≤ after.limit
        → Step (next F O gs) (state b p qs) (state b q news) before after
    cut_step c q news n before after e at is k j w = step_of (next F O gs) (state b p qs)
        (state b q news) before after (Cut n)
        (comes _ (cut_comes c e) ∙ ap₂ (λ m (t : State S.Elem). Some (Cut m, t)) (sym at)
        (ap₂ left (sym is) (ap (λ m. with_term m (c.by, c.number) qs) (sym at) ∙ sym k)
        ∙ sym (state_open b q news open_))) j w

    pub cut_stops : (c : Cutting S.Elem) (j : Journal) → find_cut F all_places gs p ≡ Some c
        → units_of j.entries ≡ j.limit → StoppedAt (next F O gs) (state b p qs) j
    cut_stops c j e u = record {
      event = Cut c.place;
      following = _;
      comes = comes _ (cut_comes c e);
      unit = refl;
      exhausted = u;
    }

    pub cut_past : IsPastReduction S F gs p → IsPastDivision S F gs (state b p qs)
    cut_past h = record {
      left = p;
      cutting = h.cutting;
      current = ap (λ z. cond z None (Some p))
          open_;
      found = h.found;
      past = h.past;
    }

    zero_comes : p ≡ [] → next F O gs (left p qs) ≡ Some (
      Zero,
      record { current = None; cofactors = qs },
    )
    unfolding next next_division next_cut find_cut
    zero_comes e = ap (λ (q : Terms S.Elem). next F O gs (left q qs)) e

    pub zero_step : (before after : Journal) → p ≡ [] → after ≡ record {
      limit = before.limit;
      entries = before.entries ++ Did Zero ∷ [];
    } → units_of after.entries ≤ after.limit
        → Step (next F O gs) (state b p qs) (state true p qs) before after
    zero_step before after e j w = step_of (next F O gs) (state b p qs) (state true p qs) before
        after Zero (comes _ (zero_comes e)) j w

    nothing_comes : (p : Terms S.Elem) → p ≢ [] → find_cut F all_places gs p ≡ None
        → next F O gs (left p qs) ≡ None
    unfolding next next_division next_cut
    nothing_comes [] n e = absurd (n refl)
    nothing_comes (t ∷ p) n e = ap (next_cut F O gs (t ∷ p) qs) e

    pub nothing_left : p ≢ [] → find_cut F all_places gs p ≡ None
        → HasEnded (next F O gs) (state b p qs)
    nothing_left n e = comes None (nothing_comes p n e)

-- ---- the first state
pub begun_is : {A : Type 0} (gs : List (Terms A)) (b : Bool) (p q : Terms A) (qs : List (Terms A))
    (n : ℕ) → b ≡ false → q ≡ p → qs ≡ replicate n [] → n ≡ length gs
    → state b q qs ≡ division.initial_state gs p
begun_is {A} gs b p q qs n open_ same none count = state_open b q qs open_
    ∙ ap₂ left same (none ∙ ap (λ k. replicate k []) count ∙ sym (nothing gs))
  where
    nothing : (gs : List (Terms A)) → map {A = Terms A} {B = Terms A} (λ g. []) gs
        ≡ replicate (length gs) []
    nothing [] = refl
    nothing (g ∷ gs) = ap (λ l. [] ∷ l) (nothing gs)
