-- The closing of the polynomial 0, of any loop: one division, which leaves nothing. Nothing stops it.
--   leads_to         where its entries lead
--   zero_unlimited, zero_not_wide     no composition of it passes a limit, and nothing may not fit
--   zero_closed      it ends with the empty list
--   zero_ends        and so within one unit
use Rattle.std.proofs.Common.{◌≡◌, ◌⊎◌, inl, inr, ℕ, zero, suc, ◌≤◌, List, [], ◌∷◌, length, refl, sym, ap, subst, ◌∙◌, Option, Some, None, arith}
use Rattle.algebra.specs.Fraction.{Fraction, fractions, rationals}
use Rattle.polynomials.specs.Terms.{Terms}
use Rattle.machines.specs.Cut.{Cutting, find_cut, all_places}
use Rattle.machines.specs.Division as division
use Rattle.machines.specs.Division.{next_cut, next_division}
use Rattle.machines.specs.Event.{Zero}
use Rattle.machines.specs.Journal.{Entry, Begin, Did, Image, units_of}
use Rattle.machines.specs.Past.{IsPastDivision}
use Rattle.machines.specs.Run.{IsRun}
use Rattle.loops.specs.Program.{Expr, Program}
use Rattle.loop_model.specs.Operations.{Operation}
use Rattle.closures.specs.Closing.{Candidate, first_candidate, State, fresh, dividing, extending, Step, goes, closed, countered, level_from, from_level, from_waiting, by_rest, divided, next, move_of, moves}
use Rattle.closures.specs.Ends.{ComesNext}
use Rattle.closures.specs.Follows.{Follows, IsPastAt, IsPastTask}
use Rattle.closing.specs.Causes.{IsComposed, IsStarting, IsComposing}
use Rattle.closing_commands.specs.declared.evidence.Evidence.TheVariants as kinds
use Rattle.closing_commands.specs.Deciding.{HasCountered}
use Rattle.closing_commands.specs.DecideClauses.{HasLimit, HasWideWord, HasEnd}

-- what a step leads to, and what a state divides
abbrev state_in : Step → State
state_in (goes e s) = s
state_in (closed gs) = fresh
state_in (countered x q) = fresh

abbrev word_in : State → List ℕ
word_in fresh = []
word_in (dividing n gs kept x waiting s) = x.word
word_in (extending n gs kept x waiting s) = x.word

abbrev rest_in : State → Terms Fraction
rest_in fresh = []
rest_in (dividing n gs kept x waiting s) = division.remainder s
rest_in (extending n gs kept x waiting s) = []

module _ (l : Program (Expr ℕ)) where
  abbrev Z : Terms Fraction
  Z = []

  abbrev P : List (Terms Fraction)
  P = Z ∷ []

  abbrev begun : State
  begun = dividing 0 [] [] (first_candidate Z) [] (division.initial_state [] Z)

  abbrev ended : State
  ended = dividing 0 [] [] (first_candidate Z) [] (record { current = None; cofactors = [] })

  -- ---- its steps
  first_step : next l P fresh ≡ goes (Begin (Image 0)) begun
  unfolding next from_waiting
  first_step = refl

  second_step : next l P begun ≡ goes (Did Zero) ended
  unfolding next divided division.next next_division next_cut find_cut
  second_step = refl

  none_after : (b n : ℕ) → level_from l b n [] ≡ []
  unfolding level_from
  none_after b zero = refl
  none_after b (suc n) = none_after (suc b) n

  last_step : next l P ended ≡ closed []
  unfolding next divided division.next next_division by_rest from_waiting from_level
  last_step = ap (λ xs. from_level l 1 [] xs) (none_after 1 (length l.branches))

  -- ---- where its entries lead
  abbrev IsOne : State → Type 0
  IsOne s = (fresh ≡ s) ⊎ ((begun ≡ s) ⊎ (ended ≡ s))

  from_ended : (es : List Entry) (s : State) → IsRun (moves l P) ended es s → ended ≡ s
  unfolding IsRun
  from_ended [] s r = r
  from_ended (e ∷ es) s (t, is, r) =
      absurd (let z : ◌≡◌ {A = Option (Entry × State)} None (Some (e, t)) =
      sym (ap (move_of l P) last_step) ∙ is in let f : ⊥ = cc in f)

  from_begun : (es : List Entry) (s : State) → IsRun (moves l P) begun es s
      → (begun ≡ s) ⊎ (ended ≡ s)
  unfolding IsRun
  from_begun [] s r = inl r
  from_begun (e ∷ es) s (t, is, r) =
      let both : ◌≡◌ {A = Option (Entry × State)} (Some (Did Zero, ended)) (Some (e, t)) =
      sym (ap (move_of l P) second_step) ∙ is in
      let pair : ◌≡◌ {A = Entry × State} (Did Zero, ended) (e, t) = cc in
      let same : ended ≡ t = ap (λ (x : Entry × State). x.1) pair in
      inr (from_ended es s (subst (λ u. IsRun (moves l P) u es s) (sym same) r))

  from_fresh : (es : List Entry) (s : State) → IsRun (moves l P) fresh es s → IsOne s
  unfolding IsRun
  from_fresh [] s r = inl r
  from_fresh (e ∷ es) s (t, is, r) =
      let both : ◌≡◌ {A = Option (Entry × State)} (Some (Begin (Image 0), begun)) (Some (e, t)) =
      sym (ap (move_of l P) first_step) ∙ is in
      let pair : ◌≡◌ {A = Entry × State} (Begin (Image 0), begun) (e, t) = cc in
      let same : begun ≡ t = ap (λ (x : Entry × State). x.1) pair in
      inr (from_begun es s (subst (λ u. IsRun (moves l P) u es s) (sym same) r))

  leads_to : (es : List Entry) (s : State) → Follows l P es s → IsOne s
  leads_to es s f = from_fresh es s f.run

  abbrev ComesOne : Step → Type 0
  ComesOne step =
      (goes (Begin (Image 0)) begun ≡ step)
      ⊎ ((goes (Did Zero) ended ≡ step) ⊎ (closed [] ≡ step))

  pub comes_one : (es : List Entry) (step : Step) → ComesNext l P es step → ComesOne step
  comes_one es step c = elim (from_fresh es c.state c.run) [
    | inl e ↦ inl (sym first_step ∙ ap (next l P) e ∙ c.is)
    | inr (inl e) ↦ inr (inl (sym second_step ∙ ap (next l P) e ∙ c.is))
    | inr (inr e) ↦ inr (inr (sym last_step ∙ ap (next l P) e ∙ c.is))
  ]

  -- ---- nothing is composed
  module _ (es : List Entry) (x : Candidate) (os : List Operation) where
    not_composed : IsComposed l P es x os → ⊥
    not_composed h = elim (comes_one es _ h.comes) [
      | inl e ↦
          let none : [] ≡ x.word = ap (λ t. word_in (state_in t)) e in
          let some : x.word ≡ h.letter ∷ h.from.word = ap (λ (y : Candidate). y.word) h.is in
          let z : ◌≡◌ {A = List ℕ} [] (h.letter ∷ h.from.word) = none ∙ some in
          let f : ⊥ = cc in
          f
      | inr (inl e) ↦ let f : ⊥ = cc in f
      | inr (inr e) ↦ let f : ⊥ = cc in f
    ]

    not_starting : IsStarting l P es x os → ⊥
    not_starting h = elim (leads_to es _ h.has.follows) [
      | inl e ↦ let f : ⊥ = cc in f
      | inr (inl e) ↦ h.has.some (sym h.has.is ∙ sym (ap rest_in e))
      | inr (inr e) ↦ h.has.some (sym h.has.is ∙ sym (ap rest_in e))
    ]

    not_composing : IsComposing l P es x os → ⊥
    not_composing (inl h) = not_composed h
    not_composing (inr h) = not_starting h

  pub zero_unlimited : HasLimit l Z → ⊥
  zero_unlimited h = not_composing h.entries _ _ h.is.cause.composing

  -- ---- nothing is past
  no_cut : find_cut rationals all_places [] Z ≡ None
  unfolding find_cut
  no_cut = refl

  cut_none : IsPastDivision fractions rationals [] (division.initial_state [] Z) → ⊥
  cut_none h =
      let same : Z ≡ h.left = (let e : Some Z ≡ Some h.left = h.current in cc) in
      let found : find_cut rationals all_places [] Z ≡ Some h.cutting =
      subst (λ q. find_cut rationals all_places [] q ≡ Some h.cutting) (sym same) h.found in
      let z : ◌≡◌ {A = Option (Cutting Fraction)} None (Some h.cutting) = sym no_cut ∙ found in
      let f : ⊥ = cc in
      f

  not_past : (es : List Entry) (x : Candidate) → IsPastTask l P es x → ⊥
  not_past es x h = elim (leads_to es h.state h.follows) [
    | inl e ↦ subst (λ s. IsPastAt l P x s) (sym e) h.past
    | inr (inl e) ↦ cut_none (subst (λ s. IsPastAt l P x s) (sym e) h.past).1
    | inr (inr e) ↦
        let q = (subst (λ s. IsPastAt l P x s) (sym e) h.past).1 in
        let z : ◌≡◌ {A = Option (Terms Fraction)} None (Some q.left) = q.current in
        let f : ⊥ = cc in
        f
  ]

  not_countered : (es : List Entry) (w : List ℕ) → HasCountered l Z es w → ⊥
  not_countered es w h = elim (comes_one es _ h.ends) [
    | inl e ↦ let f : ⊥ = cc in f
    | inr (inl e) ↦ let f : ⊥ = cc in f
    | inr (inr e) ↦ let f : ⊥ = cc in f
  ]

  pub zero_not_wide : HasWideWord l Z → ⊥
  zero_not_wide h = elim h.is [
    | inl s ↦ elim s.cause [
      | inl w ↦ not_composing h.journal.entries _ _ w.composing
      | inr q ↦ not_past h.journal.entries _ q
    ]
    | inr c ↦ not_countered h.journal.entries h.word c.0
  ]

  one_unit : units_of (Begin (Image 0) ∷ Did Zero ∷ []) ≤ 1
  unfolding units_of
  one_unit = omega arith

  abbrev pub zero_entries : List Entry
  zero_entries = Begin (Image 0) ∷ Did Zero ∷ []

  pub zero_closed : ComesNext l P zero_entries (closed [])
  unfolding IsRun
  zero_closed = record {
    state = ended;
    run = (
      begun,
      ap (move_of l P) first_step,
      (ended, ap (move_of l P) second_step, refl),
    );
    is = last_step;
  }

  pub zero_ends : HasEnd l Z kinds.Basis 1
  zero_ends = record { entries = zero_entries; ends = inl ([], zero_closed); few = one_unit }
