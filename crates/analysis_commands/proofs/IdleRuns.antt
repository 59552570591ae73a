-- Loops of one variable without init, whose branches do nothing.
--   x_loop branches      the loop with these branches
--   never_past, never_long     no state of its analysis is past, and no task is too long
--   never_past_asked     nor one of the division of a polynomial behind it
--   x_run, x_ends        the analysis: it begins with no equation, and ends with none
--   asked_run, some_answered     and with a question: what has a term is left as it is
--   zero_run, zero_answered      of 0 nothing is left
use Rattle.std.proofs.Common.{◌≡◌, inl, inr, ℕ, List, [], ◌∷◌, slice_get, refl, sym, ap, subst, ◌∙◌, Option, Some, None}
use Rattle.algebra.specs.Fraction.{Fraction, fractions, rationals}
use Rattle.polynomials.specs.Order.{grevlex}
use Rattle.polynomials.specs.Terms.{Terms}
use Rattle.machines.specs.Completion as completion
use Rattle.machines.specs.Completion.{next_completion, next_pair}
use Rattle.machines.specs.Division as division
use Rattle.machines.specs.Division.{next_division, next_cut}
use Rattle.machines.specs.Cut.{find_cut, cut_by, all_places}
use Rattle.machines.specs.Elimination as elimination
use Rattle.machines.specs.Elimination.{free_part}
use Rattle.machines.specs.Journal.{Entry, Begin, Did, Start, Member}
use Rattle.machines.specs.Event.{Event, Zero}
use Rattle.machines.specs.Pairs.{skip_covered}
use Rattle.machines.specs.Past as past
use Rattle.machines.specs.Tidying as tidying
use Rattle.machines.specs.Tidying.{next_tail, next_drop, drop_from, tail_from, by_lead}
use Rattle.machines.specs.Run.{IsRun}
use Rattle.loops.specs.Program.{Expr, Program, Statement}
use Rattle.rounds.specs.Analysis as analysis
use Rattle.rounds.specs.Analysis.{Setting, State, fresh, working, asking, starts, finished, answered, goes, next, moves, block, starting, closing_from}
use Rattle.rounds.specs.Form.{Form}
use Rattle.rounds.specs.Journal.{setting_of}
use Rattle.rounds.specs.Past.{IsPast}
use Rattle.invariant_fix.specs.Long.{IsLong}
use Rattle.invariant_fix.proofs.TaskLengths.{fresh_short, starts_short}
use Rattle.rounds.specs.Start.{start_list, in_order}

abbrev pub x_loop : List (List (Statement (Expr ℕ))) → Program (Expr ℕ)
x_loop branches = record { names = (120 ∷ []) ∷ []; locals = []; init = []; branches = branches }

abbrev begun : State
begun = working starts (elimination.initial_state rationals grevlex [])

-- nothing is left of 0
abbrev pub nothing_left : division.State Fraction
nothing_left = record { current = None; cofactors = [] }

state_of : Option (Entry × State) → State
state_of None = fresh
state_of (Some x) = x.1

module _ (branches : List (List (Statement (Expr ℕ)))) (forms : List Form) where
  abbrev A : Option (Terms Fraction) → Setting
  A p = setting_of (x_loop branches) forms p

  first : (p : Option (Terms Fraction)) → moves (A p) fresh ≡ Some (Begin Start, begun)
  unfolding next starting start_list in_order
  first p = refl

  ends : next (A None) begun ≡ finished 0 []
  unfolding next elimination.next completion.next next_completion skip_covered free_part block
      tidying.next next_drop
      drop_from next_tail
      tail_from by_lead analysis.after closing_from completion.with_elements next_pair
  ends = refl

  asks : (p : Terms Fraction)
      → next (A (Some p)) begun ≡ goes (Begin Member) (asking 0 [] (division.initial_state [] p))
  unfolding next elimination.next completion.next next_completion skip_covered free_part block
      tidying.next next_drop
      drop_from next_tail
      tail_from by_lead analysis.after closing_from completion.with_elements next_pair
  asks p = refl

  fits_fresh : (p : Option (Terms Fraction)) → IsPast (A p) fresh → ⊥
  fits_fresh p (inl h) = h
  fits_fresh p (inr h) = h

  no_start : past.IsPastStart fractions rationals [] → ⊥
  no_start s = go s.place s.at
    where
      go : (place : ℕ) → slice_get [] place ≡ Some s.element → ⊥
      go place e = cc

  fits_begun : (p : Option (Terms Fraction)) → IsPast (A p) begun → ⊥
  unfolding starting start_list in_order skip_covered free_part block drop_from tail_from by_lead
      completion.with_elements
  fits_begun p (inl s) = no_start s
  fits_begun p (inr (inl h)) = h
  fits_begun p (inr (inr h)) = h.1

  -- what is so at neither of the two states is so at none of a run
  module _ (P : State → Type 0) (at_fresh : P fresh → ⊥) (at_begun : P begun → ⊥) where
    never_at : (es : List Entry) (s : State) → IsRun (moves (A None)) fresh es s → P s → ⊥
    unfolding IsRun state_of
    never_at [] s r h = at_fresh (subst P (sym r) h)
    never_at (e ∷ []) s r h =
        at_begun (subst P (sym (ap state_of (sym (first None) ∙ r.1) ∙ r.2)) h)
    never_at (e ∷ f ∷ es) s r h = absurd (go r.0 (ap state_of (sym (first None) ∙ r.1)) r.2.1)
      where
        go : (u : State) → begun ≡ u → moves (A None) u ≡ Some (f, r.2.0) → ⊥
        go u e is =
            let none = subst (λ v. moves (A None) v ≡ None) e
            (ap (analysis.move_of (A None)) ends) in
            let z : ◌≡◌ {A = Option (Entry × State)} None (Some (f, r.2.0)) = sym none ∙ is in
            cc

  pub never_past : (es : List Entry) (s : State) → IsRun (moves (A None)) fresh es s
      → IsPast (A None) s → ⊥
  never_past = never_at (IsPast (A None)) (fits_fresh None) (fits_begun None)

  pub never_long : (es : List Entry) (s : State) → IsRun (moves (A None)) fresh es s
      → IsLong (A None) s → ⊥
  never_long = never_at (IsLong (A None)) (fresh_short (A None)) (starts_short (A None) _)

  -- ---- the division behind it
  no_cut : (p : Terms Fraction) → find_cut rationals all_places [] p ≡ None
  unfolding find_cut cut_by
  no_cut [] = refl
  no_cut (t ∷ p) = no_cut p

  asking_fits : (p : Terms Fraction) (s : division.State Fraction)
      → IsPast (A (Some p)) (asking 0 [] s) → ⊥
  asking_fits p s (inl h) = h
  asking_fits p s (inr h) = (let z : None ≡ Some h.cutting = sym (no_cut h.left) ∙ h.found in cc)

  asking_on : (p : Terms Fraction) (s : division.State Fraction) (e : Entry) (u : State)
      → moves (A (Some p)) (asking 0 [] s) ≡ Some (e, u)
      → (t : division.State Fraction) × (u ≡ asking 0 [] t)
  unfolding next state_of
  asking_on p s e u is = go (division.next rationals grevlex [] s) is
    where
      go : (o : Option (Event × division.State Fraction))
          → analysis.move_of (A (Some p)) (analysis.asked_by (A (Some p)) 0 [] s o) ≡ Some (e, u)
          → (t : division.State Fraction) × (u ≡ asking 0 [] t)
      go None h = absurd (cc)
      go (Some (f, t)) h = (t, ap state_of (sym h))

  asking_run : (p : Terms Fraction) (es : List Entry) (s : division.State Fraction) (u t : State)
      → u ≡ asking 0 [] s → IsRun (moves (A (Some p))) u es t → IsPast (A (Some p)) t → ⊥
  unfolding IsRun
  asking_run p [] s u t e r h = asking_fits p s (subst (IsPast (A (Some p))) (sym r ∙ e) h)
  asking_run p (f ∷ es) s u t e r h =
      let on = asking_on p s f r.0 (subst (λ v. moves (A (Some p)) v ≡ Some (f, r.0)) e r.1) in
      asking_run p es on.0 r.0 t on.1 r.2 h

  pub never_past_asked : (p : Terms Fraction) (es : List Entry) (s : State)
      → IsRun (moves (A (Some p))) fresh es s → IsPast (A (Some p)) s → ⊥
  unfolding IsRun state_of
  never_past_asked p [] s r h = fits_fresh (Some p) (subst (IsPast (A (Some p))) (sym r) h)
  never_past_asked p (e ∷ []) s r h =
      fits_begun (Some p) (subst (IsPast (A (Some p)))
      (sym (ap state_of (sym (first (Some p)) ∙ r.1) ∙ r.2)) h)
  never_past_asked p (e ∷ f ∷ es) s r h =
      let on : r.2.0 ≡ asking 0 [] (division.initial_state [] p) = sym (ap state_of
      (sym (ap (analysis.move_of (A (Some p))) (asks p))
      ∙ subst (λ v. moves (A (Some p)) v ≡ Some (f, r.2.0))
      (sym (ap state_of (sym (first (Some p)) ∙ r.1))) r.2.1)) in
      asking_run p es (division.initial_state [] p) r.2.0 s on r.2.2 h

  -- ---- journals
  pub x_run : IsRun (moves (A None)) fresh (Begin Start ∷ []) begun
  unfolding IsRun
  x_run = (begun, first None, refl)

  pub x_ends : next (A None) begun ≡ finished 0 []
  x_ends = ends

  pub asked_run : (p : Terms Fraction)
      → IsRun (moves (A (Some p))) fresh (Begin Start ∷ Begin Member ∷ [])
      (asking 0 [] (division.initial_state [] p))
  unfolding IsRun
  asked_run p = (
    begun,
    first (Some p),
    (asking 0 [] (division.initial_state [] p), ap (analysis.move_of (A (Some p))) (asks p), refl),
  )

  pub zero_run : IsRun (moves (A (Some []))) fresh (Begin Start ∷ Begin Member ∷ Did Zero ∷ [])
      (asking 0 [] nothing_left)
  unfolding IsRun next division.next next_division next_cut find_cut
  zero_run = (
    begun,
    first (Some []),
    (
      asking 0 [] (division.initial_state [] []),
      ap (analysis.move_of (A (Some []))) (asks []),
      (asking 0 [] nothing_left, refl, refl),
    ),
  )

  pub zero_answered : next (A (Some [])) (asking 0 [] nothing_left) ≡ answered 0 [] nothing_left
  unfolding next division.next next_division
  zero_answered = refl

  pub some_answered : (t : List ℕ × Fraction) (p : Terms Fraction)
      → next (A (Some (t ∷ p))) (asking 0 [] (division.initial_state [] (t ∷ p))) ≡ answered 0 []
      (division.initial_state [] (t ∷ p))
  unfolding next division.next next_division next_cut
  some_answered t p = ap
      (λ o. analysis.asked_by (A (Some (t ∷ p))) 0 [] (division.initial_state [] (t ∷ p))
      (next_cut rationals grevlex [] (t ∷ p) [] o)) (no_cut (t ∷ p))
