-- The trace of no rounds of a loop of one variable without init, whose branches do nothing: it begins with no equation, and ends with none.
--   never_past         no state of it is past
--   x_run, x_ends      the trace
use Rattle.std.proofs.Common.{◌≡◌, inl, inr, ℕ, List, [], ◌∷◌, slice_get, refl, sym, ap, subst, ◌∙◌, Option, Some, None}
use Rattle.algebra.specs.Fraction.{fractions, rationals}
use Rattle.polynomials.specs.Order.{grevlex}
use Rattle.machines.specs.Completion as completion
use Rattle.machines.specs.Completion.{next_completion, next_pair}
use Rattle.machines.specs.Elimination.{free_part}
use Rattle.machines.specs.Journal.{Entry, Begin, Start}
use Rattle.machines.specs.Pairs.{skip_covered}
use Rattle.machines.specs.Past as past
use Rattle.machines.specs.Run.{IsRun}
use Rattle.machines.specs.Tidying as tidying
use Rattle.machines.specs.Tidying.{next_tail, next_drop, drop_from, tail_from, by_lead}
use Rattle.loops.specs.Program.{Expr, Statement}
use Rattle.rounds.specs.Analysis.{Setting, starts, block, starting}
use Rattle.rounds.specs.Form.{Form}
use Rattle.rounds.specs.Journal.{setting_of}
use Rattle.rounds.specs.Start.{start_list, in_order}
use Rattle.corollaries.specs.Followed.{IsPast, IsPastDividends}
use Rattle.corollaries.specs.Trace.{State, fresh, completing, no_results, finished, next, move_of, moves, list_dividends, link_dividends, stage_of, after, link_from, divide_from}
use Rattle.analysis_commands.proofs.IdleRuns.{x_loop}

abbrev begun : State
begun = completing no_results starts (completion.initial_state rationals grevlex [])

state_of : Option (Entry × State) → State
state_of None = fresh
state_of (Some x) = x.1

module _ (branches : List (List (Statement (Expr ℕ)))) (forms : List Form) where
  abbrev A : Setting
  A = setting_of (x_loop branches) forms None

  first : moves A 0 fresh ≡ Some (Begin Start, begun)
  unfolding next starting start_list in_order
  first = refl

  ends : next A 0 begun ≡ finished no_results
  unfolding next completion.next next_completion skip_covered free_part block tidying.next next_drop
      drop_from next_tail
      tail_from by_lead completion.with_elements next_pair divide_from list_dividends link_from
      link_dividends stage_of after starting start_list in_order
  ends = refl

  fits_fresh : IsPast A fresh → ⊥
  fits_fresh (inl h) = h
  fits_fresh (inr h) = h

  no_start : past.IsPastStart fractions rationals [] → ⊥
  no_start s = go s.place s.at
    where
      go : (place : ℕ) → slice_get [] place ≡ Some s.element → ⊥
      go place e = cc

  fits_begun : IsPast A begun → ⊥
  unfolding starting start_list in_order skip_covered free_part block drop_from tail_from by_lead
      completion.with_elements list_dividends link_dividends IsPastDividends
  fits_begun (inl s) = no_start s
  fits_begun (inr (inl h)) = h
  fits_begun (inr (inr (h, inl k))) = k
  fits_begun (inr (inr (h, inr k))) = k.1

  pub never_past : (es : List Entry) (s : State) → IsRun (moves A 0) fresh es s → IsPast A s → ⊥
  unfolding IsRun state_of
  never_past [] s r h = fits_fresh (subst (IsPast A) (sym r) h)
  never_past (e ∷ []) s r h =
      fits_begun (subst (IsPast A) (sym (ap state_of (sym first ∙ r.1) ∙ r.2)) h)
  never_past (e ∷ f ∷ es) s r h = absurd (go r.0 (ap state_of (sym first ∙ r.1)) r.2.1)
    where
      go : (u : State) → begun ≡ u → moves A 0 u ≡ Some (f, r.2.0) → ⊥
      go u e is =
          let none = subst (λ v. moves A 0 v ≡ None) e (ap (move_of A 0) ends) in
          let z : ◌≡◌ {A = Option (Entry × State)} None (Some (f, r.2.0)) = sym none ∙ is in
          cc

  pub x_run : IsRun (moves A 0) fresh (Begin Start ∷ []) begun
  unfolding IsRun
  x_run = (begun, first, refl)

  pub x_ends : next A 0 begun ≡ finished no_results
  x_ends = ends
