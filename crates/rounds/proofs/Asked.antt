-- What is asked matters at the end alone: an analysis that has finished goes on with the division.
--   next_asked         what comes next, where p is asked for: goes_on of what comes next where nothing is
--   run_asked          a run stays one
--   finished_asked     where it has finished, the division of p comes next
use Rattle.std.proofs.Common.{◌≡◌, ℕ, zero, suc, Bool, true, false, cond, ltb, ◌&&◌, List, [], ◌∷◌, length, refl, ap, ◌∙◌, Option, Some, None}
use Rattle.algebra.specs.Fraction.{Fraction, rationals}
use Rattle.polynomials.specs.Terms.{Terms}
use Rattle.polynomials.specs.Order.{grevlex}
use Rattle.machines.specs.Elimination.{free_part}
use Rattle.machines.specs.Event.{Event}
use Rattle.machines.specs.Journal as journal
use Rattle.machines.specs.Journal.{Entry, Begin}
use Rattle.machines.specs.Run.{IsRun}
use Rattle.machines.specs.Elimination as elimination
use Rattle.machines.specs.Division as division
use Rattle.rounds.specs.Analysis.{Setting, with_asked, Work, starts, iteration, iteration_meet, orbit, meet, State, fresh, working, closing, turning, asking, Step, goes, finished, answered, form_of, iterations_of, block, order, starting, after_closing, test, closing_from, begin_iteration, begin_orbit, after_iterations, begin_branch, after_branch, after_orbit, after, next_work, after_test, closed_by, asked_by, first_step, next, move_of, moves}
use Rattle.rounds.proofs.SameForms.{same_block, same_order}

module _ (setting : Setting) (p : Terms Fraction) where
  abbrev A : Setting
  A = with_asked None setting

  abbrev B : Setting
  B = with_asked (Some p) setting

  -- after the end, the division
  abbrev pub goes_on : Step → Step
  goes_on (goes e s) = goes e s
  goes_on (finished k gs) = goes (Begin journal.Member) (asking k gs (division.initial_state gs p))
  goes_on (answered k gs s) = answered k gs s

  same_closing : (k b i : ℕ) (gs : List (Terms Fraction)) → closing_from B k b i gs
      ≡ goes_on (closing_from A k b i gs)
  unfolding closing_from
  same_closing k b i gs = outer (ltb i (length gs)) (ltb 0 (length gs) && ltb (suc b)
      (length setting.forms))
    where
      outer : (o q : Bool)
          → cond o (test B k b i gs) (cond q (test B k (suc b) 0 gs)
          (after_closing B (Some p) k gs))
          ≡ goes_on
          (cond o (test A k b i gs) (cond q (test A k (suc b) 0 gs)
          (after_closing A None k gs)))
      outer true q = refl
      outer false true = refl
      outer false false = refl

  same_iterations : (k b n : ℕ) (gs before so_far : List (Terms Fraction))
      → after_iterations B k b n gs before so_far ≡ goes_on (after_iterations A k b n gs before
      so_far)
  unfolding after_iterations starting
  same_iterations k b n gs before so_far = go (ltb n (iterations_of setting b))
    where
      go : (o : Bool)
          → cond o (begin_iteration B k b n gs before so_far) (begin_orbit B k b gs so_far)
          ≡ goes_on (cond o (begin_iteration A k b n gs before so_far)
          (begin_orbit A k b gs so_far))
      go true = refl
      go false = refl

  same_branch : (k b : ℕ) (gs hs : List (Terms Fraction)) → after_branch B k b gs hs
      ≡ goes_on (after_branch A k b gs hs)
  unfolding after_branch
  same_branch k b gs hs = go (ltb (suc b) (length setting.forms))
    where
      go : (o : Bool) → cond o (begin_branch B k (suc b) gs hs) (closing_from B k 0 0 hs)
          ≡ goes_on (cond o (begin_branch A k (suc b) gs hs) (closing_from A k 0 0 hs))
      go true = same_iterations k (suc b) 0 gs gs hs
      go false = same_closing k 0 0 hs

  same_after_orbit : (d k b : ℕ) (gs so_far hs : List (Terms Fraction))
      → after_orbit B d k b gs so_far hs ≡ goes_on (after_orbit A d k b gs so_far hs)
  unfolding starting
  same_after_orbit zero k zero gs so_far hs = same_branch k zero gs hs
  same_after_orbit zero k (suc b) gs so_far hs = refl
  same_after_orbit (suc d) k b gs so_far hs = refl

  same_after : (w : Work) (gs : List (Terms Fraction)) → after B w gs ≡ goes_on (after A w gs)
  unfolding after starting
  same_after starts gs = same_closing 0 0 0 gs
  same_after (iteration k b n gs before so_far) ks = refl
  same_after (iteration_meet k b n gs so_far ks) ls = same_iterations k b (suc n) gs ks ls
  same_after (orbit k b gs so_far) hs = same_after_orbit (form_of setting b).since k b gs so_far hs
  same_after (meet k b gs so_far hs) ls = same_branch k b gs ls

  same_working : (w : Work) (s : elimination.State Fraction)
      → next_work B w s (elimination.next rationals (order B w) grevlex (free_part (block B w)) s)
      ≡ goes_on (next_work A w s (elimination.next rationals (order A w) grevlex
      (free_part (block A w))
      s))
  same_working w s =
      ap (λ O. next_work B w s (elimination.next rationals O grevlex (free_part (block B w)) s))
      (same_order A B refl refl w)
      ∙ ap (λ k. next_work B w s (elimination.next rationals (order A w) grevlex (free_part k) s))
      (same_block A B refl refl w)
      ∙ go (elimination.next rationals (order A w) grevlex (free_part (block A w)) s)
    where
      go : (o : Option (Event × elimination.State Fraction))
          → next_work B w s o ≡ goes_on (next_work A w s o)
      go None = ap (λ k. after B w (elimination.list_of grevlex (free_part k) s))
          (same_block A B refl refl w)
          ∙ same_after w (elimination.list_of grevlex (free_part (block A w)) s)
      go (Some (e, t)) = refl

  same_closed : (k b i : ℕ) (gs : List (Terms Fraction)) (s : division.State Fraction)
      → closed_by B k b i gs s (division.next rationals grevlex gs s)
      ≡ goes_on (closed_by A k b i gs s (division.next rationals grevlex gs s))
  same_closed k b i gs s = go (division.next rationals grevlex gs s)
    where
      rest : (o : Option (Terms Fraction)) → after_test B k b i gs o
          ≡ goes_on (after_test A k b i gs o)
      rest None = same_closing k b (suc i) gs
      rest (Some q) = refl

      go : (o : Option (Event × division.State Fraction)) → closed_by B k b i gs s o
          ≡ goes_on (closed_by A k b i gs s o)
      go None = rest s.current
      go (Some (e, t)) = refl

  same_asking : (k : ℕ) (gs : List (Terms Fraction)) (s : division.State Fraction)
      → asked_by B k gs s (division.next rationals grevlex gs s)
      ≡ goes_on (asked_by A k gs s (division.next rationals grevlex gs s))
  same_asking k gs s = go (division.next rationals grevlex gs s)
    where
      go : (o : Option (Event × division.State Fraction))
          → asked_by B k gs s o ≡ goes_on (asked_by A k gs s o)
      go None = refl
      go (Some (e, t)) = refl

  same_first : (o : Option (List (Terms Fraction))) → first_step B o ≡ goes_on (first_step A o)
  unfolding starting
  same_first None = refl
  same_first (Some gs) = same_after starts gs

  pub next_asked : (s : State) → next B s ≡ goes_on (next A s)
  unfolding next starting
  next_asked fresh = same_first setting.given
  next_asked (working w s) = same_working w s
  next_asked (closing k b i gs s) = same_closed k b i gs s
  next_asked (turning k gs) = same_iterations k 0 0 gs gs gs
  next_asked (asking k gs s) = same_asking k gs s

  same_moves : (x : Step) (y : Entry × State) → move_of A x ≡ Some y
      → move_of B (goes_on x) ≡ Some y
  same_moves (goes e s) y h = h
  same_moves (finished k gs) y h = absurd (cc)
  same_moves (answered k gs s) y h = h

  pub run_asked : (es : List Entry) (s t : State) → IsRun (moves A) s es t → IsRun (moves B) s es t
  unfolding IsRun
  run_asked [] s t r = r
  run_asked (e ∷ es) s t r = (
    r.0,
    ap (move_of B) (next_asked s) ∙ same_moves (next A s) (e, r.0) r.1,
    run_asked es r.0 t r.2,
  )

  pub finished_asked : (s : State) (k : ℕ) (gs : List (Terms Fraction)) → next A s ≡ finished k gs
      → next B s ≡ goes (Begin journal.Member) (asking k gs (division.initial_state gs p))
  finished_asked s k gs h = next_asked s ∙ ap goes_on h
