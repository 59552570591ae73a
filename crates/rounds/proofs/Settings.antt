-- Settings with the same start list once it is collected have the same analysis.
--   Alike A ss         ss collected is the start list of A collected;  with_starts A ss: A with ss
--   alike_next, alike_run      what comes next, and runs
--   alike_past         what is past
use Rattle.std.proofs.Common.{◌≡◌, ℕ, zero, suc, Bool, true, false, cond, ltb, List, [], ◌∷◌, map, length, Option, Some, None, refl, sym, ap, subst, ◌∙◌}
use Rattle.std.proofs.Common.{inl, inr}
use Rattle.algebra.specs.Fraction.{Fraction, rationals, fractions}
use Rattle.polynomials.specs.Terms.{Terms}
use Rattle.polynomials.specs.Order.{grevlex}
use Rattle.machines.specs.Collect.{collect}
use Rattle.machines.specs.Elimination.{free_part}
use Rattle.machines.specs.Event.{Event}
use Rattle.machines.specs.Journal.{Entry, Begin}
use Rattle.machines.specs.Journal as journal
use Rattle.machines.specs.Past as machine
use Rattle.machines.specs.Run.{IsRun}
use Rattle.machines.specs.Elimination as elimination
use Rattle.machines.specs.Division as division
use Rattle.rounds.specs.Analysis.{Setting, Work, starts, iteration, iteration_meet, orbit, meet, State, fresh, working, closing, turning, asking, Step, goes, finished, answered, form_of, iterations_of, block, order, starting, start_of, closing_from, begin_iteration, begin_orbit, begin_meet, after_iterations, begin_branch, after_branch, after_orbit, after, next_work, after_test, closed_by, asked_by, first_step, next, move_of, moves}
use Rattle.rounds.specs.Past.{IsPastStarting, IsPastEvent, IsPastTask, IsPast}
use Rattle.rounds.proofs.SameForms.{same_block, same_order}

abbrev pub with_starts : Setting → List (Terms Fraction) → Setting
with_starts A ss = record {
  arity = A.arity;
  starts = ss;
  maps = A.maps;
  forms = A.forms;
  given = A.given;
  asked = A.asked;
}

module _ (A : Setting) (ss : List (Terms Fraction)) (alike : map (collect rationals grevlex) ss
    ≡ map (collect rationals grevlex) A.starts) where
  abbrev B : Setting
  B = with_starts A ss

  same_starting : (w : Work) → starting B w ≡ starting A w
  unfolding starting
  same_starting starts = alike
  same_starting (iteration k b n gs before so_far) = refl
  same_starting (iteration_meet k b n gs so_far ks) = refl
  same_starting (orbit k b gs so_far) = refl
  same_starting (meet k b gs so_far hs) = refl

  same_begun : (w : Work) → start_of B w ≡ start_of A w
  same_begun w = ap (λ O. working w (elimination.initial_state rationals O (starting B w)))
      (same_order A B refl refl w)
      ∙ ap (λ l. working w (elimination.initial_state rationals (order A w) l))
      (same_starting w)

  same_closing : (k b i : ℕ) (gs : List (Terms Fraction)) → closing_from B k b i gs ≡ closing_from A
      k b i gs
  unfolding closing_from
  same_closing k b i gs = refl

  same_orbit : (k b : ℕ) (gs so_far : List (Terms Fraction)) → begin_orbit B k b gs so_far
      ≡ begin_orbit A k b gs so_far
  same_orbit k b gs so_far = ap (goes (Begin (journal.Orbit k (suc b))))
      (same_begun (orbit k b gs so_far))

  same_meet : (k b : ℕ) (gs so_far hs : List (Terms Fraction)) → begin_meet B k b gs so_far hs
      ≡ begin_meet A k b gs so_far hs
  same_meet k b gs so_far hs = ap (goes (Begin (journal.Meet k (suc b))))
      (same_begun (meet k b gs so_far hs))

  same_iterations : (k b n : ℕ) (gs before so_far : List (Terms Fraction))
      → after_iterations B k b n gs before so_far ≡ after_iterations A k b n gs before so_far
  unfolding after_iterations
  same_iterations k b n gs before so_far = go (ltb n (iterations_of A b))
    where
      go : (o : Bool)
          → cond o (begin_iteration B k b n gs before so_far) (begin_orbit B k b gs so_far)
          ≡ cond o (begin_iteration A k b n gs before so_far) (begin_orbit A k b gs so_far)
      go true = ap (goes (Begin (journal.Iteration k (suc b) (suc n))))
          (same_begun (iteration k b n gs before so_far))
      go false = same_orbit k b gs so_far

  same_branch : (k b : ℕ) (gs hs : List (Terms Fraction)) → after_branch B k b gs hs ≡ after_branch
      A k b gs hs
  unfolding after_branch
  same_branch k b gs hs = go (ltb (suc b) (length A.forms))
    where
      go : (o : Bool) → cond o (begin_branch B k (suc b) gs hs) (closing_from B k 0 0 hs)
          ≡ cond o (begin_branch A k (suc b) gs hs) (closing_from A k 0 0 hs)
      go true = same_iterations k (suc b) 0 gs gs hs
      go false = same_closing k 0 0 hs

  same_after_orbit : (d k b : ℕ) (gs so_far hs : List (Terms Fraction))
      → after_orbit B d k b gs so_far hs ≡ after_orbit A d k b gs so_far hs
  same_after_orbit zero k zero gs so_far hs = same_branch k zero gs hs
  same_after_orbit zero k (suc b) gs so_far hs = same_meet k (suc b) gs so_far hs
  same_after_orbit (suc d) k b gs so_far hs = same_meet k b gs so_far hs

  same_after : (w : Work) (gs : List (Terms Fraction)) → after B w gs ≡ after A w gs
  unfolding after
  same_after starts gs = same_closing 0 0 0 gs
  same_after (iteration k b n gs before so_far) ks =
      ap (goes (Begin (journal.IterationMeet k (suc b)
      (suc n)))) (same_begun (iteration_meet k b n gs so_far ks))
  same_after (iteration_meet k b n gs so_far ks) ls = same_iterations k b (suc n) gs ks ls
  same_after (orbit k b gs so_far) hs = same_after_orbit (form_of A b).since k b gs so_far hs
  same_after (meet k b gs so_far hs) ls = same_branch k b gs ls

  same_working : (w : Work) (s : elimination.State Fraction)
      → next_work B w s (elimination.next rationals (order B w) grevlex (free_part (block B w)) s)
      ≡ next_work A w s (elimination.next rationals (order A w) grevlex (free_part (block A w)) s)
  same_working w s =
      ap (λ O. next_work B w s (elimination.next rationals O grevlex (free_part (block B w)) s))
      (same_order A B refl refl w)
      ∙ ap (λ k. next_work B w s (elimination.next rationals (order A w) grevlex (free_part k) s))
      (same_block A B refl refl w)
      ∙ go (elimination.next rationals (order A w) grevlex (free_part (block A w)) s)
    where
      go : (o : Option (Event × elimination.State Fraction)) → next_work B w s o ≡ next_work A w s o
      go None = ap (λ k. after B w (elimination.list_of grevlex (free_part k) s))
          (same_block A B refl refl w)
          ∙ same_after w (elimination.list_of grevlex (free_part (block A w)) s)
      go (Some (e, t)) = refl

  same_closed : (k b i : ℕ) (gs : List (Terms Fraction)) (s : division.State Fraction)
      (o : Option (Event × division.State Fraction)) → closed_by B k b i gs s o ≡ closed_by A k b i
      gs s o
  same_closed k b i gs s None = rest s.current
    where
      rest : (o : Option (Terms Fraction)) → after_test B k b i gs o ≡ after_test A k b i gs o
      rest None = same_closing k b (suc i) gs
      rest (Some q) = refl
  same_closed k b i gs s (Some (e, t)) = refl

  same_asking : (k : ℕ) (gs : List (Terms Fraction)) (s : division.State Fraction)
      (o : Option (Event × division.State Fraction)) → asked_by B k gs s o ≡ asked_by A k gs s o
  same_asking k gs s None = refl
  same_asking k gs s (Some (e, t)) = refl

  same_first : (o : Option (List (Terms Fraction))) → first_step B o ≡ first_step A o
  same_first None = ap (goes (Begin journal.Start)) (same_begun starts)
  same_first (Some gs) = same_after starts gs

  pub alike_next : (s : State) → next (with_starts A ss) s ≡ next A s
  unfolding next
  alike_next fresh = same_first A.given
  alike_next (working w s) = same_working w s
  alike_next (closing k b i gs s) = same_closed k b i gs s (division.next rationals grevlex gs s)
  alike_next (turning k gs) = same_iterations k 0 0 gs gs gs
  alike_next (asking k gs s) = same_asking k gs s (division.next rationals grevlex gs s)

  same_moved : (x : Step) → move_of B x ≡ move_of A x
  same_moved (goes e s) = refl
  same_moved (finished k gs) = refl
  same_moved (answered k gs s) = refl

  pub alike_run : (es : List Entry) (s t : State) → IsRun (moves A) s es t
      → IsRun (moves (with_starts A ss)) s es t
  unfolding IsRun
  alike_run [] s t r = r
  alike_run (e ∷ es) s t r = (
    r.0,
    same_moved (next B s) ∙ ap (move_of A) (alike_next s)
        ∙ r.1,
    alike_run es r.0 t r.2,
  )

  past_start : (w : Work) → machine.IsPastStart fractions rationals (starting A w)
      → machine.IsPastStart fractions rationals (starting B w)
  past_start w p = subst (machine.IsPastStart fractions rationals) (sym (same_starting w)) p

  past_starting : (w : Work) → IsPastStarting A w → IsPastStarting B w
  past_starting starts p = past_start starts p
  past_starting (iteration k b n gs before so_far) (inl p) = inl p
  past_starting (iteration k b n gs before so_far) (inr p) =
      inr (past_start (iteration k b n gs before so_far)
      p)
  past_starting (iteration_meet k b n gs so_far ks) (inl p) = inl p
  past_starting (iteration_meet k b n gs so_far ks) (inr (inl p)) = inr (inl p)
  past_starting (iteration_meet k b n gs so_far ks) (inr (inr p)) =
      inr (inr (past_start (iteration_meet k b n gs so_far ks) p))
  past_starting (orbit k b gs so_far) (inl p) = inl p
  past_starting (orbit k b gs so_far) (inr p) = inr (past_start (orbit k b gs so_far) p)
  past_starting (meet k b gs so_far hs) (inl p) = inl p
  past_starting (meet k b gs so_far hs) (inr (inl p)) = inr (inl p)
  past_starting (meet k b gs so_far hs) (inr (inr p)) =
      inr (inr (past_start (meet k b gs so_far hs) p))

  past_task : (s : State) → IsPastTask A s → IsPastTask B s
  past_task fresh p = p
  past_task (working w s) p = past_starting w p
  past_task (closing k b i gs s) p = p
  past_task (turning k gs) p = p
  past_task (asking k gs s) p = p

  past_event : (s : State) → IsPastEvent A s → IsPastEvent B s
  past_event fresh p = p
  past_event (working w s) p =
      subst (λ O. machine.IsPastElimination fractions rationals O grevlex (free_part (block B w)) s)
      (sym (same_order A B refl refl w))
      (subst (λ k. machine.IsPastElimination fractions rationals (order A w) grevlex (free_part k)
      s)
      (sym (same_block A B refl refl w)) p)
  past_event (closing k b i gs s) p = p
  past_event (turning k gs) p = p
  past_event (asking k gs s) p = p

  pub alike_past : (s : State) → IsPast A s → IsPast (with_starts A ss) s
  alike_past s (inl p) = inl (past_task s p)
  alike_past s (inr p) = inr (past_event s p)
