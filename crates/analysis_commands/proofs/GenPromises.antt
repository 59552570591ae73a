-- What `gen` of n loops promises, from the outcome of its course.
--   settled      its answers are settled
--   tallies      the clauses
use Rattle.std.proofs.Common.{◌≡◌, ◌≢◌, ℕ, suc, List, refl, sym, ◌∙◌, inl, inr}
use Rattle.std.specs.Prelude.{◌⊎◌}
use Rattle.machines.specs.Journal.{Journal}
use Rattle.loops.specs.Program.{Expr, Program}
use Rattle.loop_model.specs.Maps.{AreFree}
use Rattle.loop_text.specs.Family.{loop_text}
use Rattle.command_parts.specs.Numerals.{usual_budget}
use Rattle.io_edge.specs.declared.answer.Status.TheVariants as status
use Rattle.io_edge.specs.Texts.{Answer}
use Rattle.io_edge.specs.Settled.{IsSettled}
use Rattle.io_edge.specs.Course.{EachAnswer}
use Rattle.io_edge.specs.Outcome.{Call, IsCarriedOut}
use Rattle.io_edge.specs.Clauses.{Wrote}
use Rattle.io_edge.proofs.OfStatuses.{settled_yes}
use Rattle.io_edge.proofs.Outcomes.{Said, yes_said, said_with, refusal_told, written, or_yes, never, meter_left}
use Rattle.analysis_commands.specs.declared.kind.Kind.TheVariants.{Basis}
use Rattle.analysis_commands.specs.Analyses.{refused, Analyses}
use Rattle.analysis_commands.specs.Completeness.{AllSplit}
use Rattle.analysis_commands.specs.Causes.{IsExhausted, IsNeverLong, IsNeverRefused, IsWithinBudget}
use Rattle.analysis_commands.specs.Counting.{ShowsCounts, StopsAt, IsLongAt, IsExhaustedAt, AnswersFamily, IsFamily}
use Rattle.analysis_commands.specs.GenCourse.{course}
use Rattle.analysis_commands.specs.GenClauses.{Tallies}
use Rattle.analysis_commands.proofs.Refused.{refusal_parts, refusal_kind}
use Rattle.analysis_commands.proofs.Settling.{analyses_settled, analyses_not_no}
use Rattle.analysis_commands.proofs.Analysing.{refused_not_yes, out_shown, formed_analysed, all_analysed}
use Rattle.analysis_commands.proofs.Endings.{or_found, not_exhausted}
use Rattle.analysis_commands.proofs.LongTasks.{limit_written, unanalysed_long}

-- ---- the first loop that has no basis
module _ (n : ℕ) (m : Journal) (a : Answer) (stop : StopsAt n m a) where
  abbrev stop_text : List ℕ
  stop_text = loop_text (suc stop.place)

  abbrev stop_loop : Program (Expr ℕ)
  stop_loop = stop.refused.loop

  stop_analyses : Analyses Basis stop_loop usual_budget m a
  stop_analyses =
      let r = stop.refused.refused in
      record { ending = refused r.error; ends = r.ends; says = r.says }

  stop_not_yes : a.status ≢ status.Yes
  stop_not_yes =
      let r = stop.refused.refused in
      let parts = refusal_parts stop_loop.names usual_budget r.error a r.says in
      refused_not_yes r.error a.status (refusal_kind r.error a.status parts.0)

  stop_exhausted : a.status ≡ status.Budget → IsExhausted stop_text usual_budget m a.text
  stop_exhausted is =
      out_shown Basis stop_text stop_loop usual_budget m a stop.refused.is_loop stop_analyses is

  stop_not_exhausted : IsWithinBudget stop_loop usual_budget → a.status ≢ status.Budget
  stop_not_exhausted within is =
      not_exhausted stop_text stop_loop usual_budget m a.text stop.refused.is_loop within
      (stop_exhausted is)

module _ (n : ℕ) where
  each_settled : (m : Journal) (a : Answer) → AnswersFamily n m a → IsSettled a.status
  each_settled m a (inl told) = settled_yes a.status told.0
  each_settled m a (inr stop) =
      analyses_settled Basis stop.refused.loop usual_budget a m (stop_analyses n m a stop)

  each_not_no : (m : Journal) (a : Answer) → AnswersFamily n m a → a.status ≢ status.No
  each_not_no m a (inl told) h = let x : status.Yes ≡ status.No = sym told.0 ∙ h in cc
  each_not_no m a (inr stop) h =
      analyses_not_no Basis stop.refused.loop usual_budget a m (stop_analyses n m a stop) h

  pub settled : EachAnswer (λ a. IsSettled a.status) (course n)
  settled = each_settled

  -- ---- what is shown
  shown : (m : Journal) (a : Answer) → AnswersFamily n m a → a.status ≡ status.Yes
      → ShowsCounts n m a.text
  shown m a (inl told) h = told.1
  shown m a (inr stop) h = absurd (stop_not_yes n m a stop h)

  stopped : (m : Journal) (a : Answer) → AnswersFamily n m a → a.status ≢ status.Yes → StopsAt n m a
  stopped m a (inl told) not = absurd (not told.0)
  stopped m a (inr stop) not = stop

  exhausted_at : (m : Journal) (a : Answer) (stop : StopsAt n m a) → a.status ≡ status.Budget
      → IsExhaustedAt n m a.text
  exhausted_at m a stop is = record {
    place = stop.place;
    within = stop.within;
    counts = stop.counts;
    last = stop.last;
    counted = stop.counted;
    exhausted = stop_exhausted n m a stop is;
  }

  -- ---- where it ends
  found : (m : Journal) (a : Answer) → IsFamily n (λ l. AreFree l × AllSplit l × IsNeverLong l)
      → AnswersFamily n m a
      → (a.status ≡ status.Yes) ⊎ ((a.status ≡ status.Wide) ⊎ (a.status ≡ status.Budget))
  found m a each (inl told) = inl told.0
  found m a each (inr stop) =
      let has = each stop.place stop.refused.loop stop.within stop.refused.is_loop in
      formed_analysed Basis stop.refused.loop usual_budget m a has.0 has.1 has.2
      (stop_analyses n m a stop)

  enough : (m : Journal) (a : Answer) → IsFamily n (λ l. IsWithinBudget l usual_budget)
      → AnswersFamily n m a → a.status ≢ status.Budget
  enough m a each (inl told) h = let x : status.Yes ≡ status.Budget = sym told.0 ∙ h in cc
  enough m a each (inr stop) h =
      stop_not_exhausted n m a stop
      (each stop.place stop.refused.loop stop.within stop.refused.is_loop) h

  completes : (m : Journal) (a : Answer)
      → IsFamily n (λ l. IsNeverRefused l × IsWithinBudget l usual_budget) → AnswersFamily n m a
      → a.status ≡ status.Yes
  completes m a each (inl told) = told.0
  completes m a each (inr stop) =
      let has = each stop.place stop.refused.loop stop.within stop.refused.is_loop in
      all_analysed Basis stop.refused.loop usual_budget m a has.0 has.1 (stop_analyses n m a stop)

  module _ (call : Call) (f : IsCarriedOut (course n) call) where
    abbrev left : Journal
    left = call.meter.after

    budget_said : call.status ≡ status.Budget → Said (course n) call
    budget_said is = said_with (course n) call f status.Budget is (λ h. cc) (λ h. cc) (λ h. cc)

    exhausted_shown : call.status ≡ status.Budget → Wrote call.sink (IsExhaustedAt n left)
    exhausted_shown is =
        let s = budget_said is in
        let exhausted : s.answer.status ≡ status.Budget = sym s.same ∙ is in
        let stop = stopped left s.answer s.is
        (λ y. let x : status.Yes ≡ status.Budget = sym y ∙ exhausted in cc) in
        written (course n) call f (IsExhaustedAt n left) s (exhausted_at left s.answer stop
        exhausted)

    pub tallies : Tallies n call
    tallies = record {
      counts = λ is.
          let s = yes_said (course n) call f is in
          written (course n) call f (ShowsCounts n left) s
          (shown left s.answer s.is (sym s.same ∙ is));
      why = λ is. refusal_told (course n) call f call.status is (StopsAt n left)
          (λ s same refusing. stopped left s.answer s.is refusing.yes_not) refl;
      exhausted = exhausted_shown;
      no = never (course n) call f status.No (λ h. cc) (λ h. cc) (λ h. cc) each_not_no;
      journal = meter_left (course n) call f;
      limit_told = λ is. limit_written call (StopsAt n left) (IsLongAt n left)
          (λ a place stop said. record {
            number = stop.place;
            within = stop.within;
            told = unanalysed_long (loop_text (suc stop.place)) usual_budget left a place
                stop.refused said;
          })
          (refusal_told (course n) call f status.Fault (inl refl) (StopsAt n left)
          (λ s same refusing. stopped left s.answer s.is refusing.yes_not) is);
      found = λ each. or_found (course n) call f (λ s. found left s.answer each s.is);
      enough = λ each is. let s = budget_said is in
          enough left s.answer each s.is (sym s.same ∙ is);
      completes = λ each. or_yes (course n) call f (λ s. completes left s.answer each s.is);
    }
