-- What `basis` and `cert` promise up to a degree, from the outcome of their course.
--   settled        their answers are settled
--   finds_up_to    the clauses
use Rattle.std.proofs.Common.{◌≡◌, ℕ, refl, sym, subst, inl, inr, Ok}
use Rattle.machines.specs.Journal.{Journal}
use Rattle.loops.specs.Program.{Expr, Program}
use Rattle.poly_text.specs.Reasons.{Fault, limit}
use Rattle.loop_model.specs.Maps.{AreFree}
use Rattle.io_edge.specs.declared.answer.Status.{Status}
use Rattle.io_edge.specs.Settled.{IsSettled}
use Rattle.io_edge.specs.Course.{EachAnswer}
use Rattle.io_edge.specs.Outcome.{Call, IsCarriedOut}
use Rattle.io_edge.proofs.OfStatuses.{text_of}
use Rattle.io_edge.proofs.Outcomes.{or_excused, or_wide}
use Rattle.io_edge.proofs.OneFile as one_file
use Rattle.io_edge.proofs.OneFile.{OneFile, concludes_yes, concludes_no, concludes_exhausted, answered, ends_at_fault, tells, writes, refused, never_ends, not_ended, left, long}
use Rattle.command_parts.specs.FaultTexts.{loop_refusal}
use Rattle.command_parts.specs.LoopReading.{ReadsLoop}
use Rattle.command_parts.proofs.LoopCourses.{reading_loop}
use Rattle.closing_commands.specs.Degrees.{Searches, HasSearched}
use Rattle.closing_commands.specs.DegreeArguments.{Request}
use Rattle.closing_commands.specs.DegreeTexts.{degree_answer}
use Rattle.closing_commands.specs.DegreeHeadline.{ShowsUpTo}
use Rattle.closing_commands.specs.DegreeCourse.{course}
use Rattle.closing_commands.specs.DegreeClauses.{HasEnded, StopsSearch, IsExhaustedSearch, IsSearched, EndsUpTo, FindsUpTo}
use Rattle.closing_commands.proofs.DegreeDecided.{map_limit_told, many_told, complete, enough_said}
use Rattle.closing_commands.proofs.DegreeShown.{searches_settled, searches_not_no, told_when_yes, exhausted_when_budget, stop_when_refusing, yes_shown, yes_maps, yes_ends}

module _ (request : Request) where
  abbrev d : ℕ
  d = request.degree

  abbrev n : ℕ
  n = request.budget

  abbrev path : OneFile (Program (Expr ℕ)) Fault
  path = reading_loop request.file (λ l m. HasSearched l d m request.evidence n)
      (λ l m a. Searches l d m request.evidence n a)

  pub settled : EachAnswer (λ a. IsSettled a.status) (course request)
  settled = one_file.settled path (λ l m a s. searches_settled l d m request.evidence n a s)

  module _ (call : Call) (f : IsCarriedOut (course request) call) where
    abbrev m : Journal
    m = call.meter.after

    ends_along : (s t : Status) (l : Program (Expr ℕ)) → t ≡ s → EndsUpTo l d request.evidence s
        → EndsUpTo l d request.evidence t
    ends_along s t l same h = subst (EndsUpTo l d request.evidence) (sym same) h

    decided : (l : Program (Expr ℕ)) → ReadsLoop call request.file (Ok l) → AreFree l
        → EndsUpTo l d request.evidence call.status
    decided l r maps =
        elim (or_excused (course request) call f
        (λ s. ends_along s.answer.status call.status l s.same
        (complete request.evidence l d n m s.answer (answered path call f l r s) maps))) [
          | inl excused ↦ inr (inr (inr (inr excused)))
          | inr h ↦ h
        ]

    pub finds_up_to : FindsUpTo request call
    finds_up_to = record {
      found = writes path call f concludes_yes (λ text. ShowsUpTo text d request.evidence)
          (λ text l a e s yes. yes_shown text d l e m a request.evidence
          (told_when_yes l d m request.evidence n a s yes));
      ended = tells path call f concludes_yes (λ text. HasEnded request.evidence text d n m)
          (λ text l a e s yes.
          let t = told_when_yes l d m request.evidence n a s yes in
          let ends = yes_ends l d m request.evidence a t in
          record {
            loop = l;
            is_loop = e;
            free = yes_maps l d m request.evidence a t;
            limit = s.limit;
            list = ends.0;
            closure = ends.1;
            ends = ends.2;
          });
      why = λ is. refused path call f call.status is
          (λ text a. StopsSearch request.evidence text d n m a)
          (λ text l a e s same refusing. record {
            loop = l;
            is_loop = e;
            limit = s.limit;
            stops = stop_when_refusing l d m request.evidence n a s refusing;
          }) refl;
      exhausted = writes path call f concludes_exhausted
          (λ text. IsExhaustedSearch request.evidence text d n m)
          (λ text l a e s out.
          let t = exhausted_when_budget l d m request.evidence n a s out in
          record {
            loop = l;
            is_loop = e;
            limit = s.limit;
            maps = t.maps;
            out = t.out;
            says = text_of t.says;
          });
      no = never_ends path call f concludes_no
          (λ l j a s. searches_not_no l d j request.evidence n a s);
      journal = left path call f (λ text. IsSearched request.evidence text d n m)
          (λ text l e h. record { loop = l; is_loop = e; searched = h });
      loop_fault = ends_at_fault path call f;
      map_limit = λ l at r first.
          or_wide (course request) call f (loop_refusal (record { reason = limit; at = at }))
          (λ s. map_limit_told request.evidence l d n m s.answer (answered path call f l r s) at
          first);
      degree_limit = λ l r maps many.
          or_wide (course request) call f (degree_answer d)
          (λ s. many_told request.evidence l d n m s.answer (answered path call f l r s) maps many);
      decided = decided;
      enough = λ l r within. not_ended path call f concludes_exhausted l r
          (λ a s. enough_said request.evidence l d n m a s within);
      completes = λ l r maps no_limit no_wide within. elim (decided l r maps) [
        | inl is ↦ inl is
        | inr (inl x) ↦ absurd (no_limit x.1)
        | inr (inr (inl x)) ↦ absurd (no_wide x.1)
        | inr (inr (inr (inl out)))
            ↦ absurd (not_ended path call f concludes_exhausted l r
            (λ a s. enough_said request.evidence l d n m a s within) out)
        | inr (inr (inr (inr excused))) ↦ inr excused
      ];
      long = long path call f;
    }
