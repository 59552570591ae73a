-- What `counter` promises, from the outcome of its course.
--   settled       its answers are settled
--   counters      the clauses
use Rattle.std.proofs.Common.{◌≡◌, ◌≢◌, ℕ, List, length, refl, sym, subst, ◌∙◌, inl, inr, Result, Ok, Err}
use Rattle.std.specs.Prelude.{◌⊎◌}
use Rattle.loops.specs.Program.{Expr, Program}
use Rattle.poly_text.specs.Reasons.{Fault, limit}
use Rattle.loop_model.specs.Operations.{IsLimit}
use Rattle.loop_model.specs.Maps.{AreFree}
use Rattle.loop_text.specs.LoopReader.{loop_of}
use Rattle.corollaries.specs.Counter.{IsFirstWord}
use Rattle.io_edge.specs.declared.answer.Status.{Status}
use Rattle.io_edge.specs.declared.answer.Status.TheVariants as status
use Rattle.io_edge.specs.Texts.{Answer}
use Rattle.io_edge.specs.Settled.{IsSettled, IsPlain}
use Rattle.io_edge.specs.Course.{EachAnswer}
use Rattle.io_edge.specs.Outcome.{Call, IsCarriedOut}
use Rattle.io_edge.specs.Clauses.{IsExcused}
use Rattle.io_edge.proofs.Outcomes.{Said, or_excused, or_wide, ends_so}
use Rattle.io_edge.proofs.OneFile as one_file
use Rattle.io_edge.proofs.OneFile.{OneFile, concludes_yes, concludes_no, concludes_exhausted, answered, ends_at_fault, writes, refused, never_ends, kept, long}
use Rattle.command_parts.specs.FaultTexts.{loop_refusal}
use Rattle.command_parts.proofs.MapLimits.{not_free}
use Rattle.command_parts.proofs.LoopCourses.{reading_loop}
use Rattle.command_parts.specs.Equations.{equation_in, operations_of, polynomial_of, FormsFreely}
use Rattle.command_parts.specs.EquationReading.{equation_refusal}
use Rattle.command_parts.proofs.Refusals.{equation_refuses, unformed_refuses, stopped_limit}
use Rattle.replay_commands.specs.CounterSeeking.{Answers}
use Rattle.replay_commands.specs.CounterTexts.{none_answer, limit_answer, cost_answer}
use Rattle.replay_commands.specs.CounterArguments.{Request}
use Rattle.replay_commands.specs.CounterCourse.{course}
use Rattle.replay_commands.specs.CounterClauses.{IsEquationFault, StopsSearch, ReadsEquation, IsWithin, EndsSeeking, Counters}
use Rattle.replay_commands.specs.CounterHeadline.{IsQuestion, ShowsCounterRun, ShowsNoneUpTo}
use Rattle.replay_commands.proofs.CounterShown.{answers_plain, run_when_no, none_when_yes, stop_when_refusing}
use Rattle.replay_commands.proofs.CounterDecided.{map_limit_told, complete, first_found, none_found, limit_told, cost_told}

-- ---- by what the equation is
module _ (text equation : List ℕ) (n : ℕ) (l : Program (Expr ℕ)) (a : Answer)
    (is_loop : loop_of text ≡ Ok l) where
  run_at : (reading : Result (Expr ℕ) Fault) → equation_in l.names equation ≡ reading
      → Answers l reading n a → a.status ≡ status.No → ShowsCounterRun text equation n a.text
  run_at (Err fault) is h is_no = absurd ((equation_refuses fault a h).no_not is_no)
  run_at (Ok e) is (inl u) is_no = absurd ((unformed_refuses l e a u).no_not is_no)
  run_at (Ok e) is (inr h) is_no =
      run_when_no text equation l e (record { is_loop = is_loop; is_equation = is }) n a is_no h.1

  none_at : (reading : Result (Expr ℕ) Fault) → equation_in l.names equation ≡ reading
      → Answers l reading n a → a.status ≡ status.Yes → ShowsNoneUpTo text equation n a.text
  none_at (Err fault) is h is_yes = absurd ((equation_refuses fault a h).yes_not is_yes)
  none_at (Ok e) is (inl u) is_yes = absurd ((unformed_refuses l e a u).yes_not is_yes)
  none_at (Ok e) is (inr h) is_yes =
      none_when_yes text equation l e
      (record { is_loop = is_loop; is_equation = is }) n a is_yes h.1

  refusal_at : (reading : Result (Expr ℕ) Fault) → equation_in l.names equation ≡ reading
      → Answers l reading n a → a.status ≢ status.No → a.status ≢ status.Yes
      → IsEquationFault text equation a ⊎ StopsSearch text equation n a
  refusal_at (Err fault) is h not_no not_yes =
      inl (record { loop = l; is_loop = is_loop; fault = fault; is = is; says = h })
  refusal_at (Ok e) is (inl u) not_no not_yes = inr (record {
    loop = l;
    difference = e;
    question = record { is_loop = is_loop; is_equation = is };
    stops = inl u;
  })
  refusal_at (Ok e) is (inr h) not_no not_yes =
      let question : IsQuestion text equation l e =
      record { is_loop = is_loop; is_equation = is } in
      inr (record {
        loop = l;
        difference = e;
        question = question;
        stops = inr (h.0, stop_when_refusing text equation l e question n a not_no not_yes h.1);
      })

equation_limited : (l : Program (Expr ℕ)) (e : Expr ℕ) (n at : ℕ) (a : Answer)
    → IsLimit (length l.names) (operations_of l e) at → Answers l (Ok e) n a
    → (a ≡ equation_refusal (record { reason = limit; at = at })) ⊎ (a.status ≡ status.Wide)
equation_limited l e n at a first (inl u) = stopped_limit l e a at first u
equation_limited l e n at a first (inr h) =
    absurd (not_free (length l.names) (operations_of l e) at first h.0)

ends_along : (s t : Status) (l : Program (Expr ℕ)) (e : Expr ℕ) (n : ℕ) → t ≡ s
    → EndsSeeking s l e n → EndsSeeking t l e n
ends_along s t l e n same h = subst (λ x. EndsSeeking x l e n) (sym same) h

-- ---- the clauses
module _ (request : Request) where
  abbrev path : OneFile (Program (Expr ℕ)) Fault
  path = reading_loop request.file (λ l m. ⊥)
      (λ l m a. Answers l (equation_in l.names request.equation) request.most a)

  answer_plain : (l : Program (Expr ℕ)) (a : Answer)
      → Answers l (equation_in l.names request.equation) request.most a → IsPlain a.status
  answer_plain l a h = answers_plain l (equation_in l.names request.equation) request.most a h

  pub settled : EachAnswer (λ a. IsSettled a.status) (course request)
  settled = one_file.settled path (λ l m a h. (answer_plain l a h).settled)

  module _ (call : Call) (f : IsCarriedOut (course request) call) where
    answers_told : (l : Program (Expr ℕ)) (reading : Result (Expr ℕ) Fault)
        → ReadsEquation call request l reading → (s : Said (course request) call)
        → Answers l reading request.most s.answer
    answers_told l reading r s =
        subst (λ x. Answers l x request.most s.answer) r.reads (answered path call f l r.loop s)

    first : (l : Program (Expr ℕ)) (e : Expr ℕ) (w : List ℕ) → ReadsEquation call request l (Ok e)
        → FormsFreely l e → AreFree l → IsFirstWord l (polynomial_of l e) w
        → IsWithin l (polynomial_of l e) w request.most
        → (call.status ≡ status.No) ⊎ ((call.status ≡ status.Wide) ⊎ IsExcused call.status)
    first l e w r formed maps is within =
        elim (or_excused (course request) call f
        (λ s. go s (first_found l e request.most s.answer (answers_told l (Ok e) r s) formed maps w
        is within))) [ inl excused ↦ inr (inr excused) | inr h ↦ h ]
      where
        go : (s : Said (course request) call)
            → (s.answer.status ≡ status.No) ⊎ (s.answer.status ≡ status.Wide)
            → (call.status ≡ status.No) ⊎ ((call.status ≡ status.Wide) ⊎ IsExcused call.status)
        go s (inl says) = inl (s.same ∙ says)
        go s (inr says) = inr (inl (s.same ∙ says))

    completes : (l : Program (Expr ℕ)) (e : Expr ℕ) → ReadsEquation call request l (Ok e)
        → FormsFreely l e → AreFree l → EndsSeeking call.status l e request.most
    completes l e r formed maps =
        elim (or_excused (course request) call f
        (λ s. ends_along s.answer.status call.status l e request.most s.same
        (complete l e request.most s.answer (answers_told l (Ok e) r s) formed maps))) [
          | inl excused ↦ inr (inr (inr (inr excused)))
          | inr h ↦ h
        ]

    pub counters : Counters request call
    counters = record {
      countered = writes path call f concludes_no
          (λ text. ShowsCounterRun text request.equation request.most)
          (λ text l a e h is_no. run_at text request.equation request.most l a e
          (equation_in l.names request.equation) refl h is_no);
      none_up_to = writes path call f concludes_yes
          (λ text. ShowsNoneUpTo text request.equation request.most)
          (λ text l a e h is_yes. none_at text request.equation request.most l a e
          (equation_in l.names request.equation) refl h is_yes);
      why = λ is. refused path call f call.status is
          (λ text a. IsEquationFault text request.equation a
          ⊎ StopsSearch text request.equation request.most a)
          (λ text l a e h same refusing. refusal_at text request.equation request.most l a e
          (equation_in l.names request.equation) refl h refusing.no_not refusing.yes_not) refl;
      exhausted = never_ends path call f concludes_exhausted (λ l m a h.
          (answer_plain l a h).budget_not);
      journal = kept path call f (λ l m h. h);
      loop_fault = ends_at_fault path call f;
      equation_fault = λ l fault r.
          ends_so (course request) call f (equation_refusal fault)
          (λ s. answers_told l (Err fault) r s);
      equation_limit = λ l e at r first.
          or_wide (course request) call f
          (equation_refusal (record { reason = limit; at = at }))
          (λ s. equation_limited l e request.most at s.answer first (answers_told l (Ok e) r s));
      map_limit = λ l e at r formed first.
          or_wide (course request) call f (loop_refusal (record { reason = limit; at = at }))
          (λ s. map_limit_told l e request.most s.answer
          (answers_told l (Ok e) r s) formed at first);
      first = first;
      none = λ l e r formed maps is within.
          or_wide (course request) call f (none_answer request.most)
          (λ s. none_found l e request.most s.answer (answers_told l (Ok e) r s) formed maps is
          within);
      word_limit = λ l e w r formed maps reached is.
          or_wide (course request) call f (limit_answer w)
          (λ s. limit_told l e request.most s.answer (answers_told l (Ok e) r s) formed maps w
          reached is);
      cost_limit = λ l e w r formed maps reached is.
          or_wide (course request) call f (cost_answer w)
          (λ s. cost_told l e request.most s.answer (answers_told l (Ok e) r s) formed maps w
          reached is);
      completes = completes;
      long = long path call f;
    }
