-- What `decide` and `prove` promise, from the outcome of their course.
--   settled       their answers are settled
--   decides_any   the clauses
use Rattle.std.proofs.Common.{◌≡◌, ◌≢◌, ℕ, List, length, refl, sym, subst, inl, inr, Result, Ok, Err}
use Rattle.std.specs.Prelude.{◌⊎◌}
use Rattle.machines.specs.Journal.{Journal}
use Rattle.loops.specs.Program.{Expr, Program}
use Rattle.poly_text.specs.Reasons.{Fault, limit}
use Rattle.loop_model.specs.Operations.{IsLimit}
use Rattle.loop_model.specs.Maps.{AreFree}
use Rattle.loop_text.specs.LoopReader.{loop_of}
use Rattle.io_edge.specs.declared.answer.Status.{Status}
use Rattle.io_edge.specs.declared.answer.Status.TheVariants as status
use Rattle.io_edge.specs.Texts.{Answer}
use Rattle.io_edge.specs.Settled.{IsSettled, IsRefusing}
use Rattle.io_edge.specs.Course.{Course, EachAnswer, LeftBy}
use Rattle.io_edge.specs.Reading.{by_reading}
use Rattle.io_edge.specs.Outcome.{Call, IsCarriedOut}
use Rattle.io_edge.proofs.OfStatuses.{text_of}
use Rattle.io_edge.proofs.Outcomes.{Said, at_some, or_excused, or_wide, ends_so, meter_left}
use Rattle.io_edge.proofs.OneFile as one_file
use Rattle.io_edge.proofs.OneFile.{OneFile, concludes_yes, concludes_no, concludes_exhausted, answered, ends_at_fault, writes, tells, refused, not_ended, left, long}
use Rattle.command_parts.specs.FaultTexts.{loop_refusal}
use Rattle.command_parts.proofs.MapLimits.{not_free}
use Rattle.command_parts.proofs.LoopCourses.{reading_loop}
use Rattle.command_parts.specs.Equations.{equation_in, operations_of, polynomial_of, FormsFreely}
use Rattle.command_parts.specs.EquationReading.{equation_refusal}
use Rattle.command_parts.proofs.Refusals.{equation_refuses, unformed_refuses}
use Rattle.replay_commands.specs.CounterClauses.{IsEquationFault}
use Rattle.replay_commands.specs.CounterHeadline.{IsQuestion}
use Rattle.closing_commands.specs.declared.evidence.Evidence.{Evidence}
use Rattle.closing_commands.specs.DecideClauses.{HasEnded, HasRefuted, StopsDeciding, IsExhaustedDeciding, IsAsked, ReadsEquation, HasEnd, EndsAny, DecidesAny}
use Rattle.closing_commands.specs.DecideCourse.{course}
use Rattle.closing_commands.specs.DecideHeadline.{Shows, ShowsCounter}
use Rattle.closing_commands.specs.DecideArguments.{Request}
use Rattle.closing_commands.specs.Deciding.{Decides, Answers, Leaves}
use Rattle.closing_commands.proofs.DecideDecided.{map_limit_told, complete, enough_said, equation_limited}
use Rattle.closing_commands.proofs.DecideShown.{decides_settled, told_when_yes, run_when_no, exhausted_when_budget, stop_when_refusing, yes_shown, yes_ends, yes_maps, counter_shown}

-- ---- by what the equation is
module _ (evidence : Evidence) (text equation : List ℕ) (n : ℕ) (before m : Journal)
    (l : Program (Expr ℕ)) (a : Answer) (is_loop : loop_of text ≡ Ok l) where
  abbrev Asked : Expr ℕ → Type 0
  Asked e = Decides l (polynomial_of l e) m evidence n a

  -- an answer of a status that no refusal has is one to a closing
  by_question : (P : Type 0) → (IsRefusing a.status → P)
      → ((e : Expr ℕ) → IsQuestion text equation l e → Asked e → P)
      → (reading : Result (Expr ℕ) Fault) → equation_in l.names equation ≡ reading
      → Answers evidence l reading n before m a → P
  by_question P refusing some (Err fault) is h = refusing (equation_refuses fault a h.0)
  by_question P refusing some (Ok e) is (inl u) = refusing (unformed_refuses l e a u.0)
  by_question P refusing some (Ok e) is (inr h) =
      some e (record { is_loop = is_loop; is_equation = is }) h.1

  refusal_at : (reading : Result (Expr ℕ) Fault) → equation_in l.names equation ≡ reading
      → Answers evidence l reading n before m a → IsRefusing a.status
      → IsEquationFault text equation a ⊎ StopsDeciding text equation n m evidence before a
  refusal_at (Err fault) is h r =
      inl (record { loop = l; is_loop = is_loop; fault = fault; is = is; says = h.0 })
  refusal_at (Ok e) is (inl u) r = inr (record {
    loop = l;
    difference = e;
    question = record { is_loop = is_loop; is_equation = is };
    stops = inl u;
  })
  refusal_at (Ok e) is (inr h) r = inr (record {
    loop = l;
    difference = e;
    question = record { is_loop = is_loop; is_equation = is };
    stops =
        inr (
          h.0,
          h.1.limit,
          stop_when_refusing l (polynomial_of l e) m evidence n a h.1 r,
        );
  })

asked_at : (evidence : Evidence) (text equation : List ℕ) (n : ℕ) (m : Journal)
    (l : Program (Expr ℕ)) → loop_of text ≡ Ok l → (reading : Result (Expr ℕ) Fault)
    → equation_in l.names equation ≡ reading → Leaves evidence l reading n m
    → IsAsked text equation n m evidence
asked_at evidence text equation n m l is_loop (Err fault) is h = absurd h
asked_at evidence text equation n m l is_loop (Ok e) is h = record {
  loop = l;
  difference = e;
  question = record { is_loop = is_loop; is_equation = is };
  free = h.0;
  asked = h.1;
}

ends_along : (evidence : Evidence) (s t : Status) (l : Program (Expr ℕ)) (e : Expr ℕ) → t ≡ s
    → EndsAny l e evidence s → EndsAny l e evidence t
ends_along evidence s t l e same h = subst (EndsAny l e evidence) (sym same) h

-- ---- the clauses
module _ (before : Journal) (request : Request) where
  abbrev path : OneFile (Program (Expr ℕ)) Fault
  path = reading_loop request.file
      (λ l m. Leaves request.evidence l (equation_in l.names request.equation) request.budget m)
      (λ l m a.
      Answers request.evidence l (equation_in l.names request.equation) request.budget before m a)

  answer_settled : (l : Program (Expr ℕ)) (m : Journal) (a : Answer)
      (reading : Result (Expr ℕ) Fault)
      → Answers request.evidence l reading request.budget before m a → IsSettled a.status
  answer_settled l m a (Err fault) h = (equation_refuses fault a h.0).plain.settled
  answer_settled l m a (Ok e) (inl u) = (unformed_refuses l e a u.0).plain.settled
  answer_settled l m a (Ok e) (inr h) =
      decides_settled l (polynomial_of l e) m request.evidence request.budget a h.1

  pub settled : EachAnswer (λ a. IsSettled a.status) (course before request)
  settled = one_file.settled path (λ l m a h. answer_settled l m a _ h)

module _ (request : Request) (call : Call)
    (f : IsCarriedOut (course call.meter.before request) call) where
  abbrev here : OneFile (Program (Expr ℕ)) Fault
  here = path call.meter.before request

  abbrev way : Course
  way = course call.meter.before request

  abbrev m : Journal
  m = call.meter.after

  abbrev IsAnswered : Program (Expr ℕ) → Result (Expr ℕ) Fault → Answer → Type 0
  IsAnswered l reading a =
      Answers request.evidence l reading request.budget call.meter.before m a

  answers_told : (l : Program (Expr ℕ)) (reading : Result (Expr ℕ) Fault)
      → ReadsEquation call request l reading → (s : Said way call)
      → IsAnswered l reading s.answer
  answers_told l reading r s =
      subst (λ x. IsAnswered l x s.answer) r.reads (answered here call f l r.loop s)

  -- what a status shows that no refusal has
  shown : (P : List ℕ → Type 0) (t : Status) → ((s : Status) → IsRefusing s → s ≢ t)
      → (text : List ℕ) (l : Program (Expr ℕ)) (a : Answer) → loop_of text ≡ Ok l
      → IsAnswered l (equation_in l.names request.equation) a → a.status ≡ t
      → ((e : Expr ℕ) → IsQuestion text request.equation l e
      → Decides l (polynomial_of l e) m request.evidence request.budget a → P text) → P text
  shown P t not text l a is h same some =
      by_question request.evidence text request.equation request.budget call.meter.before m l a is
      (P text) (λ r. absurd (not a.status r same)) some (equation_in l.names request.equation)
      refl h

  kept_at : (l : Program (Expr ℕ)) (e : Expr ℕ) (at : ℕ) → ReadsEquation call request l (Ok e)
      → IsLimit (length l.names) (operations_of l e) at → m ≡ call.meter.before
  kept_at l e at r first = elim (meter_left way call f) [
    | inl same ↦ same
    | inr h ↦
        let told = at_some (call.files.before.told request.file) r.loop.text
        (λ text. LeftBy call.files.before.told
        (by_reading loop_of loop_refusal (loop_of text) (one_file.next here)) m)
        r.loop.is_told h in
        let read = subst (λ x. LeftBy call.files.before.told
        (by_reading loop_of loop_refusal x (one_file.next here)) m) r.loop.reads told in
        let asked = subst (λ x. Leaves request.evidence l x request.budget m) r.reads read in
        absurd (not_free (length l.names) (operations_of l e) at first asked.0)
  ]

  decided : (l : Program (Expr ℕ)) (e : Expr ℕ) → ReadsEquation call request l (Ok e)
      → FormsFreely l e → AreFree l → EndsAny l e request.evidence call.status
  decided l e r formed maps =
      elim (or_excused way call f
      (λ s. ends_along request.evidence s.answer.status call.status l e s.same
      (complete request.evidence l e request.budget call.meter.before m s.answer
      (answers_told l (Ok e) r s) formed maps))) [
        | inl excused ↦ inr (inr (inr (inr excused)))
        | inr h ↦ h
      ]

  enough_here : (l : Program (Expr ℕ)) (e : Expr ℕ) → ReadsEquation call request l (Ok e)
      → HasEnd l (polynomial_of l e) request.evidence request.budget
      → call.status ≢ status.Budget
  enough_here l e r k =
      not_ended here call f concludes_exhausted l r.loop
      (λ a h. enough_said request.evidence l e request.budget call.meter.before m a
      (subst (λ x. IsAnswered l x a) r.reads h) k)

  pub decides_any : DecidesAny request call
  decides_any = record {
    holds = writes here call f concludes_yes
        (λ text. Shows text request.equation request.evidence)
        (λ text l a is h same.
        shown (λ text. Shows text request.equation request.evidence a.text) status.Yes
        (λ s r. r.yes_not) text l a is h same
        (λ e q d. yes_shown text request.equation l e q m a request.evidence
        (told_when_yes l (polynomial_of l e) m request.evidence request.budget a d same)));
    closed = tells here call f concludes_yes
        (λ text. HasEnded text request.equation request.budget m request.evidence)
        (λ text l a is h same.
        shown (λ text. HasEnded text request.equation request.budget m request.evidence)
        status.Yes (λ s r. r.yes_not) text l a is h same
        (λ e q d.
        let t = told_when_yes l (polynomial_of l e) m request.evidence request.budget a d same in
        let ends = yes_ends l (polynomial_of l e) m request.evidence a t in
        record {
          loop = l;
          difference = e;
          question = q;
          free = yes_maps l (polynomial_of l e) m request.evidence a t;
          limit = d.limit;
          list = ends.0;
          ends = ends.1;
        }));
    refuted = writes here call f concludes_no (λ text. ShowsCounter text request.equation)
        (λ text l a is h same.
        shown (λ text. ShowsCounter text request.equation a.text) status.No (λ s r. r.no_not)
        text l a is h same
        (λ e q d. counter_shown text request.equation l e q m a
        (run_when_no l (polynomial_of l e) m request.evidence request.budget a d same)));
    countered = tells here call f concludes_no
        (λ text. HasRefuted text request.equation request.budget m)
        (λ text l a is h same.
        shown (λ text. HasRefuted text request.equation request.budget m) status.No
        (λ s r. r.no_not) text l a is h same
        (λ e q d.
        let t = run_when_no l (polynomial_of l e) m request.evidence request.budget a d same in
        record {
          loop = l;
          difference = e;
          question = q;
          limit = d.limit;
          word = t.word;
          is = t.is;
        }));
    why = λ is. refused here call f call.status is
        (λ text a. IsEquationFault text request.equation a
        ⊎ StopsDeciding text request.equation request.budget m request.evidence
        call.meter.before a)
        (λ text l a e h same refusing.
        refusal_at request.evidence text request.equation request.budget call.meter.before m l a e
        (equation_in l.names request.equation) refl h refusing) refl;
    exhausted = writes here call f concludes_exhausted
        (λ text. IsExhaustedDeciding text request.equation request.budget m request.evidence)
        (λ text l a is h same.
        shown
        (λ text. IsExhaustedDeciding text request.equation request.budget m request.evidence a.text)
        status.Budget (λ s r. r.plain.budget_not) text l a is h same
        (λ e q d.
        let t = exhausted_when_budget l (polynomial_of l e) m request.evidence request.budget a d
        same in
        record {
          loop = l;
          difference = e;
          question = q;
          limit = d.limit;
          maps = t.maps;
          out = t.out;
          says = text_of t.says;
        }));
    journal = left here call f
        (λ text. IsAsked text request.equation request.budget m request.evidence)
        (λ text l is h.
        asked_at request.evidence text request.equation request.budget m l is
        (equation_in l.names request.equation) refl h);
    kept = kept_at;
    loop_fault = ends_at_fault here call f;
    equation_fault = λ l fault r.
        ends_so way call f (equation_refusal fault) (λ s. (answers_told l (Err fault) r s).0);
    equation_limit = λ l e at r first.
        or_wide way call f (equation_refusal (record { reason = limit; at = at }))
        (λ s. equation_limited request.evidence l e request.budget call.meter.before m s.answer
        (answers_told l (Ok e) r s) at first);
    map_limit = λ l e at r formed first.
        or_wide way call f (loop_refusal (record { reason = limit; at = at }))
        (λ s. map_limit_told request.evidence l e request.budget call.meter.before m s.answer
        (answers_told l (Ok e) r s) formed at first);
    decided = decided;
    enough = enough_here;
    completes = λ l e r formed maps no_limit no_wide k. elim (decided l e r formed maps) [
      | inl d ↦ inl d
      | inr (inl x) ↦ absurd (no_limit x.1)
      | inr (inr (inl x)) ↦ absurd (no_wide x.1)
      | inr (inr (inr (inl s))) ↦ absurd (enough_here l e r k s)
      | inr (inr (inr (inr excused))) ↦ inr excused
    ];
    long = long here call f;
  }
