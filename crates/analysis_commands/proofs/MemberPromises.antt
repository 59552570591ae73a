-- What `member` promises, from the outcome of its course.
--   settled      its answers are settled
--   decides      the clauses
use Rattle.std.proofs.Common.{◌≡◌, ◌≢◌, ◌≤◌, ℕ, List, length, refl, sym, subst, ◌∙◌, Result, Ok, Err, inl, inr}
use Rattle.std.specs.Prelude.{◌⊎◌, Option, Some, None, IfSome}
use Rattle.algebra.specs.Fraction.{Fraction}
use Rattle.polynomials.specs.Terms.{Terms}
use Rattle.machines.specs.Division as division
use Rattle.machines.specs.Journal.{Journal, Entry, units_of}
use Rattle.poly_text.specs.Reasons.{Fault}
use Rattle.loop_model.specs.Operations.{IsLimit}
use Rattle.loops.specs.Program.{Expr, Program}
use Rattle.loop_model.specs.Maps.{maps_operations, AreFree}
use Rattle.loop_text.specs.LoopReader.{loop_of}
use Rattle.rounds.specs.Journal.{IsAnswered}
use Rattle.closed_forms.specs.Refusal.{Refusal}
use Rattle.invariant_fix.specs.Refusals.{AllHaveForms, IsRefusedBranch}
use Rattle.io_edge.specs.declared.answer.Status.{Status}
use Rattle.io_edge.specs.declared.answer.Status.TheVariants as status
use Rattle.io_edge.specs.Texts.{Answer, with_text}
use Rattle.io_edge.specs.Settled.{IsSettled, IsRefusing}
use Rattle.io_edge.specs.Course.{Course, ends, Outcome, LeftBy, EachAnswer}
use Rattle.io_edge.specs.Outcome.{Call, IsCarriedOut}
use Rattle.io_edge.specs.Clauses.{Wrote, IsExcused, IsFaultOrWide, EndsOrWide, EndsAtFault}
use Rattle.io_edge.proofs.Outcomes.{Said, at_some, if_told, yes_said, said_with, refusal_told, written, or_excused, or_wide, or_fault, ends_so, meter_left}
use Rattle.io_edge.proofs.Outside.{too_long_told}
use Rattle.io_edge.proofs.Readings.{each_answer, at_something, at_fault}
use Rattle.command_parts.specs.FaultTexts.{loop_refusal}
use Rattle.command_parts.specs.LoopReading.{loop_at, by_loop}
use Rattle.command_parts.proofs.LoopCourses.{loop_refuses}
use Rattle.command_parts.proofs.MapLimits.{not_free}
use Rattle.analysis_commands.specs.Causes.{IsNeverLong, IsNeverRefused, IsExact}
use Rattle.analysis_commands.specs.Completeness.{AllSplit}
use Rattle.command_parts.specs.Equations.{equation_in, operations_of, polynomial_of}
use Rattle.analysis_commands.specs.MemberCauses.{IsAsking, IsEquationFault, IsUndecided, HasAffirmed, HasDenied, IsExhaustedAsking, IsAsked, NeverStops, NeverPast}
use Rattle.analysis_commands.specs.MemberClauses.{AsksNothing, ReadsEquation, AsksOf, Refuses, EndsDecided, EndsAsked, limit_of_loop, limit_of_equation, Decides}
use Rattle.analysis_commands.specs.MemberCourse.{HasAskedFor, AnswersEquation, by_equation, with_question, course}
use Rattle.analysis_commands.specs.MemberHeadline.{ShowsYes, ShowsNo}
use Rattle.analysis_commands.specs.MemberArguments.{Request}
use Rattle.analysis_commands.specs.Questions.{Asks}
use Rattle.analysis_commands.specs.RefusalTexts.{branch_answer}
use Rattle.analysis_commands.proofs.MemberAsking.{never_stopped, yes_asking, no_asking, exhausted_asking, exhausted_out, limit_asking, decided_asking, unformed_asking, branch_asking, long_asking, completed_asking}
use Rattle.analysis_commands.specs.LongTasks.{IsToldLong, ComesToLong, EndsLong}
use Rattle.analysis_commands.proofs.LongTasks.{IsLongOr, told_limit, or_long}
use Rattle.analysis_commands.proofs.LongQuestions.{member_limit}
use Rattle.analysis_commands.proofs.MemberJournals.{enough_asked}
use Rattle.analysis_commands.proofs.MemberStatuses.{equation_settled}
use Rattle.command_parts.specs.EquationReading.{equation_refusal}
use Rattle.command_parts.proofs.Refusals.{equation_refuses, unformed_refuses, stopped_limit, stopped_wide}

-- both of what is told, where the second may be something else
both : (x : Option (List ℕ)) (A B P : List ℕ → Type 0) (K : Type 0)
    → ((text : List ℕ) → A text → K ⊎ B text → P text) → IfSome x A → K ⊎ IfSome x B → IfSome x P
both None A B P K f a b = tt
both (Some text) A B P K f a b = f text a b

nothing_refuses : (text equation : List ℕ) (a : Answer) → AsksNothing text equation a
    → IsRefusing a.status
nothing_refuses text equation a (inl h) = loop_refuses h.fault a h.says
nothing_refuses text equation a (inr (inl h)) = equation_refuses h.fault a h.says
nothing_refuses text equation a (inr (inr h)) = unformed_refuses h.asking.loop h.asking.difference a
    h.unformed

module _ (before : Journal) (request : Request) where
  abbrev goes : Program (Expr ℕ) → Course
  goes l = with_question before request.budget request.equation l

  -- how it goes on behind the equation
  abbrev formed : Program (Expr ℕ) → Expr ℕ → Course
  formed l e = ends (HasAskedFor l e request.budget) (AnswersEquation l e request.budget before)

  question_settled : (l : Program (Expr ℕ)) (said : Result (Expr ℕ) Fault)
      → EachAnswer (λ a. IsSettled a.status) (by_equation said (formed l))
  question_settled l (Ok e) = λ m a h. equation_settled l e request.budget before m a h
  question_settled l (Err fault) = λ m a h. (equation_refuses fault a h).plain.settled

  pub settled : EachAnswer (λ a. IsSettled a.status) (course before request)
  settled =
      each_answer loop_of loop_refusal goes (λ a. IsSettled a.status) (loop_at request.file)
      (λ fault a h. (loop_refuses fault a h).plain.settled)
      (λ l. question_settled l (equation_in l.names request.equation))

module _ (request : Request) (call : Call)
    (f : IsCarriedOut (course call.meter.before request) call) where
  abbrev path : Course
  path = course call.meter.before request

  abbrev next : Program (Expr ℕ) → Course
  next l = goes call.meter.before request l

  abbrev question : Program (Expr ℕ) → Expr ℕ → Course
  question l e = formed call.meter.before request l e

  abbrev m : Journal
  m = call.meter.after

  abbrev content : Option (List ℕ)
  content = call.files.before.told request.file

  abbrev Kept : Type 0
  Kept = m ≡ call.meter.before

  abbrev Told : Course → Answer → Type 0
  Told c a = Outcome call.files.before.told c m a

  abbrev Left : Course → Type 0
  Left c = LeftBy call.files.before.told c m

  abbrev Equals : Program (Expr ℕ) → Result (Expr ℕ) Fault → Type 0
  Equals l said = equation_in l.names request.equation ≡ said

  abbrev Answers : Program (Expr ℕ) → Expr ℕ → Answer → Type 0
  Answers l e a = AnswersEquation l e request.budget call.meter.before m a

  abbrev Question : Program (Expr ℕ) → Expr ℕ → Answer → Type 0
  Question l e a = Asks l (polynomial_of l e) request.budget m a

  kept_else : Kept ⊎ ⊥ → Kept
  kept_else (inl kept) = kept
  kept_else (inr none) = absurd none

  -- ---- what holds of each loop and equation that are told
  abbrev IfNothing : Answer → (List ℕ → Type 0) → Type 0
  IfNothing a P = (text : List ℕ) → AsksNothing text request.equation a → Kept → P text

  abbrev IfQuestion : Answer → (List ℕ → Type 0) → Type 0
  IfQuestion a P = (text : List ℕ) (l : Program (Expr ℕ)) (e : Expr ℕ) → loop_of text ≡ Ok l
      → Equals l (Ok e) → Question l e a → P text

  module _ (P : List ℕ → Type 0) (a : Answer) (nothing : IfNothing a P)
      (some : IfQuestion a P) where
    by_said : (text : List ℕ) (l : Program (Expr ℕ)) → loop_of text ≡ Ok l
        → (said : Result (Expr ℕ) Fault) → Equals l said → Told (by_equation said (question l)) a
        → Kept ⊎ Left (by_equation said (question l)) → P text
    by_said text l is (Err fault) i h k =
        let told : IsEquationFault text request.equation a =
        record { loop = l; is_loop = is; fault = fault; is = i; says = h } in
        nothing text (inr (inl told)) (kept_else k)
    by_said text l is (Ok e) i (inl stop) k =
        let asking : IsAsking text request.equation =
        record { loop = l; is_loop = is; difference = e; is_equation = i } in
        nothing text (inr (inr (record { asking = asking; unformed = stop.0 }))) stop.1
    by_said text l is (Ok e) i (inr asks) k = some text l e is i asks.1

    by_reading : (text : List ℕ) (reading : Result (Program (Expr ℕ)) Fault)
        → loop_of text ≡ reading → Told (by_loop reading next) a
        → Kept ⊎ Left (by_loop reading next) → P text
    by_reading text (Err fault) is h k =
        nothing text (inl (record { fault = fault; is = is; says = h })) (kept_else k)
    by_reading text (Ok l) is h k =
        by_said text l is (equation_in l.names request.equation) refl h k

  told_question : (P : List ℕ → Type 0) (s : Said path call) → IfNothing s.answer P
      → IfQuestion s.answer P → IfSome content P
  told_question P s nothing some =
      both content (λ text. Told (by_loop (loop_of text) next) s.answer)
      (λ text. Left (by_loop (loop_of text) next)) P Kept
      (λ text h k. by_reading P s.answer nothing some text (loop_of text) refl h k) s.is
      (meter_left path call f)

  -- ---- yes, no and an exhausted budget
  module _ (t : Status) (is : call.status ≡ t) (s : Said path call) where
    has : s.answer.status ≡ t
    has = sym s.same ∙ is

    -- no refusal of a text has this status
    shown : (P : List ℕ → Type 0) → ((u : Status) → IsRefusing u → u ≢ t)
        → IfQuestion s.answer P → IfSome content P
    shown P not some =
        told_question P s
        (λ text h k. absurd (not _ (nothing_refuses text request.equation s.answer h) has)) some

  yes_here : call.status ≡ status.Yes → Said path call
  yes_here is = yes_said path call f is

  no_here : call.status ≡ status.No → Said path call
  no_here is = said_with path call f status.No is (λ h. cc) (λ h. cc) (λ h. cc)

  exhausted_here : call.status ≡ status.Budget → Said path call
  exhausted_here is = said_with path call f status.Budget is (λ h. cc) (λ h. cc) (λ h. cc)

  yes_shown : (is : call.status ≡ status.Yes) → IfSome content (λ text.
      ShowsYes text request.equation (yes_here is).answer.text
      × HasAffirmed text request.equation request.budget m)
  yes_shown is =
      let s = yes_here is in
      shown status.Yes is s _ (λ u r. r.yes_not) (λ text l e i j asks.
      yes_asking l e request.budget m s.answer asks text request.equation i j
      (has status.Yes is s))

  no_shown : (is : call.status ≡ status.No) → IfSome content (λ text.
      ShowsNo text request.equation (no_here is).answer.text
      × HasDenied text request.equation request.budget m)
  no_shown is =
      let s = no_here is in
      shown status.No is s _ (λ u r. r.no_not) (λ text l e i j asks.
      no_asking l e request.budget m s.answer asks text request.equation i j
      (has status.No is s))

  exhausted_shown : (is : call.status ≡ status.Budget) → IfSome content (λ text.
      Wrote call.sink (IsExhaustedAsking text request.equation request.budget m))
  exhausted_shown is =
      let s = exhausted_here is in
      shown status.Budget is s _ (λ u r. r.plain.budget_not) (λ text l e i j asks.
      written path call f (IsExhaustedAsking text request.equation request.budget m) s
      (exhausted_asking l e request.budget m s.answer asks text request.equation i j
      (has status.Budget is s)))

  -- ---- the meter
  opened : (text : List ℕ) (l : Program (Expr ℕ)) → loop_of text ≡ Ok l
      → (said : Result (Expr ℕ) Fault) → Equals l said → Left (by_equation said (question l))
      → IsAsked text request.equation request.budget m
  opened text l is (Ok e) i h = record {
    asking = record { loop = l; is_loop = is; difference = e; is_equation = i };
    asked = h;
  }
  opened text l is (Err fault) i h = absurd h

  opened_by : (text : List ℕ) (reading : Result (Program (Expr ℕ)) Fault)
      → loop_of text ≡ reading → Left (by_loop reading next)
      → IsAsked text request.equation request.budget m
  opened_by text (Ok l) is h = opened text l is (equation_in l.names request.equation) refl h
  opened_by text (Err fault) is h = absurd h

  kept_at : (l : Program (Expr ℕ)) (e : Expr ℕ) (at : ℕ) → ReadsEquation call request l (Ok e)
      → IsLimit (length l.names) (operations_of l e) at → Kept
  kept_at l e at r first = elim (meter_left path call f) [
    | inl kept ↦ kept
    | inr left ↦
        let P = λ (text : List ℕ). Left (by_loop (loop_of text) next) in
        let told = at_some content r.loop.text P r.loop.is_told left in
        let read = subst (λ x. Left (by_loop x next)) r.loop.reads told in
        let asked = subst (λ x. Left (by_equation x (question l))) r.reads read in
        absurd (not_free (length l.names) (operations_of l e) at first asked.0)
  ]

  -- ---- where the bytes are told
  at_question : (l : Program (Expr ℕ)) (said : Result (Expr ℕ) Fault)
      → ReadsEquation call request l said → (s : Said path call)
      → Told (by_equation said (question l)) s.answer
  at_question l said r s =
      subst (λ x. Told (by_equation x (question l)) s.answer) r.reads
      (at_something loop_of loop_refusal call (loop_at request.file) next m s.answer s.is l
      r.loop)

  abbrev IsDecided : Program (Expr ℕ) → Expr ℕ → Answer → Type 0
  IsDecided l e a = EndsDecided a.status l e

  abbrev IsOpen : Answer → Type 0
  IsOpen a = (a.status ≡ status.Wide) ⊎ (a.status ≡ status.Budget)

  decided_here : (l : Program (Expr ℕ)) (e : Expr ℕ) (s : Said path call)
      → IsDecided l e s.answer → EndsDecided call.status l e
  decided_here l e s (inl (says, holds)) = inl (s.same ∙ says, holds)
  decided_here l e s (inr (says, fails)) = inr (s.same ∙ says, fails)

  asked_here : (l : Program (Expr ℕ)) (e : Expr ℕ) (s : Said path call)
      → IsDecided l e s.answer ⊎ IsOpen s.answer → EndsAsked call.status l e
  asked_here l e s (inl d) = inl (decided_here l e s d)
  asked_here l e s (inr (inl says)) = inr (inl (s.same ∙ says))
  asked_here l e s (inr (inr says)) = inr (inr (inl (s.same ∙ says)))

  equation_limit : (l : Program (Expr ℕ)) (e : Expr ℕ) (at : ℕ)
      → ReadsEquation call request l (Ok e) → IsLimit (length l.names) (operations_of l e) at
      → EndsOrWide call (limit_of_equation at)
  equation_limit l e at r first =
      or_wide path call f (limit_of_equation at) (λ s. go s.answer (at_question l (Ok e) r s))
    where
      go : (a : Answer) → Answers l e a → (a ≡ limit_of_equation at) ⊎ (a.status ≡ status.Wide)
      go a (inl stop) = stopped_limit l e a at first stop.0
      go a (inr asks) = absurd (not_free (length l.names) (operations_of l e) at first asks.0)

  -- where no operation of the polynomial passes a limit: the question, or a number that doesn't fit
  module _ (l : Program (Expr ℕ)) (e : Expr ℕ) (r : AsksOf call request l e) where
    by_question : (P : Answer → Type 0) → ((a : Answer) → Question l e a → P a)
        → ((a : Answer) → a.status ≡ status.Wide → P a) → (s : Said path call) → P s.answer
    by_question P some wide s = go s.answer (at_question l (Ok e) r.reads s)
      where
        go : (a : Answer) → Answers l e a → P a
        go a (inl stop) = wide a (stopped_wide l e a r.free stop.0)
        go a (inr asks) = some a asks.1

    limit_passed : (at : ℕ) → IsLimit (length l.names) (maps_operations l) at
        → EndsOrWide call (limit_of_loop at)
    limit_passed at first =
        or_wide path call f (limit_of_loop at)
        (by_question (λ a. (a ≡ limit_of_loop at) ⊎ (a.status ≡ status.Wide))
        (λ a asks. limit_asking l e request.budget m a asks at first)
        (λ a is. inr is))

    branch_refused : AreFree l → (b : ℕ) (x : Refusal) → IsExact x → IsRefusedBranch l b x
        → EndsOrWide call (branch_answer l.names b x)
    branch_refused free b x exact first =
        or_wide path call f (branch_answer l.names b x)
        (by_question (λ a. (a ≡ branch_answer l.names b x) ⊎ (a.status ≡ status.Wide))
        (λ a asks. branch_asking l e request.budget m a asks free b x exact first)
        (λ a is. inr is))

    unformed : AreFree l → ¬ (AllHaveForms l) → EndsAtFault call.status
    unformed free not =
        or_fault path call f
        (by_question (λ a. (a.status ≡ status.Fault) ⊎ (a.status ≡ status.Wide))
        (λ a asks. unformed_asking l e request.budget m a asks free not)
        (λ a is. inr is))

    task_limit : AreFree l → AllHaveForms l → ComesToLong l → EndsLong call l
    task_limit free forms long =
        or_long path call l f
        (by_question (λ a. IsLongOr l m a)
        (λ a asks. long_asking l e request.budget m a asks free forms long)
        (λ a is. inr (inl is)))

    decided : AreFree l → AllSplit l → IsNeverLong l → EndsAsked call.status l e
    decided free split never =
        elim (or_excused path call f (λ s. asked_here l e s (by_question
        (λ a. IsDecided l e a ⊎ IsOpen a)
        (λ a asks. decided_asking l e request.budget m a asks free split never)
        (λ a is. inr (inl is)) s))) [ inl excused ↦ inr (inr (inr excused)) | inr h ↦ h ]

    not_both : (s : Status) → s ≡ status.Wide → s ≡ status.Budget → ⊥
    not_both s wide exhausted = cc

    enough : (es : List Entry) (k : ℕ) (gs : List (Terms Fraction))
        (last : division.State Fraction) → IsAnswered l (polynomial_of l e) es k gs last
        → units_of es ≤ request.budget → call.status ≢ status.Budget
    enough es k gs last done few is =
        let s = exhausted_here is in
        by_question (λ a. a.status ≡ status.Budget → ⊥)
        (λ a asks exhausted. enough_asked l (polynomial_of l e) es m.entries k request.budget gs
        last
        done few (exhausted_out l e request.budget m a asks exhausted))
        (λ a wide exhausted. not_both a.status wide exhausted) s (sym s.same ∙ is)

  completes : (l : Program (Expr ℕ)) (e : Expr ℕ) (es : List Entry) (k : ℕ)
      (gs : List (Terms Fraction)) (last : division.State Fraction)
      → ReadsEquation call request l (Ok e) → NeverStops l e → IsNeverRefused l
      → NeverPast l (polynomial_of l e) → IsAnswered l (polynomial_of l e) es k gs last
      → units_of es ≤ request.budget → EndsDecided call.status l e ⊎ IsExcused call.status
  completes l e es k gs last r never refuses narrow done few =
      elim (or_excused path call f
      (λ s. decided_here l e s (go s.answer (at_question l (Ok e) r s)))) [
        | inl excused ↦ inr excused
        | inr h ↦ inl h
      ]
    where
      go : (a : Answer) → Answers l e a → IsDecided l e a
      go a (inl stop) = absurd (never_stopped l e a never stop.0)
      go a (inr asks) =
          completed_asking l e request.budget m a asks.1 refuses narrow es k gs last done few

  -- a fault, or a number that doesn't fit
  why : (t : Status) → IsFaultOrWide t → call.status ≡ t
      → Wrote call.sink (λ said. Refuses call request (with_text t said))
  why t is same = refusal_told path call f t is (Refuses call request)
      (λ s told refusing. told_question _ s (λ text h k. inl (h, k))
      (λ text l e i j asks. inr (record {
        asking = record { loop = l; is_loop = i; difference = e; is_equation = j };
        asks = asks;
      }))) same

  pub decides : Decides request call
  decides = record {
    holds = λ is. if_told content _ _
        (λ text h. written path call f (ShowsYes text request.equation) (yes_here is) h.0)
        (yes_shown is);
    answered = λ is. if_told content _ _ (λ text h. h.1) (yes_shown is);
    refuted = λ is. if_told content _ _
        (λ text h. written path call f (ShowsNo text request.equation) (no_here is) h.0)
        (no_shown is);
    denied = λ is. if_told content _ _ (λ text h. h.1) (no_shown is);
    why = λ is. why call.status is refl;
    exhausted = exhausted_shown;
    journal = elim (meter_left path call f) [
      | inl kept ↦ inl kept
      | inr left ↦ inr (if_told content _ _ (λ text h. opened_by text (loop_of text) refl h) left)
    ];
    kept = kept_at;
    loop_fault = λ fault r. ends_so path call f (loop_refusal fault)
        (λ s. at_fault loop_of loop_refusal call (loop_at request.file) next m s.answer s.is fault
        r);
    equation_fault = λ l fault r. ends_so path call f (equation_refusal fault)
        (λ s. at_question l (Err fault) r s);
    equation_limit = equation_limit;
    limit_passed = λ l e at r first. limit_passed l e r at first;
    branch_refused = λ l e b x r free exact first. branch_refused l e r free b x exact first;
    unformed = λ l e r free not. unformed l e r free not;
    limit_told = λ is. told_limit call request.file
        (λ text a. (AsksNothing text request.equation a × Kept)
        ⊎ IsUndecided text request.equation request.budget m a)
        (λ text place. IsToldLong text m place)
        (member_limit request.equation request.budget call.meter.before m) (why status.Fault
        (inl refl) is);
    task_limit = λ l e r free forms long. task_limit l e r free forms long;
    decided = λ l e r free split never. decided l e r free split never;
    enough = λ l e es k gs last r done few. enough l e r es k gs last done few;
    completes = λ l e es k gs last r never refuses narrow done few.
        completes l e es k gs last r never refuses narrow done few;
    long = λ long. too_long_told path call f (loop_at request.file) (inl refl) long;
  }
