-- Where `limit: PLACE` is told.
--   first_byte          by which other texts are told from it
--   limit_alone         no other refusal of an analysis has such a text;  loop_fault_other: nor has a fault of LOOP
--   told_long           a refused analysis with this text has come to the task at this place, which is too long
--   unanalysed_long     the same, over the bytes of LOOP;  loop_fault_long: no fault of LOOP is told so;  analysis_limit: the two together
--   limit_written, told_limit      what holds of an answer with such a text holds of what was written
--   never_long          on the way of a finished analysis no task that it comes to is too long
--   IsLongOr l m a      such an answer tells it, or that a number doesn't fit, or that the budget is exhausted;  or_long: a call ends so, by what the outcome is
use Rattle.std.proofs.Common.{◌≡◌, ℕ, List, refl, sym, ap, subst, ◌∙◌, get_or, inl, inr, arith, Option, Some, None}
use Rattle.std.specs.Prelude.{◌⊎◌, ◌++◌, codes}
use Rattle.std.proofs.lemmas.List.{append_cancel_left, append_cancel_right}
use Rattle.algebra.specs.Fraction.{Fraction}
use Rattle.polynomials.specs.Terms.{Terms}
use Rattle.machines.specs.Journal.{Journal, Entry}
use Rattle.machines.specs.Run.{IsRun}
use Rattle.loops.specs.Program.{Expr, Program}
use Rattle.loop_model.specs.declared.map_error.MapError.TheVariants as map_error
use Rattle.rounds.specs.Analysis.{Setting, State, fresh, moves, move_of}
use Rattle.rounds.specs.Journal.{setting_from, FollowsFrom, IsFinishedBy}
use Rattle.rounds.proofs.Forms.{forms_are_one}
use Rattle.rounds.proofs.Prefixes.{begins_ended}
use Rattle.journal.specs.declared.Task.{Task}
use Rattle.poly_text.specs.Reasons.{Fault}
use Rattle.invariant_fix.specs.Answers.{AreShortFrom}
use Rattle.invariant_fix.specs.Long.{IsLong}
use Rattle.invariant_fix.specs.Refusals.{IsRefused}
use Rattle.invariant_fix.specs.declared.errors.AnalyseError.{AnalyseError}
use Rattle.invariant_fix.specs.declared.errors.AnalyseError.TheVariants as error
use Rattle.io_edge.specs.declared.answer.Status.TheVariants as status
use Rattle.io_edge.specs.Texts.{Answer, with_text}
use Rattle.io_edge.specs.Course.{Course}
use Rattle.io_edge.specs.Outcome.{Call, IsCarriedOut}
use Rattle.io_edge.specs.Clauses.{Wrote, IfTold}
use Rattle.io_edge.proofs.OfStatuses.{no_answer, text_of}
use Rattle.io_edge.proofs.Outcomes.{Said, if_told, written, or_excused}
use Rattle.command_parts.specs.FaultTexts.{loop_refusal}
use Rattle.command_parts.specs.LoopReading.{IsLoopFault}
use Rattle.analysis_commands.specs.Analyses.{empty_journal, IsUnfound}
use Rattle.analysis_commands.specs.Causes.{IsUnanalysed}
use Rattle.analysis_commands.specs.RefusalTexts.{place_text, refusal_answer, refusal_text}
use Rattle.analysis_commands.specs.LongTasks.{limit_text, IfLimit, IsLongLoop, IsToldLong, TellsLong, EndsLong}
use Rattle.analysis_commands.proofs.Refused.{refusal_parts}

-- ---- which texts are such
unfoldable pub first_byte : List ℕ → ℕ
first_byte said = get_or said 0 0

unfoldable pub second_byte : List ℕ → ℕ
second_byte said = get_or said 1 0

place_same : (p q : List ℕ) → limit_text p ≡ limit_text q → p ≡ q
place_same p q same =
    append_cancel_left (codes "limit: ") p q
    (append_cancel_right (codes "limit: " ++ p) (codes "limit: " ++ q) (codes "\n") same)

pub record IsLimit (e : AnalyseError) (place : List ℕ) : Type 0 where
  pub task : Task
  pub is : e ≡ error.Limit task
  pub at : place ≡ place_text task

module _ (names : List (List ℕ)) (budget : ℕ) (a : Answer) (place : List ℕ)
    (said : a.text ≡ limit_text place) where
  text_is : (e : AnalyseError) → refusal_answer names budget e ≡ Some a
      → refusal_text names budget e ≡ limit_text place
  text_is e is = sym (refusal_parts names budget e a is).1 ∙ said

  pub limit_alone : (e : AnalyseError) → refusal_answer names budget e ≡ Some a → IsLimit e place
  unfolding first_byte second_byte
  limit_alone (error.Map (map_error.Limit at)) is =
      let x : 111 ≡ 105 = ap second_byte (text_is (error.Map (map_error.Limit at)) is) in
      absurd (omega (arith, x))
  limit_alone (error.Map (map_error.Wide at)) is =
      let x : 111 ≡ 105 = ap second_byte (text_is (error.Map (map_error.Wide at)) is) in
      absurd (omega (arith, x))
  limit_alone (error.Map map_error.Memory) is = absurd (no_answer a is)
  limit_alone (error.Branch b e) is =
      let x : 98 ≡ 108 = ap first_byte (text_is (error.Branch b e) is) in
      absurd (omega (arith, x))
  limit_alone (error.Limit task) is = record {
    task = task;
    is = refl;
    at = sym (place_same (place_text task) place (text_is (error.Limit task) is));
  }
  limit_alone (error.Wide task) is =
      let x : 119 ≡ 108 = ap first_byte (text_is (error.Wide task) is) in
      absurd (omega (arith, x))
  limit_alone error.Budget is =
      let x : 98 ≡ 108 = ap first_byte (text_is error.Budget is) in
      absurd (omega (arith, x))
  limit_alone error.Memory is = absurd (no_answer a is)

pub loop_fault_other : (fault : Fault) (place : List ℕ)
    → (loop_refusal fault).text ≡ limit_text place → ⊥
unfolding second_byte
loop_fault_other fault place same =
    let x : 111 ≡ 105 = ap second_byte same in omega (arith, x)

pub told_long : (l : Program (Expr ℕ)) (budget : ℕ) (m : Journal) (a : Answer) (place : List ℕ)
    (e : AnalyseError) → IsUnfound l budget m e → refusal_answer l.names budget e ≡ Some a
    → a.text ≡ limit_text place → IsLongLoop l m place
told_long l budget m a place e ends says said =
    let x = limit_alone l.names budget a place said e says in
    let cause : IsRefused l (empty_journal budget) m (error.Limit x.task) =
    subst (IsRefused l (empty_journal budget) m) x.is ends.1 in
    record {
      free = cause.0;
      forms = cause.1;
      long = record { task = x.task; at = x.at; long = cause.2 };
    }

-- ---- what was written
pub limit_written : (call : Call) (R : Answer → Type 0) (T : List ℕ → Type 0)
    → ((a : Answer) (place : List ℕ) → R a → a.text ≡ limit_text place → T place)
    → Wrote call.sink (λ said. R (with_text status.Fault said))
    → Wrote call.sink (λ said. IfLimit said T)
limit_written call R T told w = record {
  text = w.text;
  whole = w.whole;
  is = λ place same. told (with_text status.Fault w.text) place w.is same;
}

pub told_limit : (call : Call) (file : List ℕ) (R : List ℕ → Answer → Type 0)
    (T : List ℕ → List ℕ → Type 0)
    → ((text : List ℕ) (a : Answer) (place : List ℕ) → R text a → a.text ≡ limit_text place
    → T text place)
    → Wrote call.sink (λ said. IfTold call.files.before file
    (λ text. R text (with_text status.Fault said)))
    → Wrote call.sink (λ said. IfLimit said (λ place.
    IfTold call.files.before file (λ text. T text place)))
told_limit call file R T told w =
    limit_written call (λ a. IfTold call.files.before file (λ text. R text a))
    (λ place. IfTold call.files.before file (λ text. T text place))
    (λ a place h same. if_told (call.files.before.told file) (λ text. R text a)
    (λ text. T text place) (λ text r. told text a place r same) h) w

-- the refusals of LOOP and of its analysis
pub unanalysed_long : (text : List ℕ) (budget : ℕ) (m : Journal) (a : Answer) (place : List ℕ)
    → IsUnanalysed text budget m a → a.text ≡ limit_text place → IsToldLong text m place
unanalysed_long text budget m a place h said =
    let r = h.refused in
    record {
      loop = h.loop;
      is_loop = h.is_loop;
      is = told_long h.loop budget m a place r.error r.ends r.says said;
    }

pub loop_fault_long : (text : List ℕ) (a : Answer) (place : List ℕ) → IsLoopFault text a
    → a.text ≡ limit_text place → ⊥
loop_fault_long text a place h said = loop_fault_other h.fault place (sym (text_of h.says) ∙ said)

-- the two together
pub analysis_limit : (budget : ℕ) (m : Journal) (text : List ℕ) (a : Answer) (place : List ℕ)
    → IsLoopFault text a ⊎ IsUnanalysed text budget m a → a.text ≡ limit_text place
    → IsToldLong text m place
analysis_limit budget m text a place (inl fault) said =
    absurd (loop_fault_long text a place fault said)
analysis_limit budget m text a place (inr h) said = unanalysed_long text budget m a place h said

-- ---- a finished analysis
pub never_long : (l : Program (Expr ℕ)) (given : Option (List (Terms Fraction)))
    (es : List Entry) (k : ℕ) (gs : List (Terms Fraction)) → IsFinishedBy l given es k gs
    → AreShortFrom l given es → (fs : List Entry) (s : State)
    (f : FollowsFrom l given None fs s) → IsLong (setting_from l given f.forms None) s → ⊥
never_long l given es k gs done short fs s f long =
    let same = forms_are_one l _ _ f.are_forms done.follows.are_forms in
    let A : Setting = setting_from l given done.follows.forms None in
    let run = subst (λ forms. IsRun (moves (setting_from l given forms None)) fresh fs s) same
    f.run in
    let goes = begins_ended (moves A) es fs fresh done.state s done.follows.run
    (ap (move_of A) done.is) run in
    short fs goes.rest s goes.is f long

-- ---- how a call ends
abbrev pub IsLongOr : Program (Expr ℕ) → Journal → Answer → Type 0
IsLongOr l m a =
    ((a.status ≡ status.Fault) × TellsLong l m a.text)
    ⊎ ((a.status ≡ status.Wide) ⊎ (a.status ≡ status.Budget))

pub or_long : (course : Course) (call : Call) (l : Program (Expr ℕ)) → IsCarriedOut course call
    → ((s : Said course call) → IsLongOr l call.meter.after s.answer) → EndsLong call l
or_long course call l f g = elim (or_excused course call f (λ s. go s (g s))) [
  | inl excused ↦ inr (inr (inr excused))
  | inr h ↦ h
]
  where
    go : (s : Said course call) → IsLongOr l call.meter.after s.answer → EndsLong call l
    go s (inl told) =
        inl (s.same ∙ told.0, written course call f (TellsLong l call.meter.after) s told.1)
    go s (inr (inl says)) = inr (inl (s.same ∙ says))
    go s (inr (inr says)) = inr (inr (inl (s.same ∙ says)))
