-- What the answers of `full` show, and where each comes.
--   certificate_shown      a yes: a full certificate, at the end of its trace
--   out_shown              an exhausted budget: an analysis, or a trace behind one, that ran out of units
--   fault_told             a fault: why the analysis was refused, or the first branch that begins late
--   wide_told              a number that doesn't fit: why the analysis was refused, or the trace behind it
--   limit_told, branch_told, unformed_told     the answer where the maps pass a limit, or a branch has no closed form
--   late_told              where a branch begins late: the first that does, or a number that doesn't fit
--   formed_told            where none does and each branch splits: a yes, or a number that doesn't fit, or an exhausted budget
--   long_told              where none does and a task of the analysis is too long: this, of one that is, or a number that doesn't fit, or an exhausted budget
--   full_limit             a fault with the text `limit: PLACE`: the analysis has come to the task at this place, which is too long
--   within_told            where a finished journal and its trace are within the budget: no exhausted budget
--   all_told               and where nothing refuses: a yes
--   settled, not_no        which statuses the answers have
use Rattle.std.proofs.Common.{◌≡◌, ◌≢◌, ℕ, List, length, sym, ap, subst, ◌∙◌, Ok, inl, inr, arith}
use Rattle.std.specs.Prelude.{◌⊎◌, Some, None}
use Rattle.algebra.specs.Fraction.{Fraction}
use Rattle.polynomials.specs.Terms.{Terms}
use Rattle.machines.specs.Journal.{Journal, Entry}
use Rattle.machines.specs.Run.{IsRun}
use Rattle.machines.proofs.Runs.{ended_unique}
use Rattle.loops.specs.Program.{Expr, Program}
use Rattle.poly_text.specs.Reasons.{limit}
use Rattle.loop_model.specs.Operations.{IsLimit}
use Rattle.loop_model.specs.Maps.{maps_operations, AreFree}
use Rattle.loop_text.specs.LoopReader.{loop_of}
use Rattle.loop_text.proofs.WellFormed.{loop_well}
use Rattle.rounds.specs.Analysis.{Setting, fresh, finished, next, move_of, moves}
use Rattle.rounds.specs.Journal as journal
use Rattle.rounds.specs.Journal.{setting_from}
use Rattle.rounds.proofs.Forms.{forms_are_one, enough_budget}
use Rattle.rounds.proofs.Theorem.{finished_generates}
use Rattle.closed_forms.specs.Refusal.{Refusal}
use Rattle.journal.specs.View as view
use Rattle.invariant_fix.specs.Refusals.{AllHaveForms, IsRefusedBranch}
use Rattle.invariant_fix.specs.declared.errors.AnalyseError.{AnalyseError}
use Rattle.invariant_fix.specs.declared.errors.AnalyseError.TheVariants as error
use Rattle.corollaries.specs.Full.{FullCertificate}
use Rattle.corollaries.specs.Followed.{IsFinished, IsOut}
use Rattle.corollaries.proofs.One as traces
use Rattle.full_cert.specs.Form.{full_in}
use Rattle.full_trace.specs.Late.{AllBeginAtZero, IsFirstLate}
use Rattle.full_trace.specs.Traced as trace
use Rattle.io_edge.specs.declared.answer.Status.TheVariants as status
use Rattle.io_edge.specs.Settled.{IsSettled}
use Rattle.io_edge.specs.Texts.{Answer}
use Rattle.io_edge.proofs.OfStatuses.{status_of, text_of, some_answer, settled_yes, settled_fault, no_answer}
use Rattle.command_parts.specs.FaultTexts.{loop_refusal}
use Rattle.command_parts.specs.LoopReading.{IsLoopFault}
use Rattle.command_parts.proofs.MapLimits.{not_free}
use Rattle.analysis_commands.specs.declared.kind.Kind.TheVariants as kinds
use Rattle.analysis_commands.specs.Analyses.{IsUnfound, Analyses}
use Rattle.analysis_commands.specs.Causes.{IsUnanalysed, IsNeverLong, IsExact}
use Rattle.analysis_commands.specs.Completeness.{AllSplit}
use Rattle.analysis_commands.specs.RefusalTexts.{refusal_answer, branch_answer}
use Rattle.analysis_commands.specs.LongTasks.{limit_text, IsToldLong, ComesToLong}
use Rattle.analysis_commands.proofs.LongTasks.{first_byte, loop_fault_long, unanalysed_long, never_long, IsLongOr}
use Rattle.analysis_commands.proofs.Analysing as analysing
use Rattle.analysis_commands.proofs.BranchRefusals.{no_form}
use Rattle.analysis_commands.proofs.Refused.{refusal_parts, refusal_kind, refused_settled, refused_not_no}
use Rattle.certificate_commands.specs.FullTexts.{certificate_answer, late_answer}
use Rattle.certificate_commands.specs.FullHeadline.{ShowsFull}
use Rattle.certificate_commands.specs.FullCertified.{IsAnalysed, IsUntraced, Ending, certified, first_late, unanalysed, untraced, EndsWith, answer_of, Certifies}
use Rattle.certificate_commands.specs.FullCauses.{HasFinished, IsCertificateOf, IsExhaustedTracing, IsExhausted, IsToldLate, IsRefusedTrace, IsNeverRefused, IsWithinBudget}
use Rattle.full_trace.proofs.Late.{first_late_one, never_late}
use Rattle.certificate_commands.proofs.Late.{followed_at_zero}
use Rattle.certificate_commands.proofs.FullRefusing.{as_analysed, unformed_wide, untraced_ends}

-- the analysis of a loop ends with one number of rounds
rounds_are_one : (l : Program (Expr ℕ)) (es fs : List Entry) (k j : ℕ)
    (gs hs : List (Terms Fraction)) → journal.IsFinished l es k gs → journal.IsFinished l fs j hs
    → k ≡ j
rounds_are_one l es fs k j gs hs x y =
    let same = forms_are_one l _ _ y.follows.are_forms x.follows.are_forms in
    let A : Setting = setting_from l None x.follows.forms None in
    let run = subst (λ forms. IsRun (moves (setting_from l None forms None)) fresh fs y.state) same
    y.follows.run in
    let is = subst (λ forms. next (setting_from l None forms None) y.state ≡ finished j hs) same
    y.is in
    let one = ended_unique (moves A) fresh x.state y.state es fs x.follows.run (ap (move_of A) x.is)
    run (ap (move_of A) is) in
    same_rounds (sym x.is ∙ ap (next A) one.1 ∙ is)
  where
    same_rounds : finished k gs ≡ finished j hs → k ≡ j
    same_rounds h = cc

as_many_rounds : (l : Program (Expr ℕ)) (budget : ℕ) (x : IsAnalysed l budget)
    (within : IsWithinBudget l budget) → within.analysis.rounds ≡ x.rounds
as_many_rounds l budget x within =
    let w = within.analysis in
    rounds_are_one l w.entries x.entries w.rounds x.rounds w.list x.list w.finished x.finished

-- no trace is out of a budget within which one has ended
enough_traced : (l : Program (Expr ℕ)) (budget : ℕ) (m : Journal) (x : IsAnalysed l budget)
    → IsWithinBudget l budget → IsOut l x.rounds budget m.entries → ⊥
enough_traced l budget m x within out =
    let same = as_many_rounds l budget x within in
    traces.enough_budget l x.rounds budget within.entries m.entries within.given
    (subst (λ k. IsFinished l k within.entries within.given) same within.finished) within.few out

module _ (l : Program (Expr ℕ)) (budget : ℕ) (m : Journal) (a : Answer) where
  said : (c : FullCertificate) → answer_of l.names budget (certified c) ≡ Some a
      → a ≡ certificate_answer l.names c
  said c is = some_answer (certificate_answer l.names c) a is

  says_yes : (c : FullCertificate) → answer_of l.names budget (certified c) ≡ Some a
      → a.status ≡ status.Yes
  says_yes c is = status_of (said c is)

  said_late : (b : ℕ) → answer_of l.names budget (first_late b) ≡ Some a → a ≡ late_answer b
  said_late b is = some_answer (late_answer b) a is

  says_fault : (b : ℕ) → answer_of l.names budget (first_late b) ≡ Some a
      → a.status ≡ status.Fault
  says_fault b is = status_of (said_late b is)

  refusal : (e : AnalyseError) → IsUnfound l budget m e → refusal_answer l.names budget e ≡ Some a
      → Analyses kinds.Basis l budget m a
  refusal e ends is = as_analysed l budget m a e ends is

  refusal_not : (e : AnalyseError) → refusal_answer l.names budget e ≡ Some a
      → a.status ≢ status.Yes
  refusal_not e is = analysing.refused_not_yes e a.status
      (refusal_kind e a.status (refusal_parts l.names budget e a is).0)

  module _ (text : List ℕ) (is_loop : loop_of text ≡ Ok l) where
    shown : (e : Ending) → EndsWith l budget m e → answer_of l.names budget e ≡ Some a
        → a.status ≡ status.Yes
        → ShowsFull text a.text × (HasFinished text budget m
        × IsCertificateOf text budget m a.text)
    shown (certified c) ends is h =
        let x = ends.1 in
        let same : c.basis ≡ x.analysed.list = ap (λ (d : FullCertificate). d.basis) x.is in
        let t : a.text ≡ (certificate_answer l.names c).text = text_of (said c is) in (
          record {
            loop = l;
            is_loop = is_loop;
            certificate = c;
            holds = x.holds;
            is_basis = x.is_basis;
            generates = finished_generates l (loop_well text l is_loop).formed x.analysed.entries
                x.analysed.rounds c.basis
                (subst (λ gs. journal.IsFinished l x.analysed.entries x.analysed.rounds gs)
                (sym same) x.analysed.finished);
            says = t;
            reads_back = subst (λ bytes. full_in l bytes ≡ Ok c) (sym t) x.reads_back;
          },
          (
            record {
              loop = l;
              is_loop = is_loop;
              free = x.analysed.free;
              limit = ends.0;
              rounds = x.analysed.rounds;
              least = x.analysed.least;
              given = x.given;
              finished = x.finished;
            },
            record { loop = l; is_loop = is_loop; certificate = c; certified = x; says = t },
          ),
        )
    shown (first_late b) ends is h =
        absurd (let x : status.Fault ≡ status.Yes = sym (says_fault b is) ∙ h in cc)
    shown (unanalysed e) ends is h = absurd (refusal_not e is h)
    shown (untraced e) ends is h = absurd (refusal_not e is h)

    exhausted_tracing : (e : AnalyseError) → e ≡ error.Budget → IsUntraced l budget m e
        → refusal_answer l.names budget e ≡ Some a → IsExhausted text budget m a.text
    exhausted_tracing e same u is =
        let cause : trace.IsStopped l u.analysed.rounds m error.Budget =
        subst (trace.IsStopped l u.analysed.rounds m) same u.stopped in
        record {
          loop = l;
          is_loop = is_loop;
          free = u.analysed.free;
          forms = u.analysed.forms;
          limit = u.limit;
          out = inr (record {
            analysed = u.analysed;
            out = subst (λ n. IsOut l u.analysed.rounds n m.entries) u.limit cause;
          });
          says = (refusal_parts l.names budget error.Budget a
              (subst (λ x. refusal_answer l.names budget x ≡ Some a) same is)).1;
        }

    out : (e : Ending) → EndsWith l budget m e → answer_of l.names budget e ≡ Some a
        → a.status ≡ status.Budget → IsExhausted text budget m a.text
    out (certified c) ends is h =
        absurd (let x : status.Yes ≡ status.Budget = sym (says_yes c is) ∙ h in cc)
    out (first_late b) ends is h =
        absurd (let x : status.Fault ≡ status.Budget = sym (says_fault b is) ∙ h in cc)
    out (unanalysed e) ends is h =
        let s = analysing.out_shown kinds.Basis text l budget m a is_loop
        (refusal e ends.unfound is) h in
        record {
          loop = s.loop;
          is_loop = s.is_loop;
          free = s.free;
          forms = s.forms;
          limit = s.limit;
          out = inl s.out;
          says = s.says;
        }
    out (untraced e) ends is h = elim (untraced_ends l budget m a e ends is) [
      | inl wide ↦ absurd (let x : status.Wide ≡ status.Budget = sym wide ∙ h in cc)
      | inr exhausted ↦ exhausted_tracing e exhausted.1 ends is
    ]

    at_fault : (e : Ending) → EndsWith l budget m e → answer_of l.names budget e ≡ Some a
        → a.status ≡ status.Fault → IsUnanalysed text budget m a ⊎ IsToldLate text budget m a
    at_fault (certified c) ends is h =
        absurd (let x : status.Yes ≡ status.Fault = sym (says_yes c is) ∙ h in cc)
    at_fault (first_late b) ends is h = inr (record {
      loop = l;
      is_loop = is_loop;
      branch = b;
      late = ends;
      says = said_late b is;
    })
    at_fault (unanalysed e) ends is h =
        inl (analysing.unanalysed kinds.Basis text l budget m a is_loop (refusal e ends.unfound is)
        (refusal_not e is))
    at_fault (untraced e) ends is h = elim (untraced_ends l budget m a e ends is) [
      | inl wide ↦ absurd (let x : status.Wide ≡ status.Fault = sym wide ∙ h in cc)
      | inr exhausted ↦ absurd (let x : status.Budget ≡ status.Fault = sym exhausted.0 ∙ h in cc)
    ]

    cause : (e : Ending) → EndsWith l budget m e → answer_of l.names budget e ≡ Some a
        → a.status ≡ status.Wide → IsUnanalysed text budget m a ⊎ IsRefusedTrace text budget m a
    cause (certified c) ends is h =
        absurd (let x : status.Yes ≡ status.Wide = sym (says_yes c is) ∙ h in cc)
    cause (first_late b) ends is h =
        absurd (let x : status.Fault ≡ status.Wide = sym (says_fault b is) ∙ h in cc)
    cause (unanalysed e) ends is h =
        inl (analysing.unanalysed kinds.Basis text l budget m a is_loop (refusal e ends.unfound is)
        (refusal_not e is))
    cause (untraced e) ends is h = inr (record {
      loop = l;
      is_loop = is_loop;
      error = e;
      untraced = ends;
      says = is;
    })

  -- ---- where each comes
  limited : (at : ℕ) → IsLimit (length l.names) (maps_operations l) at → (e : Ending)
      → EndsWith l budget m e → answer_of l.names budget e ≡ Some a
      → (a ≡ loop_refusal (record { reason = limit; at = at })) ⊎ (a.status ≡ status.Wide)
  limited at first (certified c) ends is =
      absurd (not_free (length l.names) (maps_operations l) at first ends.1.analysed.free)
  limited at first (first_late b) ends is =
      absurd (not_free (length l.names) (maps_operations l) at first ends.free)
  limited at first (unanalysed e) ends is =
      analysing.limit_analysed kinds.Basis l budget at m a first (refusal e ends.unfound is)
  limited at first (untraced e) ends is =
      absurd (not_free (length l.names) (maps_operations l) at first ends.analysed.free)

  refused_branch : AreFree l → (b : ℕ) (r : Refusal) → IsExact r → IsRefusedBranch l b r
      → (e : Ending) → EndsWith l budget m e → answer_of l.names budget e ≡ Some a
      → (a ≡ branch_answer l.names b r) ⊎ (a.status ≡ status.Wide)
  refused_branch free b r exact first (certified c) ends is =
      absurd (no_form l _ r exact first.is (ends.1.analysed.forms b first.within))
  refused_branch free b r exact first (first_late c) ends is =
      absurd (no_form l _ r exact first.is (ends.forms b first.within))
  refused_branch free b r exact first (unanalysed e) ends is =
      analysing.branch_analysed kinds.Basis l budget m a free b r exact first
      (refusal e ends.unfound is)
  refused_branch free b r exact first (untraced e) ends is =
      absurd (no_form l _ r exact first.is (ends.analysed.forms b first.within))

  unformed : AreFree l → ¬ (AllHaveForms l) → (e : Ending) → EndsWith l budget m e
      → answer_of l.names budget e ≡ Some a → (a.status ≡ status.Fault) ⊎ (a.status ≡ status.Wide)
  unformed free not (certified c) ends is = absurd (not ends.1.analysed.forms)
  unformed free not (first_late b) ends is = absurd (not ends.forms)
  unformed free not (unanalysed e) ends is =
      analysing.unformed_analysed kinds.Basis l budget m a free not (refusal e ends.unfound is)
  unformed free not (untraced e) ends is = absurd (not ends.analysed.forms)

  untraced_at_zero : (e : AnalyseError) → IsUntraced l budget m e
      → refusal_answer l.names budget e ≡ Some a → AllBeginAtZero l
  untraced_at_zero (error.Map e) ends is = absurd ends.stopped
  untraced_at_zero (error.Branch b e) ends is = absurd ends.stopped
  untraced_at_zero (error.Limit task) ends is = absurd ends.stopped
  untraced_at_zero (error.Wide task) ends is =
      let s = ends.stopped in followed_at_zero l ends.analysed.rounds m.entries s.state s.follows
  untraced_at_zero error.Budget ends is =
      let s = ends.stopped.comes in
      followed_at_zero l ends.analysed.rounds m.entries s.state s.follows
  untraced_at_zero error.Memory ends is = absurd (no_answer a is)

  late_branch : AreFree l → AllHaveForms l → (b : ℕ) → IsFirstLate l b → (e : Ending)
      → EndsWith l budget m e → answer_of l.names budget e ≡ Some a
      → (a ≡ late_answer b) ⊎ (a.status ≡ status.Wide)
  late_branch free forms b first (certified c) ends is =
      absurd (never_late l
      (followed_at_zero l ends.1.analysed.rounds m.entries ends.1.finished.state
      ends.1.finished.follows) b first)
  late_branch free forms b first (first_late c) ends is =
      inl (said_late c is ∙ ap late_answer (first_late_one l c b ends.first first))
  late_branch free forms b first (unanalysed e) ends is = elim ends.before [
    | inl unformed ↦ inr (unformed_wide l budget m a free forms e ends.unfound unformed is)
    | inr at_zero ↦ absurd (never_late l at_zero b first)
  ]
  late_branch free forms b first (untraced e) ends is =
      absurd (never_late l (untraced_at_zero e ends is) b first)

  formed : AreFree l → AllSplit l → AllBeginAtZero l → IsNeverLong l → (e : Ending)
      → EndsWith l budget m e
      → answer_of l.names budget e ≡ Some a → (a.status ≡ status.Yes)
      ⊎ ((a.status ≡ status.Wide) ⊎ (a.status ≡ status.Budget))
  formed free split at_zero never (certified c) ends is = inl (says_yes c is)
  formed free split at_zero never (first_late b) ends is =
      absurd (never_late l at_zero b ends.first)
  formed free split at_zero never (unanalysed e) ends is =
      analysing.formed_analysed kinds.Basis l budget m a free split never
      (refusal e ends.unfound is)
  formed free split at_zero never (untraced e) ends is =
      elim (untraced_ends l budget m a e ends is) [
        | inl wide ↦ inr (inl wide)
        | inr exhausted ↦ inr (inr exhausted.0)
      ]

  -- where all begin at 0 and a task of the analysis is too long
  not_analysed : ComesToLong l → IsAnalysed l budget → ⊥
  not_analysed long x =
      never_long l None x.entries x.rounds x.list x.finished x.short long.entries long.state
      long.follows long.long

  long_ended : AreFree l → AllHaveForms l → AllBeginAtZero l → ComesToLong l → (e : Ending)
      → EndsWith l budget m e → answer_of l.names budget e ≡ Some a → IsLongOr l m a
  long_ended free forms at_zero long (certified c) ends is =
      absurd (not_analysed long ends.1.analysed)
  long_ended free forms at_zero long (first_late b) ends is =
      absurd (never_late l at_zero b ends.first)
  long_ended free forms at_zero long (unanalysed e) ends is =
      analysing.long_analysed kinds.Basis l budget m a free forms long (refusal e ends.unfound is)
  long_ended free forms at_zero long (untraced e) ends is =
      absurd (not_analysed long ends.analysed)

  completed : (within : IsWithinBudget l budget) → IsNeverRefused l within.analysis.rounds
      → (e : Ending) → EndsWith l budget m e → answer_of l.names budget e ≡ Some a
      → a.status ≡ status.Yes
  completed within never (certified c) ends is = says_yes c is
  completed within never (first_late b) ends is =
      absurd (never_late l (followed_at_zero l within.analysis.rounds within.entries
      within.finished.state within.finished.follows) b ends.first)
  completed within never (unanalysed e) ends is =
      analysing.all_analysed kinds.Basis l budget m a never.analysis within.analysis
      (refusal e ends.unfound is)
  completed within never (untraced (error.Map e)) ends is = absurd ends.stopped
  completed within never (untraced (error.Branch b e)) ends is = absurd ends.stopped
  completed within never (untraced (error.Limit task)) ends is = absurd ends.stopped
  completed within never (untraced (error.Wide task)) ends is =
      let same = as_many_rounds l budget ends.analysed within in
      let s = subst (λ k. trace.HasStopped l k (view.task_of task) m.entries) (sym same)
      ends.stopped in
      absurd (never.states m.entries s.state s.follows s.past)
  completed within never (untraced error.Budget) ends is =
      absurd (enough_traced l budget m ends.analysed within (subst (λ n.
      IsOut l ends.analysed.rounds n m.entries) ends.limit ends.stopped))
  completed within never (untraced error.Memory) ends is = absurd (no_answer a is)

  settles : (e : Ending) → answer_of l.names budget e ≡ Some a → IsSettled a.status
  settles (certified c) is = settled_yes a.status (says_yes c is)
  settles (first_late b) is = settled_fault a.status (says_fault b is)
  settles (unanalysed e) is =
      refused_settled e a.status (refusal_kind e a.status (refusal_parts l.names budget e a is).0)
  settles (untraced e) is =
      refused_settled e a.status (refusal_kind e a.status (refusal_parts l.names budget e a is).0)

  no_no : (e : Ending) → answer_of l.names budget e ≡ Some a → a.status ≢ status.No
  no_no (certified c) is h = let x : status.Yes ≡ status.No = sym (says_yes c is) ∙ h in
      let z : ⊥ = cc in z
  no_no (first_late b) is h = let x : status.Fault ≡ status.No = sym (says_fault b is) ∙ h in
      let z : ⊥ = cc in z
  no_no (unanalysed e) is h =
      refused_not_no e a.status (refusal_kind e a.status (refusal_parts l.names budget e a is).0) h
  no_no (untraced e) is h =
      refused_not_no e a.status (refusal_kind e a.status (refusal_parts l.names budget e a is).0) h

pub certificate_shown : (text : List ℕ) (l : Program (Expr ℕ)) (budget : ℕ) (m : Journal)
    (a : Answer) → loop_of text ≡ Ok l → Certifies l budget m a → a.status ≡ status.Yes
    → ShowsFull text a.text × (HasFinished text budget m × IsCertificateOf text budget m a.text)
certificate_shown text l budget m a is h = shown l budget m a text is h.ending h.ends h.says

pub out_shown : (text : List ℕ) (l : Program (Expr ℕ)) (budget : ℕ) (m : Journal) (a : Answer)
    → loop_of text ≡ Ok l → Certifies l budget m a → a.status ≡ status.Budget
    → IsExhausted text budget m a.text
out_shown text l budget m a is h = out l budget m a text is h.ending h.ends h.says

pub fault_told : (text : List ℕ) (l : Program (Expr ℕ)) (budget : ℕ) (m : Journal) (a : Answer)
    → loop_of text ≡ Ok l → Certifies l budget m a → a.status ≡ status.Fault
    → IsUnanalysed text budget m a ⊎ IsToldLate text budget m a
fault_told text l budget m a is h = at_fault l budget m a text is h.ending h.ends h.says

pub wide_told : (text : List ℕ) (l : Program (Expr ℕ)) (budget : ℕ) (m : Journal) (a : Answer)
    → loop_of text ≡ Ok l → Certifies l budget m a → a.status ≡ status.Wide
    → IsUnanalysed text budget m a ⊎ IsRefusedTrace text budget m a
wide_told text l budget m a is h = cause l budget m a text is h.ending h.ends h.says

pub limit_told : (l : Program (Expr ℕ)) (budget at : ℕ) (m : Journal) (a : Answer)
    → IsLimit (length l.names) (maps_operations l) at → Certifies l budget m a
    → (a ≡ loop_refusal (record { reason = limit; at = at })) ⊎ (a.status ≡ status.Wide)
limit_told l budget at m a first h = limited l budget m a at first h.ending h.ends h.says

pub branch_told : (l : Program (Expr ℕ)) (budget : ℕ) (m : Journal) (a : Answer) → AreFree l
    → (b : ℕ) (r : Refusal) → IsExact r → IsRefusedBranch l b r → Certifies l budget m a
    → (a ≡ branch_answer l.names b r) ⊎ (a.status ≡ status.Wide)
branch_told l budget m a free b r exact first h =
    refused_branch l budget m a free b r exact first h.ending h.ends h.says

pub unformed_told : (l : Program (Expr ℕ)) (budget : ℕ) (m : Journal) (a : Answer) → AreFree l
    → ¬ (AllHaveForms l) → Certifies l budget m a
    → (a.status ≡ status.Fault) ⊎ (a.status ≡ status.Wide)
unformed_told l budget m a free not h = unformed l budget m a free not h.ending h.ends h.says

pub late_told : (l : Program (Expr ℕ)) (budget : ℕ) (m : Journal) (a : Answer) → AreFree l
    → AllHaveForms l → (b : ℕ) → IsFirstLate l b → Certifies l budget m a
    → (a ≡ late_answer b) ⊎ (a.status ≡ status.Wide)
late_told l budget m a free forms b first h =
    late_branch l budget m a free forms b first h.ending h.ends h.says

pub formed_told : (l : Program (Expr ℕ)) (budget : ℕ) (m : Journal) (a : Answer) → AreFree l
    → AllSplit l → AllBeginAtZero l → IsNeverLong l → Certifies l budget m a
    → (a.status ≡ status.Yes) ⊎ ((a.status ≡ status.Wide) ⊎ (a.status ≡ status.Budget))
formed_told l budget m a free split at_zero never h =
    formed l budget m a free split at_zero never h.ending h.ends h.says

pub long_told : (l : Program (Expr ℕ)) (budget : ℕ) (m : Journal) (a : Answer) → AreFree l
    → AllHaveForms l → AllBeginAtZero l → ComesToLong l → Certifies l budget m a → IsLongOr l m a
long_told l budget m a free forms at_zero long h =
    long_ended l budget m a free forms at_zero long h.ending h.ends h.says

-- no fault of LOOP, and no branch that begins late, is told so
pub full_limit : (budget : ℕ) (m : Journal) (text : List ℕ) (a : Answer) (place : List ℕ)
    → IsLoopFault text a ⊎ (IsUnanalysed text budget m a ⊎ IsToldLate text budget m a)
    → a.text ≡ limit_text place → IsToldLong text m place
unfolding first_byte
full_limit budget m text a place (inl fault) said =
    absurd (loop_fault_long text a place fault said)
full_limit budget m text a place (inr (inl h)) said = unanalysed_long text budget m a place h said
full_limit budget m text a place (inr (inr late)) said =
    let x : 98 ≡ 108 = ap first_byte (sym (text_of late.says) ∙ said) in absurd (omega (arith, x))

pub all_told : (l : Program (Expr ℕ)) (budget : ℕ) (m : Journal) (a : Answer)
    → (within : IsWithinBudget l budget) → IsNeverRefused l within.analysis.rounds
    → Certifies l budget m a → a.status ≡ status.Yes
all_told l budget m a within never h = completed l budget m a within never h.ending h.ends h.says

pub within_told : (text : List ℕ) (l : Program (Expr ℕ)) (budget : ℕ) (m : Journal)
    (said : List ℕ) → loop_of text ≡ Ok l → IsWithinBudget l budget → IsExhausted text budget m said
    → ⊥
within_told text l budget m said is within exhausted =
    let same : exhausted.loop ≡ l =
    (let x : Ok exhausted.loop ≡ Ok l = sym exhausted.is_loop ∙ is in cc) in
    elim (subst (λ p. journal.IsOut p None budget m.entries ⊎ IsExhaustedTracing p budget m) same
    exhausted.out) [
      | inl out ↦ let w = within.analysis in
          enough_budget l None w.entries m.entries w.rounds budget w.list w.finished w.few out
      | inr out ↦ enough_traced l budget m out.analysed within out.out
    ]

pub settled : (l : Program (Expr ℕ)) (budget : ℕ) (m : Journal) (a : Answer)
    → Certifies l budget m a → IsSettled a.status
settled l budget m a h = settles l budget m a h.ending h.says

pub not_no : (l : Program (Expr ℕ)) (budget : ℕ) (m : Journal) (a : Answer)
    → Certifies l budget m a → a.status ≢ status.No
not_no l budget m a h = no_no l budget m a h.ending h.says
