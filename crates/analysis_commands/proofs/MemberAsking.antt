-- What the answers to questions show, and where each comes.
--   never_stopped       where no operation of it stops, an equation has a polynomial
--   yes_asking, no_asking, exhausted_asking     what a yes, a no and an exhausted budget show
--   exhausted_out           an exhausted budget: by this loop and equation the entries can't go on within
--                       it
--   limit_asking        where an operation of the loop's maps passes a limit: this limit, or a
--                       number that doesn't fit
--   decided_asking      where none does and each branch splits: yes exactly where the equation
--                       holds, no exactly where it doesn't; or a number that doesn't fit, or a
--                       exhausted budget
--   unformed_asking     where not each branch has a closed form: a fault, or a number that doesn't
--                       fit
--   branch_asking       where the first that has none is refused for a cause of its own: this
--                       refusal, or a number that doesn't fit
--   long_asking         where a task of the analysis is too long: this, of one that is, or a number
--                       that doesn't fit, or an exhausted budget
--   completed_asking    where nothing is refused, and an answered journal keeps within the budget:
--                       yes or no
use Rattle.std.proofs.Common.{◌≡◌, ◌≢◌, ℕ, suc, ◌≤◌, List, length, sym, subst, ◌∙◌, Ok, inl, inr}
use Rattle.std.specs.Prelude.{◌⊎◌, ◌++◌, Some, None, codes, decimal}
use Rattle.algebra.specs.Fraction.{Fraction}
use Rattle.polynomials.specs.Terms.{Terms}
use Rattle.machines.specs.Division as division
use Rattle.machines.specs.Journal.{Journal, Entry, units_of}
use Rattle.loops.specs.Program.{Expr, Program}
use Rattle.loop_model.specs.Operations.{IsLimit}
use Rattle.loop_model.specs.Stops.{Stops}
use Rattle.loop_model.specs.declared.map_error.MapError.{MapError}
use Rattle.loop_model.specs.declared.map_error.MapError.TheVariants as map_error
use Rattle.loop_model.specs.Maps.{maps_operations, AreFree}
use Rattle.loop_text.specs.LoopReader.{loop_of}
use Rattle.rounds.specs.Journal.{IsAnswered, IsOut}
use Rattle.closed_forms.specs.Refusal.{Refusal, refusal_in}
use Rattle.divide.specs.declared.EngineError.{EngineError}
use Rattle.divide.specs.declared.EngineError.TheVariants as engine_error
use Rattle.invariant_fix.specs.Refusals.{AllHaveForms, IsRefusedBranch, IsRefused}
use Rattle.invariant_fix.specs.declared.errors.AnalyseError.{AnalyseError}
use Rattle.invariant_fix.specs.declared.errors.AnalyseError.TheVariants as error
use Rattle.io_edge.specs.declared.answer.Status.{Status}
use Rattle.io_edge.specs.declared.answer.Status.TheVariants as status
use Rattle.io_edge.specs.Texts.{Answer, line}
use Rattle.io_edge.proofs.OfStatuses.{status_of, text_of, no_answer, some_answer}
use Rattle.command_parts.proofs.MapLimits.{not_free}
use Rattle.analysis_commands.specs.declared.kind.Kind.TheVariants as kinds
use Rattle.analysis_commands.specs.Analyses.{empty_journal, refused, Analyses}
use Rattle.analysis_commands.specs.Causes.{IsNeverLong, IsNeverRefused, IsExact}
use Rattle.analysis_commands.specs.Completeness.{AllSplit}
use Rattle.command_parts.specs.Equations.{equation_in, operations_of, polynomial_of}
use Rattle.analysis_commands.specs.MemberCauses.{IsAsking, HasAffirmed, HasDenied, IsExhaustedAsking, NeverStops, NeverPast}
use Rattle.analysis_commands.specs.MemberClauses.{EndsDecided, limit_of_loop}
use Rattle.analysis_commands.specs.MemberHeadline.{ShowsYes, ShowsNo}
use Rattle.analysis_commands.specs.Questions.{Decision, unanalysed, undivided, yes, no, Divides, IsUndivided, DecidesWith, decision_answer, positive_answer, negative_answer, Asks}
use Rattle.analysis_commands.specs.RefusalTexts.{refusal_answer, branch_answer}
use Rattle.analysis_commands.proofs.Analysing.{refused_not_yes, exhausted_is, limit_analysed, formed_analysed, unformed_analysed, long_analysed, branch_analysed}
use Rattle.analysis_commands.specs.LongTasks.{ComesToLong}
use Rattle.analysis_commands.proofs.LongTasks.{IsLongOr, never_long}
use Rattle.analysis_commands.proofs.BranchRefusals.{no_form, some_told}
use Rattle.command_parts.proofs.Polynomials.{holds_invariant}
use Rattle.analysis_commands.proofs.MemberJournals.{out_asked, enough_asked}
use Rattle.analysis_commands.proofs.MemberStatuses.{Undivided, too_wide_to_divide, exhausted_dividing, division_parts, division_kind}
use Rattle.analysis_commands.proofs.Refused.{refusal_parts, refusal_kind, refused_not_no}
use Rattle.command_parts.specs.EquationReading.{IsUnformed, stop_answer}

-- ---- an equation that has no polynomial
module _ (l : Program (Expr ℕ)) (e : Expr ℕ) (a : Answer) where
  abbrev StopsAt : MapError → Type 0
  StopsAt x = Stops (length l.names) (operations_of l e) x

  pub never_stopped : NeverStops l e → IsUnformed l e a → ⊥
  never_stopped never h = go h.stop h.is h.says
    where
      go : (x : MapError) → StopsAt x → stop_answer x ≡ Some a → ⊥
      go (map_error.Limit at) is says =
          not_free (length l.names) (operations_of l e) at is never.free
      go (map_error.Wide at) is says = never.narrow at is
      go map_error.Memory is says = no_answer a says

-- ---- a refused division
undivided_not_yes : (x : EngineError) (s : Status) → Undivided x s → s ≢ status.Yes
undivided_not_yes x s (too_wide_to_divide is) h = cc
undivided_not_yes x s (exhausted_dividing is same) h = cc

undivided_not_no : (x : EngineError) (s : Status) → Undivided x s → s ≢ status.No
undivided_not_no x s (too_wide_to_divide is) h = cc
undivided_not_no x s (exhausted_dividing is same) h = cc

undivided_exhausted : (x : EngineError) (s : Status) → Undivided x s → s ≡ status.Budget
    → x ≡ engine_error.Budget
undivided_exhausted x s (too_wide_to_divide is) h = absurd (let z : ⊥ = cc in z)
undivided_exhausted x s (exhausted_dividing is same) h = same

wide_or_exhausted : (x : EngineError) (s : Status) → Undivided x s
    → (s ≡ status.Wide) ⊎ (s ≡ status.Budget)
wide_or_exhausted x s (too_wide_to_divide is) = inl is
wide_or_exhausted x s (exhausted_dividing is same) = inr is

-- ---- an equation that has one
-- a budget exhausted on this question
record IsExhaustedHere (l : Program (Expr ℕ)) (p : Terms Fraction) (budget : ℕ) (m : Journal)
    (said : List ℕ) : Type 0 where
  free : AreFree l
  forms : AllHaveForms l
  limit : m.limit ≡ budget
  out : IsOut l (Some p) budget m.entries
  says : said ≡ line (codes "budget: " ++ decimal budget)

module _ (l : Program (Expr ℕ)) (e : Expr ℕ) (budget : ℕ) (m : Journal) (a : Answer)
    (asks : Asks l (polynomial_of l e) budget m a) where
  abbrev p : Terms Fraction
  p = polynomial_of l e

  abbrev Ends : Decision → Type 0
  Ends d = DecidesWith l p budget m d

  abbrev Says : Decision → Type 0
  Says d = decision_answer l.names budget d ≡ Some a

  is_positive : (qs : List (Terms Fraction)) → Says (yes qs) → a ≡ positive_answer l.names qs
  is_positive qs says = some_answer (positive_answer l.names qs) a says

  is_negative : Says no → a ≡ negative_answer
  is_negative says = some_answer negative_answer a says

  -- a positive answer has no other status than yes, and a negative one than no
  yes_alone : (qs : List (Terms Fraction)) → Says (yes qs) → (s : Status) → a.status ≡ s
      → s ≡ status.Yes
  yes_alone qs says s is = sym is ∙ status_of (is_positive qs says)

  no_alone : Says no → (s : Status) → a.status ≡ s → s ≡ status.No
  no_alone says s is = sym is ∙ status_of (is_negative says)

  refused_yes : (x : AnalyseError) → Says (unanalysed x) → a.status ≢ status.Yes
  refused_yes x says =
      refused_not_yes x a.status (refusal_kind x a.status (refusal_parts l.names budget x a says).0)

  refused_no : (x : AnalyseError) → Says (unanalysed x) → a.status ≢ status.No
  refused_no x says =
      refused_not_no x a.status (refusal_kind x a.status (refusal_parts l.names budget x a says).0)

  division_is : (x : EngineError) → Says (undivided x) → Undivided x a.status
  division_is x says = division_kind x a.status (division_parts budget x a says).0

  -- ---- what is shown
  module _ (text equation : List ℕ) (is_loop : loop_of text ≡ Ok l)
      (is_equation : equation_in l.names equation ≡ Ok e) where
    abbrev asking : IsAsking text equation
    asking = record { loop = l; is_loop = is_loop; difference = e; is_equation = is_equation }

    affirmed : (qs : List (Terms Fraction)) → Ends (yes qs) → Says (yes qs)
        → ShowsYes text equation a.text × HasAffirmed text equation budget m
    affirmed qs ends says = (
      record {
        loop = l;
        is_loop = is_loop;
        difference = e;
        is_equation = is_equation;
        holds = (holds_invariant l e).0 ends.1.invariant;
        basis = ends.1.list;
        is_basis = ends.1.divides.basis;
        cofactors = qs;
        are_cofactors = ends.1.cofactors;
        sum = ends.1.sum;
        says = text_of (is_positive qs says);
      },
      record {
        decided = record {
          asking = asking;
          limit = ends.0;
          list = ends.1.list;
          divides = ends.1.divides;
        };
        gone = ends.1.gone;
      },
    )

    yes_decided : (d : Decision) → Ends d → Says d → a.status ≡ status.Yes
        → ShowsYes text equation a.text × HasAffirmed text equation budget m
    yes_decided (unanalysed x) ends says h = absurd (refused_yes x says h)
    yes_decided (undivided x) ends says h =
        absurd (undivided_not_yes x a.status (division_is x says) h)
    yes_decided (yes qs) ends says h = affirmed qs ends says
    yes_decided no ends says h = absurd (let z = no_alone says status.Yes h in let f : ⊥ = cc in f)

    pub yes_asking : a.status ≡ status.Yes
        → ShowsYes text equation a.text × HasAffirmed text equation budget m
    yes_asking h = yes_decided asks.decision asks.ends asks.says h

    denied : Ends no → Says no → ShowsNo text equation a.text × HasDenied text equation budget m
    denied ends says = (
      record {
        loop = l;
        is_loop = is_loop;
        difference = e;
        is_equation = is_equation;
        fails = λ holds. ends.1.none ((holds_invariant l e).1 holds);
        says = text_of (is_negative says);
      },
      record {
        decided = record {
          asking = asking;
          limit = ends.0;
          list = ends.1.list;
          divides = ends.1.divides;
        };
        left = ends.1.left;
      },
    )

    no_decided : (d : Decision) → Ends d → Says d → a.status ≡ status.No
        → ShowsNo text equation a.text × HasDenied text equation budget m
    no_decided (unanalysed x) ends says h = absurd (refused_no x says h)
    no_decided (undivided x) ends says h =
        absurd (undivided_not_no x a.status (division_is x says) h)
    no_decided (yes qs) ends says h =
        absurd (let z = yes_alone qs says status.No h in let f : ⊥ = cc in f)
    no_decided no ends says h = denied ends says

    pub no_asking : a.status ≡ status.No
        → ShowsNo text equation a.text × HasDenied text equation budget m
    no_asking h = no_decided asks.decision asks.ends asks.says h

  -- ---- an exhausted budget
  exhausted_decided : (d : Decision) → Ends d → Says d → a.status ≡ status.Budget
      → IsExhaustedHere l p budget m a.text
  exhausted_decided (unanalysed x) ends says h =
      let parts = refusal_parts l.names budget x a says in
      let same : x ≡ error.Budget = exhausted_is x a.status (refusal_kind x a.status parts.0) h in
      let cause : IsRefused l (empty_journal budget) m error.Budget =
      subst (IsRefused l (empty_journal budget) m) same ends.1 in
      let told = subst (λ y. refusal_answer l.names budget y ≡ Some a) same says in
      record {
        free = cause.0;
        forms = cause.1;
        limit = ends.0;
        out = out_asked l p budget m.entries
            (subst (λ n. IsOut l None n m.entries) ends.0 cause.2);
        says = (refusal_parts l.names budget error.Budget a told).1;
      }
  exhausted_decided (undivided x) ends says h =
      let same : x ≡ engine_error.Budget = undivided_exhausted x a.status (division_is x says) h in
      let cause = subst (λ y. IsUndivided l p budget m y) same ends.1 in
      let told = subst (λ y. Says (undivided y)) same says in
      record {
        free = cause.0;
        forms = cause.1;
        limit = ends.0;
        out = cause.2;
        says = (division_parts budget engine_error.Budget a told).1;
      }
  exhausted_decided (yes qs) ends says h =
      absurd (let z = yes_alone qs says status.Budget h in let f : ⊥ = cc in f)
  exhausted_decided no ends says h =
      absurd (let z = no_alone says status.Budget h in let f : ⊥ = cc in f)

  exhausted_here : a.status ≡ status.Budget → IsExhaustedHere l p budget m a.text
  exhausted_here h = exhausted_decided asks.decision asks.ends asks.says h

  pub exhausted_out : a.status ≡ status.Budget → IsOut l (Some p) budget m.entries
  exhausted_out h = (exhausted_here h).out

  pub exhausted_asking : (text equation : List ℕ) → loop_of text ≡ Ok l
      → equation_in l.names equation ≡ Ok e → a.status ≡ status.Budget
      → IsExhaustedAsking text equation budget m a.text
  exhausted_asking text equation is_loop is_equation h =
      let s = exhausted_here h in
      record {
        asking = asking text equation is_loop is_equation;
        free = s.free;
        forms = s.forms;
        limit = s.limit;
        out = s.out;
        says = s.says;
      }

  -- ---- where each comes
  analysis : (x : AnalyseError) → Ends (unanalysed x) → Says (unanalysed x)
      → Analyses kinds.Basis l budget m a
  analysis x ends says = record { ending = refused x; ends = ends; says = says }

  -- what a question that came to the division knows
  divided_free : (d : Decision) → Ends d → Says d
      → Analyses kinds.Basis l budget m a ⊎ (AreFree l × AllHaveForms l)
  divided_free (unanalysed x) ends says = inl (analysis x ends says)
  divided_free (undivided engine_error.Wide) ends says = inr (ends.1.0, ends.1.1)
  divided_free (undivided engine_error.Budget) ends says = inr (ends.1.0, ends.1.1)
  divided_free (undivided engine_error.Memory) ends says = absurd (no_answer a says)
  divided_free (yes qs) ends says = inr (ends.1.divides.free, ends.1.divides.forms)
  divided_free no ends says = inr (ends.1.divides.free, ends.1.divides.forms)

  pub limit_asking : (at : ℕ) → IsLimit (length l.names) (maps_operations l) at
      → (a ≡ limit_of_loop at) ⊎ (a.status ≡ status.Wide)
  limit_asking at first = elim (divided_free asks.decision asks.ends asks.says) [
    | inl h ↦ limit_analysed kinds.Basis l budget at m a first h
    | inr known ↦ absurd (not_free (length l.names) (maps_operations l) at first known.0)
  ]

  pub unformed_asking : AreFree l → ¬ (AllHaveForms l)
      → (a.status ≡ status.Fault) ⊎ (a.status ≡ status.Wide)
  unformed_asking free not = elim (divided_free asks.decision asks.ends asks.says) [
    | inl h ↦ unformed_analysed kinds.Basis l budget m a free not h
    | inr known ↦ absurd (not known.1)
  ]

  pub branch_asking : AreFree l → (b : ℕ) (r : Refusal) → IsExact r → IsRefusedBranch l b r
      → (a ≡ branch_answer l.names b r) ⊎ (a.status ≡ status.Wide)
  branch_asking free b r exact first =
      elim (divided_free asks.decision asks.ends asks.says) [
        | inl h ↦ branch_analysed kinds.Basis l budget m a free b r exact first h
        | inr known ↦ absurd (no_form l (suc b) r exact first.is (known.1 b first.within))
      ]

  abbrev IsDecided : Type 0
  IsDecided = EndsDecided a.status l e

  by_yes : (qs : List (Terms Fraction)) → Ends (yes qs) → Says (yes qs) → IsDecided
  by_yes qs ends says =
      inl (status_of (is_positive qs says), (holds_invariant l e).0 ends.1.invariant)

  by_no : Ends no → Says no → IsDecided
  by_no ends says =
      inr (status_of (is_negative says), λ holds. ends.1.none ((holds_invariant l e).1 holds))

  undecided : (x : EngineError) → Says (undivided x)
      → (a.status ≡ status.Wide) ⊎ (a.status ≡ status.Budget)
  undecided x says = wide_or_exhausted x a.status (division_is x says)

  decided : AreFree l → AllSplit l → IsNeverLong l → (d : Decision) → Ends d → Says d
      → IsDecided ⊎ ((a.status ≡ status.Wide) ⊎ (a.status ≡ status.Budget))
  decided free split never (unanalysed x) ends says =
      elim (formed_analysed kinds.Basis l budget m a free split never (analysis x ends says)) [
        | inl is ↦ absurd (refused_yes x says is)
        | inr other ↦ inr other
      ]
  decided free split never (undivided x) ends says = inr (undecided x says)
  decided free split never (yes qs) ends says = inl (by_yes qs ends says)
  decided free split never no ends says = inl (by_no ends says)

  pub decided_asking : AreFree l → AllSplit l → IsNeverLong l
      → IsDecided ⊎ ((a.status ≡ status.Wide) ⊎ (a.status ≡ status.Budget))
  decided_asking free split never = decided free split never asks.decision asks.ends asks.says

  -- ---- where a task of the analysis is too long
  not_answered : ComesToLong l → (gs : List (Terms Fraction)) → Divides l p m gs → ⊥
  not_answered long gs d =
      never_long l None d.analysis d.rounds gs d.finished d.short long.entries long.state
      long.follows long.long

  long_ended : AreFree l → AllHaveForms l → ComesToLong l → (d : Decision) → Ends d → Says d
      → IsLongOr l m a
  long_ended free forms long (unanalysed x) ends says =
      long_analysed kinds.Basis l budget m a free forms long
      (record { ending = refused x; ends = ends; says = says })
  long_ended free forms long (undivided x) ends says = inr (undecided x says)
  long_ended free forms long (yes qs) ends says =
      absurd (not_answered long ends.1.list ends.1.divides)
  long_ended free forms long no ends says =
      absurd (not_answered long ends.1.list ends.1.divides)

  pub long_asking : AreFree l → AllHaveForms l → ComesToLong l → IsLongOr l m a
  long_asking free forms long = long_ended free forms long asks.decision asks.ends asks.says

  -- ---- where nothing is refused
  module _ (never : IsNeverRefused l) (narrow : NeverPast l p) (es : List Entry) (k : ℕ)
      (gs : List (Terms Fraction)) (last : division.State Fraction)
      (done : IsAnswered l p es k gs last) (few : units_of es ≤ budget) where
    -- an analysis that was refused kept within no budget
    never_refused : (x : AnalyseError) → Ends (unanalysed x) → Says (unanalysed x) → ⊥
    never_refused (error.Map (map_error.Limit at)) ends says =
        not_free (length l.names) (maps_operations l) at ends.1.1.1 never.free
    never_refused (error.Map (map_error.Wide at)) ends says = never.maps at ends.1.1.1
    never_refused (error.Map map_error.Memory) ends says = no_answer a says
    never_refused (error.Branch b x) ends says =
        let t = some_told (refusal_in x) (IsRefusedBranch l b) ends.1.1.1 in
        never.branches b t.0 t.1.within t.1.is
    never_refused (error.Limit task) ends says =
        let s = ends.1.2 in never.short m.entries s.state s.follows s.long
    never_refused (error.Wide task) ends says =
        let s = ends.1.2 in never.states m.entries s.state s.follows s.past
    never_refused error.Budget ends says =
        enough_asked l p es m.entries k budget gs last done few
        (out_asked l p budget m.entries (subst (λ n. IsOut l None n m.entries) ends.0 ends.1.2))
    never_refused error.Memory ends says = no_answer a says

    completed : (d : Decision) → Ends d → Says d → IsDecided
    completed (unanalysed x) ends says = absurd (never_refused x ends says)
    completed (undivided engine_error.Wide) ends says =
        let s = ends.1.2 in absurd (narrow m.entries s.state s.follows s.past)
    completed (undivided engine_error.Budget) ends says =
        absurd (enough_asked l p es m.entries k budget gs last done few ends.1.2)
    completed (undivided engine_error.Memory) ends says = absurd (no_answer a says)
    completed (yes qs) ends says = by_yes qs ends says
    completed no ends says = by_no ends says

    pub completed_asking : IsDecided
    completed_asking = completed asks.decision asks.ends asks.says
