-- What the answers to analyses show, and where each comes.
--   found_shown        a yes: the reduced basis of the loop's invariants, at the end of its analysis
--   closed_shown       with the cofactors of the divisions that closed it
--   out_shown          an exhausted budget: an analysis that ran out of units
--   unanalysed         any other answer: why the analysis was refused
--   status_told        the answer to a refusal has the refusal's status;  refused_not_yes: which isn't that of a yes
--   limit_analysed     the answer where an operation of the maps passes a limit
--   formed_analysed    where none does, each branch splits and no task is too long: a yes, or a number that doesn't fit, or an exhausted budget
--   formed             the same, by how the analysis ended
--   long_analysed      where a task is too long: this, of one that is, or a number that doesn't fit, or an exhausted budget
--   unformed_analysed  where not each branch has one: a fault, or a number that doesn't fit
--   all_analysed       where nothing refuses and a finished journal is within the budget: a yes
--   branch_analysed    where the first that has none is refused for a cause of its own: this refusal, or a number that doesn't fit
use Rattle.std.proofs.Common.{◌≡◌, ◌≢◌, ℕ, suc, List, length, refl, sym, ap, subst, ◌∙◌, Ok, ap₂, inl, inr, arith}
use Rattle.std.specs.Prelude.{◌⊎◌, ◌+◌, ◌++◌, Option, Some, None, IsSomeAnd, option_map, codes, decimal}
use Rattle.std.proofs.lemmas.Bool.{cases_lt}
use Rattle.machines.specs.Journal.{Journal}
use Rattle.loops.specs.Certificate.{Certificate}
use Rattle.loops.specs.Program.{Expr, Program}
use Rattle.poly_text.specs.Reasons.{limit}
use Rattle.loop_model.specs.Operations.{IsLimit}
use Rattle.loop_model.specs.declared.map_error.MapError.TheVariants as map_error
use Rattle.loop_model.specs.Maps.{maps_operations, AreFree}
use Rattle.loop_text.specs.LoopReader.{loop_of}
use Rattle.rounds.specs.BranchMap.{map_of}
use Rattle.rounds.specs.Journal.{IsOut}
use Rattle.rounds.proofs.BranchMaps.{branch_is_map}
use Rattle.rounds.proofs.Forms.{enough_budget}
use Rattle.rounds.proofs.Theorem.{finished_generates}
use Rattle.loop_text.proofs.WellFormed.{loop_well}
use Rattle.solvable.specs.Refusal.{IsSolvable}
use Rattle.closed_forms.specs.Lengths.{IsShort}
use Rattle.closed_forms.specs.Refusal.{AllPass, Refusal, not_solvable, eigenvalues, range, wide_split, limit_form, wide_form, IfFormRefused, refusal_in}
use Rattle.closed_forms.specs.declared.errors.FormsError.{FormsError}
use Rattle.journal.specs.declared.Task.{Task}
use Rattle.invariant_fix.specs.Refusals.{AllHaveForms, HasForm, IsRefusedBranch, TellsBranch, IsRefused}
use Rattle.invariant_fix.specs.declared.errors.AnalyseError.{AnalyseError}
use Rattle.invariant_fix.specs.declared.errors.AnalyseError.TheVariants as error
use Rattle.analysis_commands.specs.declared.kind.Kind.{Kind}
use Rattle.io_edge.specs.declared.answer.Status.{Status}
use Rattle.io_edge.specs.declared.answer.Status.TheVariants as status
use Rattle.analysis_commands.specs.Statuses.{cause_status, refusal_status}
use Rattle.io_edge.specs.Texts.{Answer, line, with_text}
use Rattle.analysis_commands.specs.Texts.{found_answer}
use Rattle.analysis_commands.specs.RefusalTexts.{place_text, cause_or_memory, refusal_answer, branch_answer}
use Rattle.analysis_commands.specs.LongTasks.{ComesToLong}
use Rattle.analysis_commands.proofs.LongTasks.{IsLongOr, never_long}
use Rattle.command_parts.specs.FaultTexts.{loop_refusal}
use Rattle.analysis_commands.specs.Headline.{ShowsAnalysis}
use Rattle.analysis_commands.specs.Analyses.{empty_journal, Ending, found, refused, EndsWith, answer_of, Analyses}
use Rattle.analysis_commands.specs.Completeness.{AllSplit}
use Rattle.analysis_commands.specs.Causes.{HasFinished, IsClosed, IsExhausted, IsNeverLong, IsNeverRefused, IsWithinBudget, IsExact, IsUnanalysed}
use Rattle.io_edge.proofs.OfStatuses.{status_of, text_of, no_answer}
use Rattle.analysis_commands.proofs.Refused.{refusal_parts, refusal_kind, Refused, at_fault, too_wide, exhausted}
use Rattle.command_parts.proofs.MapLimits.{limit_same, not_free}
use Rattle.analysis_commands.proofs.BranchRefusals.{map_not_both, no_form, refusal_one, some_told}

pub refused_not_yes : (e : AnalyseError) (s : Status) → Refused e s → s ≢ status.Yes
refused_not_yes e s (at_fault is) h = cc
refused_not_yes e s (too_wide is) h = cc
refused_not_yes e s (exhausted is same) h = cc

-- the refusal of an answer that tells an exhausted budget, and of one that doesn't
pub exhausted_is : (e : AnalyseError) (s : Status) → Refused e s → s ≡ status.Budget
    → e ≡ error.Budget
exhausted_is e s (at_fault is) h = absurd (cc)
exhausted_is e s (too_wide is) h = absurd (cc)
exhausted_is e s (exhausted is same) h = same

pub at_fault_or_wide : (e : AnalyseError) (s : Status) → Refused e s → (e ≡ error.Budget → ⊥)
    → (s ≡ status.Fault) ⊎ (s ≡ status.Wide)
at_fault_or_wide e s (at_fault is) not = inl is
at_fault_or_wide e s (too_wide is) not = inr is
at_fault_or_wide e s (exhausted is same) not = absurd (not same)

module _ (kind : Kind) (l : Program (Expr ℕ)) (budget : ℕ) (m : Journal) (a : Answer) where
  refused_kind : (e : AnalyseError) → answer_of kind l.names budget (refused e) ≡ Some a
      → Refused e a.status
  refused_kind e says = refusal_kind e a.status (refusal_parts l.names budget e a says).0

  found_same : (c : Certificate) → answer_of kind l.names budget (found c) ≡ Some a
      → found_answer kind l.names c ≡ a
  found_same c says = let told : Some (found_answer kind l.names c) ≡ Some a = says in cc

  module _ (text : List ℕ) (is : loop_of text ≡ Ok l) where
    shown : (e : Ending) → EndsWith l budget m kind e → answer_of kind l.names budget e ≡ Some a
        → a.status ≡ status.Yes → ShowsAnalysis kind text a.text × HasFinished text budget m
    shown (found c) ends says h = (
      record {
        loop = l;
        is_loop = is;
        certificate = c;
        says = sym (text_of (found_same c says));
        is_basis = ends.1.ended.basis;
        generates = finished_generates l
            (loop_well text l is).formed m.entries ends.1.ended.rounds c.basis
            ends.1.ended.finished;
        identities = ends.2;
        reads_back = ends.3;
      },
      record {
        loop = l;
        is_loop = is;
        free = ends.1.ended.free;
        limit = ends.0;
        rounds = ends.1.ended.rounds;
        list = c.basis;
        finished = ends.1.ended.finished;
        least = ends.1.ended.least;
        short = ends.1.ended.short;
      },
    )
    shown (refused e) ends says h = absurd (refused_not_yes e a.status (refused_kind e says) h)

    closed : (e : Ending) → EndsWith l budget m kind e → answer_of kind l.names budget e ≡ Some a
        → a.status ≡ status.Yes → IsClosed kind text m a.text
    closed (found c) ends says h = record {
      loop = l;
      is_loop = is;
      certificate = c;
      rounds = ends.1.ended.rounds;
      finished = ends.1.ended.finished;
      steps = ends.1.steps;
      says = sym (text_of (found_same c says));
    }
    closed (refused e) ends says h = absurd (refused_not_yes e a.status (refused_kind e says) h)

    out : (e : Ending) → EndsWith l budget m kind e → answer_of kind l.names budget e ≡ Some a
        → a.status ≡ status.Budget → IsExhausted text budget m a.text
    out (found c) ends says h =
        absurd (let x : status.Yes ≡ status.Budget = status_of (found_same c says) ∙ h in cc)
    out (refused e) ends says h =
        let same : e ≡ error.Budget = exhausted_is e a.status (refused_kind e says) h in
        let cause : IsRefused l (empty_journal budget) m error.Budget =
        subst (IsRefused l (empty_journal budget) m) same ends.1 in
        record {
          loop = l;
          is_loop = is;
          free = cause.0;
          forms = cause.1;
          limit = ends.0;
          out = subst (λ n. IsOut l None n m.entries) ends.0 cause.2;
          says = (refusal_parts l.names budget error.Budget a
              (subst (λ x. refusal_answer l.names budget x ≡ Some a) same says)).1;
        }

    cause : (e : Ending) → EndsWith l budget m kind e → answer_of kind l.names budget e ≡ Some a
        → a.status ≢ status.Yes → IsUnanalysed text budget m a
    cause (found c) ends says not = absurd (not (sym (status_of (found_same c says))))
    cause (refused e) ends says not =
        record { loop = l; is_loop = is; refused = record { error = e; ends = ends; says = says } }

  -- ---- where each comes
  pub status_told : (e : AnalyseError) (s : Status) → refusal_status e ≡ Some s
      → answer_of kind l.names budget (refused e) ≡ Some a → a.status ≡ s
  status_told e s is says = let x : refusal_status e ≡ Some a.status =
      (refusal_parts l.names budget e a says).0 in let y : Some a.status ≡ Some s = sym x ∙ is in cc

  pub limited : (at : ℕ) → IsLimit (length l.names) (maps_operations l) at → (e : Ending)
      → EndsWith l budget m kind e → answer_of kind l.names budget e ≡ Some a
      → (a ≡ loop_refusal (record { reason = limit; at = at })) ⊎ (a.status ≡ status.Wide)
  limited at first (found c) ends says =
      absurd (not_free (length l.names) (maps_operations l) at first ends.1.ended.free)
  limited at first (refused (error.Map (map_error.Limit other))) ends says =
      let is : Some (loop_refusal (record { reason = limit; at = other })) ≡ Some a = says in
      let told : loop_refusal (record { reason = limit; at = other }) ≡ a = cc in
      inl (sym told ∙ ap (λ k. loop_refusal (record { reason = limit; at = k }))
      (limit_same (length l.names) (maps_operations l) other at ends.1.1.1 first))
  limited at first (refused (error.Map (map_error.Wide other))) ends says =
      inr (status_told (error.Map (map_error.Wide other)) status.Wide refl says)
  limited at first (refused (error.Map map_error.Memory)) ends says = absurd (no_answer a says)
  limited at first (refused (error.Branch b e)) ends says =
      absurd (not_free (length l.names) (maps_operations l) at first ends.1.1.0)
  limited at first (refused (error.Limit task)) ends says =
      absurd (not_free (length l.names) (maps_operations l) at first ends.1.0)
  limited at first (refused (error.Wide task)) ends says =
      absurd (not_free (length l.names) (maps_operations l) at first ends.1.0)
  limited at first (refused error.Budget) ends says =
      absurd (not_free (length l.names) (maps_operations l) at first ends.1.0)
  limited at first (refused error.Memory) ends says = absurd (no_answer a says)

  -- a branch that is solvable, and whose classes split, isn't at fault
  branch_wide : (b : ℕ) (r : Refusal)
      → IsSolvable (map_of l (suc b)) × AllPass (map_of l (suc b)) × IsShort (map_of l (suc b))
      → IfFormRefused (map_of l (suc b)) r → cause_status r ≡ status.Wide
  branch_wide b (not_solvable cycle) has is = absurd (has.0 cycle is.cycle)
  branch_wide b (eigenvalues class) has is = absurd (is.1.0 (has.1 class is.0.is).splits)
  branch_wide b (range class sum) has is =
      let within = (has.1 class is.0.is).within is.1.0 in
      absurd (omega (arith, within, is.1.2))
  branch_wide b (wide_split class candidate power row) has is = refl
  branch_wide b (limit_form variable) has is =
      absurd (map_not_both (map_of l (suc b)) (branch_is_map l (suc b)) variable is.long has.2)
  branch_wide b (wide_form variable) has is = refl

  -- what a refused branch is answered
  told_branch : (b : ℕ) (e : FormsError) → TellsBranch l b e
      → refusal_answer l.names budget (error.Branch b e) ≡ Some a
      → (r : Refusal) × IsRefusedBranch l b r × (a ≡ branch_answer l.names b r)
  told_branch b e t says = go (refusal_in e) t says
    where
      go : (o : Option Refusal) → IsSomeAnd o (IsRefusedBranch l b)
          → option_map (λ s. with_text s (line (codes "branch " ++ decimal (b + 1) ++ codes ": "
          ++ cause_or_memory l.names o))) (option_map cause_status o) ≡ Some a
          → (r : Refusal) × IsRefusedBranch l b r × (a ≡ branch_answer l.names b r)
      go None t says = absurd t
      go (Some r) t says =
          (r, t, (let both : Some (branch_answer l.names b r) ≡ Some a = says in cc))

  -- no task is too long
  abbrev pub IsUnlimited : Ending → Type 0
  IsUnlimited e = (task : Task) → e ≡ refused (error.Limit task) → ⊥

  unlimited : IsNeverLong l → (e : Ending) → EndsWith l budget m kind e → IsUnlimited e
  unlimited never e ends task same =
      let s = (subst (EndsWith l budget m kind) same ends).1.2 in
      never m.entries s.state s.follows s.long

  pub formed : AreFree l → AllSplit l → (e : Ending) → IsUnlimited e → EndsWith l budget m kind e
      → answer_of kind l.names budget e ≡ Some a → (a.status ≡ status.Yes)
      ⊎ ((a.status ≡ status.Wide) ⊎ (a.status ≡ status.Budget))
  formed free forms (found c) short ends says = inl (sym (status_of (found_same c says)))
  formed free forms (refused (error.Map (map_error.Limit at))) short ends says =
      absurd (not_free (length l.names) (maps_operations l) at ends.1.1.1 free)
  formed free forms (refused (error.Map (map_error.Wide at))) short ends says =
      inr (inl (status_told (error.Map (map_error.Wide at)) status.Wide refl says))
  formed free forms (refused (error.Map map_error.Memory)) short ends says =
      absurd (no_answer a says)
  formed free forms (refused (error.Branch b e)) short ends says =
      let t = told_branch b e ends.1.1.1 says in
      inr (inl (status_of t.2 ∙ branch_wide b t.0 (forms b t.1.within) t.1.is))
  formed free forms (refused (error.Limit task)) short ends says = absurd (short task refl)
  formed free forms (refused (error.Wide task)) short ends says =
      inr (inl (status_told (error.Wide task) status.Wide refl says))
  formed free forms (refused error.Budget) short ends says =
      inr (inr (status_told error.Budget status.Budget refl says))
  formed free forms (refused error.Memory) short ends says = absurd (no_answer a says)

  -- where a task is too long, this is told of one that is, but for numbers that don't fit and an
  -- exhausted budget
  long_ended : AreFree l → AllHaveForms l → ComesToLong l → (e : Ending)
      → EndsWith l budget m kind e → answer_of kind l.names budget e ≡ Some a → IsLongOr l m a
  long_ended free forms long (found c) ends says =
      let h = ends.1.ended in
      absurd (never_long l None m.entries h.rounds c.basis h.finished h.short long.entries
      long.state long.follows long.long)
  long_ended free forms long (refused (error.Map (map_error.Limit at))) ends says =
      absurd (not_free (length l.names) (maps_operations l) at ends.1.1.1 free)
  long_ended free forms long (refused (error.Map (map_error.Wide at))) ends says =
      inr (inl (status_told (error.Map (map_error.Wide at)) status.Wide refl says))
  long_ended free forms long (refused (error.Map map_error.Memory)) ends says =
      absurd (no_answer a says)
  long_ended free forms long (refused (error.Branch b e)) ends says =
      let t = told_branch b e ends.1.1.1 says in
      let h = forms b t.1.within in
      inr (inl (status_of t.2 ∙ branch_wide b t.0 (h.solvable, h.pass, h.short) t.1.is))
  long_ended free forms long (refused (error.Limit task)) ends says =
      inl (
        status_told (error.Limit task) status.Fault refl says,
        record {
          place = place_text task;
          says = (refusal_parts l.names budget (error.Limit task) a says).1;
          long = record { task = task; at = refl; long = ends.1.2 };
        },
      )
  long_ended free forms long (refused (error.Wide task)) ends says =
      inr (inl (status_told (error.Wide task) status.Wide refl says))
  long_ended free forms long (refused error.Budget) ends says =
      inr (inr (status_told error.Budget status.Budget refl says))
  long_ended free forms long (refused error.Memory) ends says = absurd (no_answer a says)

  unformed : AreFree l → ¬ (AllHaveForms l) → (e : Ending) → EndsWith l budget m kind e
      → answer_of kind l.names budget e ≡ Some a → (a.status ≡ status.Fault)
      ⊎ (a.status ≡ status.Wide)
  unformed free not (found c) ends says = absurd (not ends.1.ended.forms)
  unformed free not (refused e) ends says =
      at_fault_or_wide e a.status (refused_kind e says)
      (λ same. not (subst (IsRefused l (empty_journal budget) m) same ends.1).1)

  completed : IsNeverRefused l → IsWithinBudget l budget → (e : Ending)
      → EndsWith l budget m kind e → answer_of kind l.names budget e ≡ Some a
      → a.status ≡ status.Yes
  completed never within (found c) ends says = sym (status_of (found_same c says))
  completed never within (refused (error.Map (map_error.Limit at))) ends says =
      absurd (not_free (length l.names) (maps_operations l) at ends.1.1.1 never.free)
  completed never within (refused (error.Map (map_error.Wide at))) ends says =
      absurd (never.maps at ends.1.1.1)
  completed never within (refused (error.Map map_error.Memory)) ends says =
      absurd (no_answer a says)
  completed never within (refused (error.Branch b e)) ends says =
      let t = some_told (refusal_in e) (IsRefusedBranch l b) ends.1.1.1 in
      absurd (never.branches b t.0 t.1.within t.1.is)
  completed never within (refused (error.Limit task)) ends says = let s = ends.1.2 in
      absurd (never.short m.entries s.state s.follows s.long)
  completed never within (refused (error.Wide task)) ends says = let s = ends.1.2 in
      absurd (never.states m.entries s.state s.follows s.past)
  completed never within (refused error.Budget) ends says =
      absurd (enough_budget l None within.entries m.entries within.rounds budget within.list
      within.finished within.few (subst (λ n. IsOut l None n m.entries) ends.0 ends.1.2))
  completed never within (refused error.Memory) ends says = absurd (no_answer a says)

  -- the first branch that has no closed form
  module _ (free : AreFree l) (b : ℕ) (r : Refusal) (exact : IsExact r)
      (first : IsRefusedBranch l b r) where
    has_split : {c : ℕ} → HasForm l c → IsSolvable (map_of l c) × AllPass (map_of l c)
        × IsShort (map_of l c)
    has_split h = (h.solvable, h.pass, h.short)

    abbrev Told : Type 0
    Told = (a ≡ branch_answer l.names b r) ⊎ (a.status ≡ status.Wide)

    at_branch : (b' : ℕ) (r' : Refusal) → b ≡ b' → IsRefusedBranch l b' r'
        → a ≡ branch_answer l.names b' r' → Told
    at_branch b' r' same is says =
        let here = subst (λ k. IfFormRefused (map_of l (suc k)) r') (sym same) is.is in
        elim (refusal_one (map_of l (suc b)) (branch_is_map l (suc b)) r' r exact first.is here) [
          | inl one ↦ inl (says ∙ ap₂ (branch_answer l.names) (sym same) one)
          | inr wide ↦ inr (status_of says ∙ wide)
        ]

    of_branch : (b' : ℕ) (r' : Refusal) → IsRefusedBranch l b' r'
        → a ≡ branch_answer l.names b' r' → Told
    of_branch b' r' is says = elim (cases_lt b' b) [
      | inl earlier ↦
          inr (status_of says ∙ branch_wide b' r' (has_split (first.before b' earlier)) is.is)
      | inr l1 ↦ elim (cases_lt b b') [
        | inl later ↦ absurd (no_form l (suc b) r exact first.is (is.before b later))
        | inr l2 ↦ at_branch b' r' (omega (arith, l1, l2)) is says
      ]
    ]

    pub branch_told : (x : Ending) → EndsWith l budget m kind x
        → answer_of kind l.names budget x ≡ Some a → Told
    branch_told (found c) ends says =
        absurd (no_form l (suc b) r exact first.is (ends.1.ended.forms b first.within))
    branch_told (refused (error.Map (map_error.Limit at))) ends says =
        absurd (not_free (length l.names) (maps_operations l) at ends.1.1.1 free)
    branch_told (refused (error.Map (map_error.Wide at))) ends says =
        inr (status_told (error.Map (map_error.Wide at)) status.Wide refl says)
    branch_told (refused (error.Map map_error.Memory)) ends says = absurd (no_answer a says)
    branch_told (refused (error.Branch b' e')) ends says =
        let t = told_branch b' e' ends.1.1.1 says in of_branch b' t.0 t.1 t.2
    branch_told (refused (error.Limit task)) ends says =
        absurd (no_form l (suc b) r exact first.is (ends.1.1 b first.within))
    branch_told (refused (error.Wide task)) ends says =
        inr (status_told (error.Wide task) status.Wide refl says)
    branch_told (refused error.Budget) ends says =
        absurd (no_form l (suc b) r exact first.is (ends.1.1 b first.within))
    branch_told (refused error.Memory) ends says = absurd (no_answer a says)

pub found_shown : (kind : Kind) (text : List ℕ) (l : Program (Expr ℕ)) (budget : ℕ) (m : Journal)
    (a : Answer) → loop_of text ≡ Ok l → Analyses kind l budget m a → a.status ≡ status.Yes
    → ShowsAnalysis kind text a.text × HasFinished text budget m
found_shown kind text l budget m a is h = shown kind l budget m a text is h.ending h.ends h.says

pub closed_shown : (kind : Kind) (text : List ℕ) (l : Program (Expr ℕ)) (budget : ℕ) (m : Journal)
    (a : Answer) → loop_of text ≡ Ok l → Analyses kind l budget m a → a.status ≡ status.Yes
    → IsClosed kind text m a.text
closed_shown kind text l budget m a is h = closed kind l budget m a text is h.ending h.ends h.says

pub out_shown : (kind : Kind) (text : List ℕ) (l : Program (Expr ℕ)) (budget : ℕ) (m : Journal)
    (a : Answer) → loop_of text ≡ Ok l → Analyses kind l budget m a → a.status ≡ status.Budget
    → IsExhausted text budget m a.text
out_shown kind text l budget m a is h = out kind l budget m a text is h.ending h.ends h.says

pub unanalysed : (kind : Kind) (text : List ℕ) (l : Program (Expr ℕ)) (budget : ℕ) (m : Journal)
    (a : Answer) → loop_of text ≡ Ok l → Analyses kind l budget m a → a.status ≢ status.Yes
    → IsUnanalysed text budget m a
unanalysed kind text l budget m a is h = cause kind l budget m a text is h.ending h.ends h.says

pub limit_analysed : (kind : Kind) (l : Program (Expr ℕ)) (budget at : ℕ) (m : Journal) (a : Answer)
    → IsLimit (length l.names) (maps_operations l) at → Analyses kind l budget m a
    → (a ≡ loop_refusal (record { reason = limit; at = at })) ⊎ (a.status ≡ status.Wide)
limit_analysed kind l budget at m a first h =
    limited kind l budget m a at first h.ending h.ends h.says

pub formed_analysed : (kind : Kind) (l : Program (Expr ℕ)) (budget : ℕ) (m : Journal) (a : Answer)
    → AreFree l → AllSplit l → IsNeverLong l → Analyses kind l budget m a
    → (a.status ≡ status.Yes) ⊎ ((a.status ≡ status.Wide) ⊎ (a.status ≡ status.Budget))
formed_analysed kind l budget m a free forms never h =
    formed kind l budget m a free forms h.ending
    (unlimited kind l budget m a never h.ending h.ends) h.ends h.says

pub unformed_analysed : (kind : Kind) (l : Program (Expr ℕ)) (budget : ℕ) (m : Journal) (a : Answer)
    → AreFree l → ¬ (AllHaveForms l) → Analyses kind l budget m a
    → (a.status ≡ status.Fault) ⊎ (a.status ≡ status.Wide)
unformed_analysed kind l budget m a free not h =
    unformed kind l budget m a free not h.ending h.ends h.says

pub branch_analysed : (kind : Kind) (l : Program (Expr ℕ)) (budget : ℕ) (m : Journal) (a : Answer)
    → AreFree l → (b : ℕ) (r : Refusal) → IsExact r → IsRefusedBranch l b r
    → Analyses kind l budget m a → (a ≡ branch_answer l.names b r) ⊎ (a.status ≡ status.Wide)
branch_analysed kind l budget m a free b r exact first h =
    branch_told kind l budget m a free b r exact first h.ending h.ends h.says

pub all_analysed : (kind : Kind) (l : Program (Expr ℕ)) (budget : ℕ) (m : Journal) (a : Answer)
    → IsNeverRefused l → IsWithinBudget l budget → Analyses kind l budget m a
    → a.status ≡ status.Yes
all_analysed kind l budget m a never within h =
    completed kind l budget m a never within h.ending h.ends h.says

pub long_analysed : (kind : Kind) (l : Program (Expr ℕ)) (budget : ℕ) (m : Journal) (a : Answer)
    → AreFree l → AllHaveForms l → ComesToLong l → Analyses kind l budget m a → IsLongOr l m a
long_analysed kind l budget m a free forms long h =
    long_ended kind l budget m a free forms long h.ending h.ends h.says
