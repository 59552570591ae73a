-- What the answers of `relations` show, and where each comes.
--   relates_settled, relates_not_no     their statuses
--   related_shown      a yes: the reduced basis of the relations, at the end of the journal
--   exhausted_shown        an exhausted budget: a journal that ran out of units
--   unrelated          any other answer: why there are no relations
--   limit_related      the answer where an operation of the maps passes a limit
--   formed_related     where none does and the branch splits: a yes, or a number that doesn't fit, or an exhausted budget
--   unformed_related   where the branch has no closed form: a fault, or a number that doesn't fit
--   branch_related     where it is refused for a cause of its own: this refusal, or a number that doesn't fit
--   all_related        where nothing refuses and some journal that has ended is within the budget: a yes
--   related_within     no budget is exhausted where some journal that has ended is within it
use Rattle.std.proofs.Common.{◌≡◌, ◌≢◌, ℕ, suc, List, length, refl, sym, ap, subst, ◌∙◌, Ok, inl, inr}
use Rattle.std.specs.Prelude.{◌⊎◌, Some, ◌++◌, codes, decimal}
use Rattle.algebra.specs.Fraction.{Fraction}
use Rattle.polynomials.specs.Terms.{Terms}
use Rattle.machines.specs.Journal.{Journal}
use Rattle.loops.specs.Program.{Expr}
use Rattle.poly_text.specs.Reasons.{limit, wide}
use Rattle.loop_model.specs.Operations.{IsLimit}
use Rattle.loop_model.specs.declared.map_error.MapError.{MapError}
use Rattle.loop_model.specs.declared.map_error.MapError.TheVariants as map_error
use Rattle.loop_model.specs.Maps.{maps_operations, AreFree}
use Rattle.closed_forms.specs.Refusal.{Refusal, refusal_in}
use Rattle.invariant_fix.specs.Refusals.{AllHaveForms, IsRefusedBranch}
use Rattle.invariant_fix.specs.declared.errors.AnalyseError.{AnalyseError}
use Rattle.invariant_fix.specs.declared.errors.AnalyseError.TheVariants as error
use Rattle.loops.specs.Sequences.{Sequence, sequence_names}
use Rattle.loops.specs.Turning.{names, program_of, first_places}
use Rattle.corollaries.specs.Journal.{IsOut}
use Rattle.corollaries.proofs.Budgets.{enough_budget}
use Rattle.loop_text.specs.SeqReader.{sequences_of}
use Rattle.invariant_fix.specs.declared.relations_error.RelationsError.{RelationsError}
use Rattle.invariant_fix.specs.declared.relations_error.RelationsError.TheVariants as relating
use Rattle.command_parts.proofs.MapLimits.{limit_same, not_free}
use Rattle.io_edge.specs.declared.answer.Status.TheVariants as status
use Rattle.io_edge.specs.Texts.{Answer, line}
use Rattle.io_edge.specs.Settled.{IsSettled}
use Rattle.io_edge.proofs.OfStatuses.{status_of, text_of, some_status, no_answer, settled_yes, settled_budget, refusing_fault, refusing_wide}
use Rattle.analysis_commands.specs.declared.kind.Kind.TheVariants as kinds
use Rattle.analysis_commands.specs.Analyses as analysing
use Rattle.analysis_commands.specs.Analyses.{Analyses}
use Rattle.analysis_commands.specs.Causes.{IsNeverLong, IsExact}
use Rattle.analysis_commands.specs.Completeness.{AllSplit}
use Rattle.analysis_commands.specs.RefusalTexts.{refusal_answer, branch_answer}
use Rattle.analysis_commands.specs.RelationsTexts.{sequences_refusal, map_answer, found_answer, wide_answer, relations_refusal}
use Rattle.analysis_commands.specs.RelationsAnswers.{Ending, related, refused, EndsWith, answer_of, Relates}
use Rattle.analysis_commands.specs.RelationsClauses.{HasEnded, IsExhaustedRelating, IsUnrelated, IsRelatedWithin, IsNeverStopped}
use Rattle.analysis_commands.specs.RelationsHeadline.{ShowsRelations}
use Rattle.analysis_commands.proofs.Refused.{refusal_parts, refusal_kind, at_fault, too_wide, exhausted}
use Rattle.analysis_commands.proofs.Refused as refusals
use Rattle.analysis_commands.proofs.Analysing.{formed_analysed, branch_analysed}
use Rattle.analysis_commands.proofs.BranchRefusals.{no_form, some_told}

-- a refusal is a fault, a number that doesn't fit, or an exhausted budget
data Kind (e : RelationsError) (a : Answer) : Type 0 where
  a_fault : a.status ≡ status.Fault → Kind e a
  a_width : a.status ≡ status.Wide → Kind e a
  a_budget : a.status ≡ status.Budget
      → (e ≡ relating.Budget) ⊎ (e ≡ relating.Analysis error.Budget) → Kind e a

map_wide : (a : Answer) (at : ℕ) → map_answer (map_error.Wide at) ≡ Some a
    → a.status ≡ status.Wide
map_wide a at says =
    let told : Some (sequences_refusal (record { reason = wide; at = at })) ≡ Some a = says in
    let same : sequences_refusal (record { reason = wide; at = at }) ≡ a = cc in
    sym (status_of same)

module _ (ns : List (List ℕ)) (budget : ℕ) (a : Answer) where
  map_kind : (e : MapError) → map_answer e ≡ Some a
      → Kind (relating.Analysis (error.Map e)) a
  map_kind (map_error.Limit at) says =
      let told : Some (sequences_refusal (record { reason = limit; at = at })) ≡ Some a = says in
      let same : sequences_refusal (record { reason = limit; at = at }) ≡ a = cc in
      a_fault (sym (status_of same))
  map_kind (map_error.Wide at) says = a_width (map_wide a at says)
  map_kind map_error.Memory says = absurd (no_answer a says)

  -- as the analysis answers
  as_analysis : (e : AnalyseError) → (e ≡ error.Budget → ⊥)
      → refusal_answer ns budget e ≡ Some a → Kind (relating.Analysis e) a
  as_analysis e not says = go (refusal_kind e a.status (refusal_parts ns budget e a says).0)
    where
      go : refusals.Refused e a.status → Kind (relating.Analysis e) a
      go (at_fault is) = a_fault is
      go (too_wide is) = a_width is
      go (exhausted is same) = absurd (not same)

  budget_status : refusal_answer ns budget error.Budget ≡ Some a → a.status ≡ status.Budget
  budget_status says = some_status _ a.status (refusal_parts ns budget error.Budget a says).0

  kind_of : (e : RelationsError) → relations_refusal ns budget e ≡ Some a → Kind e a
  kind_of (relating.Analysis (error.Map e)) says = map_kind e says
  kind_of (relating.Analysis (error.Branch b e)) says =
      as_analysis (error.Branch b e) (λ h. cc) says
  kind_of (relating.Analysis (error.Limit task)) says =
      as_analysis (error.Limit task) (λ h. cc) says
  kind_of (relating.Analysis (error.Wide task)) says = as_analysis (error.Wide task) (λ h. cc) says
  kind_of (relating.Analysis error.Budget) says = a_budget (budget_status says) (inr refl)
  kind_of (relating.Analysis error.Memory) says = absurd (no_answer a says)
  kind_of relating.Wide says =
      a_width (let x : Some wide_answer ≡ Some a = says in
      let same : wide_answer ≡ a = cc in sym (status_of same))
  kind_of relating.Budget says = a_budget (budget_status says) (inl refl)
  kind_of relating.Memory says = absurd (no_answer a says)

  exhausted_text : (e : RelationsError)
      → (e ≡ relating.Budget) ⊎ (e ≡ relating.Analysis error.Budget)
      → relations_refusal ns budget e ≡ Some a
      → a.text ≡ line (codes "budget: " ++ decimal budget)
  exhausted_text e (inl is) says = (refusal_parts ns budget error.Budget a
      (subst (λ x. relations_refusal ns budget x ≡ Some a) is says)).1
  exhausted_text e (inr is) says = (refusal_parts ns budget error.Budget a
      (subst (λ x. relations_refusal ns budget x ≡ Some a) is says)).1

kind_settled : (e : RelationsError) (a : Answer) → Kind e a → IsSettled a.status
kind_settled e a (a_fault is) = (refusing_fault a.status is).plain.settled
kind_settled e a (a_width is) = (refusing_wide a.status is).plain.settled
kind_settled e a (a_budget is same) = settled_budget a.status is

kind_not_no : (e : RelationsError) (a : Answer) → Kind e a → a.status ≢ status.No
kind_not_no e a (a_fault is) h = cc
kind_not_no e a (a_width is) h = cc
kind_not_no e a (a_budget is same) h = cc

kind_not_yes : (e : RelationsError) (a : Answer) → Kind e a → a.status ≢ status.Yes
kind_not_yes e a (a_fault is) h = cc
kind_not_yes e a (a_width is) h = cc
kind_not_yes e a (a_budget is same) h = cc

module _ (qs : List (Sequence (Expr ℕ))) (budget : ℕ) (m : Journal) (a : Answer) where
  found_same : (gs : List (Terms Fraction)) → answer_of qs budget (related gs) ≡ Some a
      → found_answer (sequence_names qs) gs ≡ a
  found_same gs says =
      let told : Some (found_answer (sequence_names qs) gs) ≡ Some a = says in cc

  yes_of : (gs : List (Terms Fraction)) → answer_of qs budget (related gs) ≡ Some a
      → a.status ≡ status.Yes
  yes_of gs says = sym (status_of (found_same gs says))

  refused_kind : (e : RelationsError) → answer_of qs budget (refused e) ≡ Some a → Kind e a
  refused_kind e says = kind_of (names qs) budget a e says

  settled : (e : Ending) → answer_of qs budget e ≡ Some a → IsSettled a.status
  settled (related gs) says = settled_yes a.status (yes_of gs says)
  settled (refused e) says = kind_settled e a (refused_kind e says)

  not_no : (e : Ending) → answer_of qs budget e ≡ Some a → a.status ≢ status.No
  not_no (related gs) says h =
      let x : status.Yes ≡ status.No = sym (yes_of gs says) ∙ h in let z : ⊥ = cc in z
  not_no (refused e) says h = kind_not_no e a (refused_kind e says) h

  -- what an exhausted budget tells
  record IsOutOf : Type 0 where
    free : AreFree (program_of qs)
    forms : AllHaveForms (program_of qs)
    out : IsOut (program_of qs) (first_places 0 qs) budget m.entries

  out_of : (e : RelationsError) → EndsWith qs budget m (refused e)
      → (e ≡ relating.Budget) ⊎ (e ≡ relating.Analysis error.Budget) → IsOutOf
  out_of e ends (inl is) =
      let h : EndsWith qs budget m (refused relating.Budget) =
      subst (λ x. EndsWith qs budget m (refused x)) is ends in
      record {
        free = h.1.0;
        forms = h.1.1;
        out = subst (λ n. IsOut (program_of qs) (first_places 0 qs) n m.entries) h.0 h.1.2;
      }
  out_of e ends (inr is) =
      let h : EndsWith qs budget m (refused (relating.Analysis error.Budget)) =
      subst (λ x. EndsWith qs budget m (refused x)) is ends in
      record {
        free = h.1.0;
        forms = h.1.1;
        out = subst (λ n. IsOut (program_of qs) (first_places 0 qs) n m.entries) h.0 (inl h.1.2);
      }

  module _ (text : List ℕ) (is : sequences_of text ≡ Ok qs) where
    yes_shown : (e : Ending) → EndsWith qs budget m e → answer_of qs budget e ≡ Some a
        → a.status ≡ status.Yes → ShowsRelations text a.text × HasEnded text budget m
    yes_shown (related gs) ends says h = (
      record {
        sequences = qs;
        are_sequences = is;
        formed = ends.1.formed;
        list = gs;
        says = sym (text_of (found_same gs says));
        basis = ends.1.basis;
        generates = ends.1.generates;
        reads_back = ends.2;
      },
      record {
        sequences = qs;
        are_sequences = is;
        free = ends.1.free;
        limit = ends.0;
        list = gs;
        ended = ends.1.ended;
      },
    )
    yes_shown (refused e) ends says h = absurd (kind_not_yes e a (refused_kind e says) h)

    exhausted_kind : (e : RelationsError) → EndsWith qs budget m (refused e)
        → relations_refusal (names qs) budget e ≡ Some a → Kind e a
        → a.status ≡ status.Budget → IsExhaustedRelating text budget m a.text
    exhausted_kind e ends says (a_fault f) h = absurd (cc)
    exhausted_kind e ends says (a_width f) h = absurd (cc)
    exhausted_kind e ends says (a_budget f same) h =
        let o = out_of e ends same in
        record {
          sequences = qs;
          are_sequences = is;
          free = o.free;
          forms = o.forms;
          limit = ends.0;
          out = o.out;
          says = exhausted_text (names qs) budget a e same says;
        }

    exhausted_at : (e : Ending) → EndsWith qs budget m e → answer_of qs budget e ≡ Some a
        → a.status ≡ status.Budget → IsExhaustedRelating text budget m a.text
    exhausted_at (related gs) ends says h =
        absurd (let x : status.Yes ≡ status.Budget = sym (yes_of gs says) ∙ h in cc)
    exhausted_at (refused e) ends says h = exhausted_kind e ends says (refused_kind e says) h

    cause_at : (e : Ending) → EndsWith qs budget m e → answer_of qs budget e ≡ Some a
        → a.status ≢ status.Yes → IsUnrelated text budget m a
    cause_at (related gs) ends says not = absurd (not (yes_of gs says))
    cause_at (refused e) ends says not = record {
      sequences = qs;
      are_sequences = is;
      unfound = record { error = e; ends = ends; says = says };
    }

  -- ---- where each comes
  elimination_wide : relations_refusal (names qs) budget relating.Wide ≡ Some a
      → a.status ≡ status.Wide
  elimination_wide says = let x : Some wide_answer ≡ Some a = says in
      let same : wide_answer ≡ a = cc in sym (status_of same)

  limited : (at : ℕ) → IsLimit (length (names qs)) (maps_operations (program_of qs)) at
      → (e : Ending) → EndsWith qs budget m e → answer_of qs budget e ≡ Some a
      → (a ≡ sequences_refusal (record { reason = limit; at = at })) ⊎ (a.status ≡ status.Wide)
  limited at first (related gs) ends says =
      absurd (not_free (length (names qs)) (maps_operations (program_of qs)) at first ends.1.free)
  limited at first (refused (relating.Analysis (error.Map (map_error.Limit other)))) ends says =
      let is : Some (sequences_refusal (record { reason = limit; at = other })) ≡ Some a = says in
      let told : sequences_refusal (record { reason = limit; at = other }) ≡ a = cc in
      inl (sym told ∙ ap (λ k. sequences_refusal (record { reason = limit; at = k }))
      (limit_same (length (names qs)) (maps_operations (program_of qs)) other at ends.1.1.1 first))
  limited at first (refused (relating.Analysis (error.Map (map_error.Wide other)))) ends says =
      inr (map_wide a other says)
  limited at first (refused (relating.Analysis (error.Map map_error.Memory))) ends says =
      absurd (no_answer a says)
  limited at first (refused (relating.Analysis (error.Branch b e))) ends says =
      absurd (not_free (length (names qs)) (maps_operations (program_of qs)) at first ends.1.1.0)
  limited at first (refused (relating.Analysis (error.Limit task))) ends says =
      absurd (not_free (length (names qs)) (maps_operations (program_of qs)) at first ends.1.0)
  limited at first (refused (relating.Analysis (error.Wide task))) ends says =
      absurd (not_free (length (names qs)) (maps_operations (program_of qs)) at first ends.1.0)
  limited at first (refused (relating.Analysis error.Budget)) ends says =
      absurd (not_free (length (names qs)) (maps_operations (program_of qs)) at first ends.1.0)
  limited at first (refused (relating.Analysis error.Memory)) ends says = absurd (no_answer a says)
  limited at first (refused relating.Wide) ends says =
      absurd (not_free (length (names qs)) (maps_operations (program_of qs)) at first ends.1.0)
  limited at first (refused relating.Budget) ends says =
      absurd (not_free (length (names qs)) (maps_operations (program_of qs)) at first ends.1.0)
  limited at first (refused relating.Memory) ends says = absurd (no_answer a says)

  -- a refusal that is told as `basis` tells it
  analysed : (e : AnalyseError) → EndsWith qs budget m (refused (relating.Analysis e))
      → refusal_answer (names qs) budget e ≡ Some a
      → Analyses kinds.Basis (program_of qs) budget m a
  analysed e ends says = record {
    ending = analysing.refused e;
    ends = (ends.0, ends.1);
    says = says;
  }

  formed : AreFree (program_of qs) → AllSplit (program_of qs) → IsNeverLong (program_of qs)
      → (e : Ending)
      → EndsWith qs budget m e → answer_of qs budget e ≡ Some a
      → (a.status ≡ status.Yes) ⊎ ((a.status ≡ status.Wide) ⊎ (a.status ≡ status.Budget))
  formed free split never (related gs) ends says = inl (yes_of gs says)
  formed free split never (refused (relating.Analysis (error.Map (map_error.Limit at)))) ends says =
      absurd (not_free (length (names qs)) (maps_operations (program_of qs)) at ends.1.1.1 free)
  formed free split never (refused (relating.Analysis (error.Map (map_error.Wide at)))) ends says =
      inr (inl (map_wide a at says))
  formed free split never (refused (relating.Analysis (error.Map map_error.Memory))) ends says =
      absurd (no_answer a says)
  formed free split never (refused (relating.Analysis (error.Branch b e))) ends says =
      formed_analysed kinds.Basis (program_of qs) budget m a free split never
      (analysed (error.Branch b e) ends says)
  formed free split never (refused (relating.Analysis (error.Limit task))) ends says =
      let s = ends.1.2 in absurd (never m.entries s.state s.follows s.long)
  formed free split never (refused (relating.Analysis (error.Wide task))) ends says =
      formed_analysed kinds.Basis (program_of qs) budget m a free split never
      (analysed (error.Wide task) ends says)
  formed free split never (refused (relating.Analysis error.Budget)) ends says =
      inr (inr (budget_status (names qs) budget a says))
  formed free split never (refused (relating.Analysis error.Memory)) ends says =
      absurd (no_answer a says)
  formed free split never (refused relating.Wide) ends says = inr (inl (elimination_wide says))
  formed free split never (refused relating.Budget) ends says =
      inr (inr (budget_status (names qs) budget a says))
  formed free split never (refused relating.Memory) ends says = absurd (no_answer a says)

  unformed_kind : ¬ (AllHaveForms (program_of qs)) → (e : RelationsError)
      → EndsWith qs budget m (refused e) → Kind e a
      → (a.status ≡ status.Fault) ⊎ (a.status ≡ status.Wide)
  unformed_kind not e ends (a_fault is) = inl is
  unformed_kind not e ends (a_width is) = inr is
  unformed_kind not e ends (a_budget is same) = absurd (not (out_of e ends same).forms)

  unformed : ¬ (AllHaveForms (program_of qs)) → (e : Ending) → EndsWith qs budget m e
      → answer_of qs budget e ≡ Some a → (a.status ≡ status.Fault) ⊎ (a.status ≡ status.Wide)
  unformed not (related gs) ends says = absurd (not ends.1.forms)
  unformed not (refused e) ends says = unformed_kind not e ends (refused_kind e says)

  -- nothing refuses, and the budget is enough
  unexhausted : IsRelatedWithin qs budget → IsOutOf → ⊥
  unexhausted within o =
      enough_budget (program_of qs) (first_places 0 qs) within.entries m.entries budget within.list
      within.ended within.few o.out

  completed : IsNeverStopped qs → IsRelatedWithin qs budget → (e : Ending) → EndsWith qs budget m e
      → answer_of qs budget e ≡ Some a → a.status ≡ status.Yes
  completed never within (related gs) ends says = yes_of gs says
  completed never within (refused (relating.Analysis (error.Map (map_error.Limit at)))) ends says =
      absurd (not_free (length (names qs)) (maps_operations (program_of qs)) at ends.1.1.1
      never.analysis.free)
  completed never within (refused (relating.Analysis (error.Map (map_error.Wide at)))) ends says =
      absurd (never.analysis.maps at ends.1.1.1)
  completed never within (refused (relating.Analysis (error.Map map_error.Memory))) ends says =
      absurd (no_answer a says)
  completed never within (refused (relating.Analysis (error.Branch b e))) ends says =
      let t = some_told (refusal_in e) (IsRefusedBranch (program_of qs) b) ends.1.1.1 in
      absurd (never.analysis.branches b t.0 t.1.within t.1.is)
  completed never within (refused (relating.Analysis (error.Limit task))) ends says =
      let s = ends.1.2 in
      absurd (never.analysis.short m.entries s.state s.follows s.long)
  completed never within (refused (relating.Analysis (error.Wide task))) ends says =
      let s = ends.1.2 in
      absurd (never.analysis.states m.entries s.state s.follows s.past)
  completed never within (refused (relating.Analysis error.Budget)) ends says =
      absurd (unexhausted within (out_of (relating.Analysis error.Budget) ends (inr refl)))
  completed never within (refused (relating.Analysis error.Memory)) ends says =
      absurd (no_answer a says)
  completed never within (refused relating.Wide) ends says =
      absurd (never.elimination m.entries ends.1.2)
  completed never within (refused relating.Budget) ends says =
      absurd (unexhausted within (out_of relating.Budget ends (inl refl)))
  completed never within (refused relating.Memory) ends says = absurd (no_answer a says)

  module _ (free : AreFree (program_of qs)) (b : ℕ) (r : Refusal) (exact : IsExact r)
      (first : IsRefusedBranch (program_of qs) b r) where
    has_none : AllHaveForms (program_of qs) → ⊥
    has_none forms = no_form (program_of qs) (suc b) r exact first.is (forms b first.within)

    branch_told : (e : Ending) → EndsWith qs budget m e → answer_of qs budget e ≡ Some a
        → (a ≡ branch_answer (names qs) b r) ⊎ (a.status ≡ status.Wide)
    branch_told (related gs) ends says = absurd (has_none ends.1.forms)
    branch_told (refused (relating.Analysis (error.Map (map_error.Limit at)))) ends says =
        absurd (not_free (length (names qs)) (maps_operations (program_of qs)) at ends.1.1.1 free)
    branch_told (refused (relating.Analysis (error.Map (map_error.Wide at)))) ends says =
        inr (map_wide a at says)
    branch_told (refused (relating.Analysis (error.Map map_error.Memory))) ends says =
        absurd (no_answer a says)
    branch_told (refused (relating.Analysis (error.Branch c e))) ends says =
        branch_analysed kinds.Basis (program_of qs) budget m a free b r exact first
        (analysed (error.Branch c e) ends says)
    branch_told (refused (relating.Analysis (error.Limit task))) ends says =
        absurd (has_none ends.1.1)
    branch_told (refused (relating.Analysis (error.Wide task))) ends says =
        branch_analysed kinds.Basis (program_of qs) budget m a free b r exact first
        (analysed (error.Wide task) ends says)
    branch_told (refused (relating.Analysis error.Budget)) ends says = absurd (has_none ends.1.1)
    branch_told (refused (relating.Analysis error.Memory)) ends says = absurd (no_answer a says)
    branch_told (refused relating.Wide) ends says = inr (elimination_wide says)
    branch_told (refused relating.Budget) ends says = absurd (has_none ends.1.1)
    branch_told (refused relating.Memory) ends says = absurd (no_answer a says)

module _ (qs : List (Sequence (Expr ℕ))) (budget : ℕ) (m : Journal) (a : Answer)
    (h : Relates qs budget m a) where
  pub relates_settled : IsSettled a.status
  relates_settled = settled qs budget m a h.ending h.says

  pub relates_not_no : a.status ≢ status.No
  relates_not_no = not_no qs budget m a h.ending h.says

  pub related_shown : (text : List ℕ) → sequences_of text ≡ Ok qs → a.status ≡ status.Yes
      → ShowsRelations text a.text × HasEnded text budget m
  related_shown text is positive = yes_shown qs budget m a text is h.ending h.ends h.says positive

  pub exhausted_shown : (text : List ℕ) → sequences_of text ≡ Ok qs → a.status ≡ status.Budget
      → IsExhaustedRelating text budget m a.text
  exhausted_shown text is out = exhausted_at qs budget m a text is h.ending h.ends h.says out

  pub unrelated : (text : List ℕ) → sequences_of text ≡ Ok qs → a.status ≢ status.Yes
      → IsUnrelated text budget m a
  unrelated text is not = cause_at qs budget m a text is h.ending h.ends h.says not

  pub limit_related : (at : ℕ) → IsLimit (length (names qs)) (maps_operations (program_of qs)) at
      → (a ≡ sequences_refusal (record { reason = limit; at = at })) ⊎ (a.status ≡ status.Wide)
  limit_related at first = limited qs budget m a at first h.ending h.ends h.says

  pub formed_related : AreFree (program_of qs) → AllSplit (program_of qs)
      → IsNeverLong (program_of qs)
      → (a.status ≡ status.Yes) ⊎ ((a.status ≡ status.Wide) ⊎ (a.status ≡ status.Budget))
  formed_related free split never = formed qs budget m a free split never h.ending h.ends h.says

  pub unformed_related : ¬ (AllHaveForms (program_of qs))
      → (a.status ≡ status.Fault) ⊎ (a.status ≡ status.Wide)
  unformed_related not = unformed qs budget m a not h.ending h.ends h.says

  pub branch_related : AreFree (program_of qs) → (b : ℕ) (r : Refusal) → IsExact r
      → IsRefusedBranch (program_of qs) b r
      → (a ≡ branch_answer (names qs) b r) ⊎ (a.status ≡ status.Wide)
  branch_related free b r exact first =
      branch_told qs budget m a free b r exact first h.ending h.ends h.says

  pub all_related : IsNeverStopped qs → IsRelatedWithin qs budget → a.status ≡ status.Yes
  all_related never within = completed qs budget m a never within h.ending h.ends h.says

pub related_within : (text : List ℕ) (qs : List (Sequence (Expr ℕ))) (budget : ℕ) (m : Journal)
    (said : List ℕ) → sequences_of text ≡ Ok qs → IsRelatedWithin qs budget
    → IsExhaustedRelating text budget m said → ⊥
related_within text qs budget m said is within out =
    let same : out.sequences ≡ qs =
    (let x : Ok out.sequences ≡ Ok qs = sym out.are_sequences ∙ is in cc) in
    enough_budget (program_of qs) (first_places 0 qs) within.entries m.entries budget within.list
    within.ended within.few
    (subst (λ ps. IsOut (program_of ps) (first_places 0 ps) budget m.entries) same out.out)
