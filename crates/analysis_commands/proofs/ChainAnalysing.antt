-- What the answers to analyses of chains show, and where each comes.
--   analyses_settled, analyses_not_no      their statuses
--   found_shown        a yes: the reduced bases of the chain's invariants, loop by loop, at the end of its analysis
--   out_shown          an exhausted budget: the analysis of a loop that ran out of units
--   unanalysed         any other answer: why the analysis of a loop was refused
--   limit_analysed     the answer where an operation of a loop's maps passes a limit, behind loops that have their bases
--   branch_analysed    where the first branch of a loop that has no closed form is refused for a cause of its own
--   unformed_analysed  where it has one: a fault, or a number that doesn't fit
--   formed_analysed    where none is and each branch splits: a yes, or a number that doesn't fit, or an exhausted budget
--   not_exhausted          no budget is exhausted where each loop has a finished journal within it
--   all_analysed       where nothing refuses and that is so: a yes
--   told_of            the answer that was said of a loop;  all_second: what holds of all of two lists holds of the second
use Rattle.std.proofs.lemmas.List.{length-append, get_or-append-add}
use Rattle.std.proofs.Common.{◌≡◌, ◌≢◌, ℕ, zero, suc, ◌<◌, ◌≤◌, All, List, [], get_or, length, refl, sym, ap, subst, ◌∙◌, Ok, inl, inr, arith}
use Rattle.std.specs.Prelude.{◌⊎◌, ◌+◌, ◌++◌, Option, Some, None, option_map, codes, decimal}
use Rattle.std.proofs.lemmas.Bool.{cases_lt}
use Rattle.algebra.specs.Fraction.{Fraction}
use Rattle.polynomials.specs.Terms.{Terms}
use Rattle.machines.specs.Journal.{Journal}
use Rattle.loops.specs.Program.{Expr, Program}
use Rattle.poly_text.specs.Reasons.{limit}
use Rattle.loop_model.specs.Operations.{PassesLimit, IsFree, IsLimit, IsWide}
use Rattle.loop_model.specs.declared.map_error.MapError.TheVariants as map_error
use Rattle.loop_model.specs.Maps.{maps_operations, AreFree}
use Rattle.rounds.specs.Journal.{IsOutFrom}
use Rattle.corollaries.specs.Between.{IsExhaustedLeading}
use Rattle.loops.specs.Chain.{Chain, code_at, loop_at, IsChain}
use Rattle.corollaries.specs.Analysed.{Analysed}
use Rattle.corollaries.proofs.Analysed.{analysed_basis, analysed_generates}
use Rattle.corollaries.proofs.Exhausted.{never_exhausted, never_exhausted_between}
use Rattle.loop_text.specs.ChainReader.{chain_of}
use Rattle.loop_text.proofs.ChainWell.{chain_well}
use Rattle.closed_forms.specs.Refusal.{Refusal, refusal_in}
use Rattle.invariant_fix.specs.Refusals.{AllHaveForms, IsRefusedBranch}
use Rattle.invariant_fix.specs.declared.errors.AnalyseError.{AnalyseError}
use Rattle.invariant_fix.specs.declared.errors.AnalyseError.TheVariants as error
use Rattle.invariant_fix.specs.Bases.{code_operations, operations_at, IsFormed, Reaches, InLoop, InCode, IsRefusedAt, IsRefusedIn}
use Rattle.invariant_fix.specs.declared.refused.LoopError.{LoopError}
use Rattle.invariant_fix.specs.declared.refused.LoopError.TheVariants as loop_error
use Rattle.invariant_fix.specs.declared.refused.Refused as bases
use Rattle.io_edge.specs.declared.answer.Status.TheVariants as status
use Rattle.io_edge.specs.Texts.{Answer, with_text}
use Rattle.io_edge.specs.Settled.{IsSettled}
use Rattle.io_edge.proofs.OfStatuses.{status_of, text_of, some_answer, no_answer, settled_yes, settled_wide}
use Rattle.command_parts.specs.FaultTexts.{loop_refusal}
use Rattle.command_parts.proofs.MapLimits.{limit_same, not_free}
use Rattle.analysis_commands.specs.declared.kind.Kind.TheVariants as kinds
use Rattle.analysis_commands.specs.Analyses as alone
use Rattle.analysis_commands.specs.Completeness.{AllSplit}
use Rattle.analysis_commands.specs.Causes.{IsExact}
use Rattle.analysis_commands.specs.Statuses.{refusal_status}
use Rattle.analysis_commands.specs.RefusalTexts.{refusal_answer, branch_answer}
use Rattle.analysis_commands.proofs.Analysing.{refused_not_yes, exhausted_is, at_fault_or_wide, branch_told, formed, status_told}
use Rattle.analysis_commands.proofs.BranchRefusals.{no_form, some_told}
use Rattle.analysis_commands.proofs.Refused.{refusal_parts, refusal_kind, refused_settled, refused_not_no}
use Rattle.analysis_commands.specs.ChainTexts.{bases_text, in_loop}
use Rattle.analysis_commands.specs.ChainHeadline.{ShowsChain}
use Rattle.analysis_commands.specs.ChainAnalyses.{Ending, found, refused, EndsWith, between_answer, error_answer, answer_of, refused_answer, Analyses}
use Rattle.analysis_commands.specs.ChainCauses.{HasFinished, IsExhausted, IsUnanalysed, AreFormedBefore, IsNeverLongAt, IsWithinBudget, IsNeverRefused, IsNeverRefusedAt}

-- ---- one loop
-- the answer behind that of its loop
pub told_of : (place : ℕ) (o : Option Answer) (a : Answer) → option_map (in_loop place) o ≡ Some a
    → (x : Answer) × (o ≡ Some x) × (a ≡ in_loop place x)
told_of place None a e = absurd (no_answer a e)
told_of place (Some x) a e = (x, refl, some_answer (in_loop place x) a e)

all_split : (p : Program (Expr ℕ)) → AllHaveForms p → AllSplit p
all_split p forms b l = let h = forms b l in (h.solvable, h.pass, h.short)

pub all_second : {X : Type 0} (P : X → Type 0) (xs ys : List X) → All P (xs ++ ys) → All P ys
all_second P xs ys h = λ i d l.
    let long = length-append xs ys in
    subst P (get_or-append-add xs ys i d) (h (length xs + i) d (omega (arith, long, l)))

names_at : (c : Chain (Expr ℕ)) (j : ℕ) → c.first.names ≡ (loop_at c j).names
names_at c zero = refl
names_at c (suc j) = refl

free_named : (c : Chain (Expr ℕ)) (j : ℕ) → IsFree (length c.first.names) (operations_at c j)
    → IsFree (length (loop_at c j).names) (operations_at c j)
free_named c j free = subst (λ ns. IsFree (length ns) (operations_at c j)) (names_at c j) free

module _ (c : Chain (Expr ℕ)) (budget : ℕ) (m : Journal) (j : ℕ) (x : Answer) where
  abbrev p : Program (Expr ℕ)
  p = loop_at c j

  abbrev Refuses : LoopError → Type 0
  Refuses e = IsRefusedAt c budget m j e

  abbrev Says : LoopError → Type 0
  Says e = error_answer (loop_at c j).names budget e ≡ Some x

  abbrev IsFreeAt : Type 0
  IsFreeAt = IsFree (length (loop_at c j).names) (operations_at c j)

  -- the loop's own operations
  free_loop : IsFreeAt → AreFree (loop_at c j)
  free_loop free = all_second (λ o. ¬ (PassesLimit (length (loop_at c j).names) o))
      (code_operations c.first (code_at c j)) (maps_operations (loop_at c j)) free

  between_wide : Says loop_error.Between → x.status ≡ status.Wide
  between_wide says = status_of (some_answer between_answer x says)

  wide_or_exhausted : (e : AnalyseError) → Says (loop_error.Analysis e)
      → (x.status ≡ status.Yes) ⊎ ((x.status ≡ status.Wide) ⊎ (x.status ≡ status.Budget))
      → (x.status ≡ status.Wide) ⊎ (e ≡ error.Budget)
  wide_or_exhausted e says h =
      let k = refusal_kind e x.status (refusal_parts p.names budget e x says).0 in
      elim h [
        | inl never ↦ absurd (refused_not_yes e x.status k never)
        | inr other ↦ elim other [
          | inl wide ↦ inl wide
          | inr exhausted ↦ inr (exhausted_is e x.status k exhausted)
        ]
      ]

  told_wide : (e : AnalyseError) → refusal_status e ≡ Some status.Wide
      → Says (loop_error.Analysis e) → x.status ≡ status.Wide
  told_wide e same says = status_told kinds.Basis p budget m x e status.Wide same says

  -- where no operation passes a limit and each branch splits
  formed_refusal : IsFreeAt → AllSplit (loop_at c j) → IsNeverLongAt c budget j → (e : LoopError)
      → Refuses e → Says e → (x.status ≡ status.Wide) ⊎ (e ≡ loop_error.Analysis error.Budget)
  formed_refusal free split never (loop_error.Analysis (error.Map (map_error.Limit at))) r says =
      absurd (not_free (length p.names) (operations_at c j) at r.1.1 free)
  formed_refusal free split never (loop_error.Analysis (error.Map (map_error.Wide at))) r says =
      inl (told_wide (error.Map (map_error.Wide at)) refl says)
  formed_refusal free split never (loop_error.Analysis (error.Map map_error.Memory)) r says =
      absurd (no_answer x says)
  formed_refusal free split never (loop_error.Analysis (error.Branch b y)) r says =
      elim (wide_or_exhausted (error.Branch b y) says
      (formed kinds.Basis p budget (alone.empty_journal budget) x (free_loop free) split
      (alone.refused (error.Branch b y)) (λ task same. cc) (refl, (refl, (free_loop free, r.1.1)))
      says)) [
        | inl wide ↦ inl wide
        | inr exhausted ↦ absurd (let z : error.Branch b y ≡ error.Budget = exhausted in cc)
      ]
  formed_refusal free split never (loop_error.Analysis (error.Limit task)) r says = let l = r.1 in
      absurd (never l.left l.given l.known m.entries l.so.state l.so.follows l.so.long)
  formed_refusal free split never (loop_error.Analysis (error.Wide task)) r says =
      inl (told_wide (error.Wide task) refl says)
  formed_refusal free split never (loop_error.Analysis error.Budget) r says = inr refl
  formed_refusal free split never (loop_error.Analysis error.Memory) r says =
      absurd (no_answer x says)
  formed_refusal free split never loop_error.Between r says = inl (between_wide says)

  limit_at : (at : ℕ) → IsLimit (length (loop_at c j).names) (operations_at c j) at
      → (e : LoopError) → Refuses e → Says e
      → (x ≡ loop_refusal (record { reason = limit; at = at })) ⊎ (x.status ≡ status.Wide)
  limit_at at first (loop_error.Analysis (error.Map (map_error.Limit other))) r says =
      let is : Some (loop_refusal (record { reason = limit; at = other })) ≡ Some x = says in
      let told : loop_refusal (record { reason = limit; at = other }) ≡ x = cc in
      inl (sym told ∙ ap (λ k. loop_refusal (record { reason = limit; at = k }))
      (limit_same (length p.names) (operations_at c j) other at r.1.1 first))
  limit_at at first (loop_error.Analysis (error.Map (map_error.Wide other))) r says =
      inr (told_wide (error.Map (map_error.Wide other)) refl says)
  limit_at at first (loop_error.Analysis (error.Map map_error.Memory)) r says =
      absurd (no_answer x says)
  limit_at at first (loop_error.Analysis (error.Branch b y)) r says =
      absurd (not_free (length p.names) (operations_at c j) at first r.1.0)
  limit_at at first (loop_error.Analysis (error.Limit task)) r says =
      absurd (not_free (length p.names) (operations_at c j) at first (free_named c j r.0.0))
  limit_at at first (loop_error.Analysis (error.Wide task)) r says =
      inr (told_wide (error.Wide task) refl says)
  limit_at at first (loop_error.Analysis error.Budget) r says =
      absurd (not_free (length p.names) (operations_at c j) at first (free_named c j r.0.0))
  limit_at at first (loop_error.Analysis error.Memory) r says = absurd (no_answer x says)
  limit_at at first loop_error.Between r says = inr (between_wide says)

  branch_at : IsFreeAt → (b : ℕ) (y : Refusal) → IsExact y → IsRefusedBranch (loop_at c j) b y
      → (e : LoopError) → Refuses e → Says e
      → (x ≡ branch_answer (loop_at c j).names b y) ⊎ (x.status ≡ status.Wide)
  branch_at free b y exact first (loop_error.Analysis (error.Map (map_error.Limit at))) r says =
      absurd (not_free (length p.names) (operations_at c j) at r.1.1 free)
  branch_at free b y exact first (loop_error.Analysis (error.Map (map_error.Wide at))) r says =
      inr (told_wide (error.Map (map_error.Wide at)) refl says)
  branch_at free b y exact first (loop_error.Analysis (error.Map map_error.Memory)) r says =
      absurd (no_answer x says)
  branch_at free b y exact first (loop_error.Analysis (error.Branch d z)) r says =
      branch_told kinds.Basis p budget (alone.empty_journal budget) x (free_loop free) b y exact
      first
      (alone.refused (error.Branch d z)) (refl, (refl, (free_loop free, r.1.1))) says
  branch_at free b y exact first (loop_error.Analysis (error.Limit task)) r says =
      absurd (no_form p (suc b) y exact first.is (r.0.1 b first.within))
  branch_at free b y exact first (loop_error.Analysis (error.Wide task)) r says =
      inr (told_wide (error.Wide task) refl says)
  branch_at free b y exact first (loop_error.Analysis error.Budget) r says =
      absurd (no_form p (suc b) y exact first.is (r.0.1 b first.within))
  branch_at free b y exact first (loop_error.Analysis error.Memory) r says =
      absurd (no_answer x says)
  branch_at free b y exact first loop_error.Between r says = inr (between_wide says)

  -- nothing refuses
  never_refused : IsNeverRefusedAt c budget j → (e : LoopError) → Refuses e → Says e
      → e ≡ loop_error.Analysis error.Budget
  never_refused never (loop_error.Analysis (error.Map (map_error.Limit at))) r says =
      absurd (not_free (length (loop_at c j).names) (operations_at c j) at r.1.1
      (free_named c j never.free))
  never_refused never (loop_error.Analysis (error.Map (map_error.Wide at))) r says =
      absurd (never.maps at (subst (λ ns. IsWide (length ns) (operations_at c j) at)
      (sym (names_at c j)) r.1.1))
  never_refused never (loop_error.Analysis (error.Map map_error.Memory)) r says =
      absurd (no_answer x says)
  never_refused never (loop_error.Analysis (error.Branch b y)) r says =
      let t = some_told (refusal_in y) (IsRefusedBranch p b) r.1.1 in
      absurd (never.branches b t.0 t.1.within t.1.is)
  never_refused never (loop_error.Analysis (error.Limit task)) r says = let l = r.1 in
      absurd (never.short l.left l.given l.known m.entries l.so.state l.so.follows l.so.long)
  never_refused never (loop_error.Analysis (error.Wide task)) r says = let l = r.1 in
      absurd (never.states l.left l.given l.known m.entries l.so.state l.so.follows l.so.past)
  never_refused never (loop_error.Analysis error.Budget) r says = refl
  never_refused never (loop_error.Analysis error.Memory) r says = absurd (no_answer x says)
  never_refused never loop_error.Between r says =
      let l = r.1 in absurd (never.code l.place l.list l.is l.analysed m.entries l.so)

-- ---- the loops of a chain
pub chain_formed : (text : List ℕ) (c : Chain (Expr ℕ)) → chain_of text ≡ Ok c → IsChain c
chain_formed text c is = record { formed = λ j l. ((chain_well text c is).loops j l).formed }

-- the places before
before_place : (c : Chain (Expr ℕ)) (budget j i : ℕ) → Reaches c budget j → i < j
    → (n : ℕ) × ((gs : List (Terms Fraction)) × (Analysed c budget n gs × (i ≤ n)))
before_place c budget zero i known l = absurd (omega (arith, l))
before_place c budget (suc j) i (gs, a) l = (j, (gs, (a, omega (arith, l))))

module _ (c : Chain (Expr ℕ)) (budget : ℕ) (a : Answer) where
  abbrev Found : List (List (Terms Fraction)) → Type 0
  Found bases = answer_of c.first.names budget (found bases) ≡ Some a

  abbrev Tells : bases.Refused → Type 0
  Tells r = refused_answer c.first.names budget r ≡ Some a

  found_is : (bases : List (List (Terms Fraction))) → Found bases
      → a ≡ with_text status.Yes (bases_text c.first.names 0 bases)
  found_is bases says = some_answer (with_text status.Yes (bases_text c.first.names 0 bases)) a says

  -- the answer of the loop that is refused
  record OfLoop (r : bases.Refused) : Type 0 where
    x : Answer
    says : error_answer (loop_at c r.place).names budget r.error ≡ Some x
    told : error_answer c.first.names budget r.error ≡ Some x
    is_told : a ≡ in_loop r.place x

  of_loop : (r : bases.Refused) → Tells r → OfLoop r
  of_loop r h =
      let t = told_of r.place (error_answer c.first.names budget r.error) a h in
      record {
        x = t.0;
        says = subst (λ ns. error_answer ns budget r.error ≡ Some t.0) (names_at c r.place) t.1;
        told = t.1;
        is_told = t.2;
      }

  -- the status of a refusal's answer is none of these
  settled_error : (e : LoopError) (x : Answer) → error_answer c.first.names budget e ≡ Some x
      → IsSettled x.status
  settled_error (loop_error.Analysis e) x told = refused_settled e x.status
      (refusal_kind e x.status (refusal_parts c.first.names budget e x told).0)
  settled_error loop_error.Between x told =
      settled_wide x.status (status_of (some_answer between_answer x told))

  no_error : (e : LoopError) (x : Answer) → error_answer c.first.names budget e ≡ Some x
      → x.status ≢ status.No
  no_error (loop_error.Analysis e) x told h = refused_not_no e x.status
      (refusal_kind e x.status (refusal_parts c.first.names budget e x told).0) h
  no_error loop_error.Between x told h =
      let z : status.Wide ≡ status.No = sym (status_of (some_answer between_answer x told)) ∙ h in
      let q : ⊥ = cc in q

  yes_error : (e : LoopError) (x : Answer) → error_answer c.first.names budget e ≡ Some x
      → x.status ≢ status.Yes
  yes_error (loop_error.Analysis e) x told h = refused_not_yes e x.status
      (refusal_kind e x.status (refusal_parts c.first.names budget e x told).0) h
  yes_error loop_error.Between x told h =
      let z : status.Wide ≡ status.Yes = sym (status_of (some_answer between_answer x told)) ∙ h in
      let q : ⊥ = cc in q

  exhausted_error : (e : LoopError) (x : Answer) → error_answer c.first.names budget e ≡ Some x
      → x.status ≡ status.Budget → e ≡ loop_error.Analysis error.Budget
  exhausted_error (loop_error.Analysis e) x told h = ap loop_error.Analysis (exhausted_is e x.status
      (refusal_kind e x.status (refusal_parts c.first.names budget e x told).0) h)
  exhausted_error loop_error.Between x told h =
      absurd (let z : status.Wide ≡ status.Budget =
      sym (status_of (some_answer between_answer x told)) ∙ h in cc)

  fault_error : (e : LoopError) (x : Answer) → error_answer c.first.names budget e ≡ Some x
      → (e ≡ loop_error.Analysis error.Budget → ⊥)
      → (x.status ≡ status.Fault) ⊎ (x.status ≡ status.Wide)
  fault_error (loop_error.Analysis e) x told not = at_fault_or_wide e x.status
      (refusal_kind e x.status (refusal_parts c.first.names budget e x told).0)
      (λ exhausted. not (ap loop_error.Analysis exhausted))
  fault_error loop_error.Between x told not = inr (status_of (some_answer between_answer x told))

  settled_so : (e : Ending) → answer_of c.first.names budget e ≡ Some a → IsSettled a.status
  settled_so (found bases) says = settled_yes a.status (status_of (found_is bases says))
  settled_so (refused r) says =
      let o = of_loop r says in
      subst IsSettled (sym (status_of o.is_told)) (settled_error r.error o.x o.told)

  not_no_so : (e : Ending) → answer_of c.first.names budget e ≡ Some a → a.status ≢ status.No
  not_no_so (found bases) says h =
      let x : status.Yes ≡ status.No = sym (status_of (found_is bases says)) ∙ h in
      let z : ⊥ = cc in z
  not_no_so (refused r) says h =
      let o = of_loop r says in no_error r.error o.x o.told (sym (status_of o.is_told) ∙ h)

  not_yes_so : (r : bases.Refused) → Tells r → a.status ≢ status.Yes
  not_yes_so r says h =
      let o = of_loop r says in yes_error r.error o.x o.told (sym (status_of o.is_told) ∙ h)

  budget_so : (r : bases.Refused) → Tells r → a.status ≡ status.Budget
      → r.error ≡ loop_error.Analysis error.Budget
  budget_so r says h =
      let o = of_loop r says in exhausted_error r.error o.x o.told (sym (status_of o.is_told) ∙ h)

module _ (text : List ℕ) (c : Chain (Expr ℕ)) (budget : ℕ) (m : Journal) (a : Answer)
    (is : chain_of text ≡ Ok c) where
  shown : (e : Ending) → EndsWith c budget m e → answer_of c.first.names budget e ≡ Some a
      → a.status ≡ status.Yes → ShowsChain text a.text × HasFinished text budget m
  shown (found bases) ends says h =
      let w = chain_formed text c is in
      let f = ends.0 in (
        record {
          chain = c;
          is_chain = is;
          bases = bases;
          are_bases = record {
            count = f.count;
            are_bases = λ j l. analysed_basis c w budget j (get_or bases j []) (f.analysed j l);
            generate = λ j l. analysed_generates c w budget j (get_or bases j []) (f.analysed j l);
          };
          reads_back = ends.1;
          says = text_of (found_is c budget a bases says);
        },
        record {
          chain = c;
          is_chain = is;
          rounds = f.rounds;
          list = get_or bases (length c.further) [];
          done = f.done;
        },
      )
  shown (refused r) ends says h = absurd (not_yes_so c budget a r says h)

  -- ---- an exhausted budget
  abbrev Exhausted : ℕ → Type 0
  Exhausted j =
      InLoop c budget m j (λ left given. IsOutFrom (loop_at c j) given None left m.entries)
      ⊎ InCode c budget m j (λ gs. IsExhaustedLeading c.first (code_at c j) gs budget m.entries)

  out_of : (r : bases.Refused) (ends : IsRefusedIn c budget m r)
      → r.error ≡ loop_error.Analysis error.Budget → IsFormed c r.place × Exhausted r.place
  out_of r ends same = subst (IsRefusedAt c budget m r.place) same ends.refused

  -- none where a loop behind it, or it, is finished within the budget
  unexhausted : (r : bases.Refused) (ends : IsRefusedIn c budget m r) → (n : ℕ)
      (gs : List (Terms Fraction)) → Analysed c budget n gs → r.place ≤ n
      → r.error ≡ loop_error.Analysis error.Budget → ⊥
  unexhausted r ends n gs finished within same = elim (out_of r ends same).1 [
    | inl l ↦ never_exhausted c (chain_formed text c is) budget n gs finished r.place l.left l.given
        within l.known m.entries l.so
    | inr l ↦ never_exhausted_between c (chain_formed text c is) budget n gs finished l.place l.list
        (let e = l.is in omega (arith, e, within)) l.analysed m.entries
        (subst (λ j. IsExhaustedLeading c.first (code_at c j) l.list budget m.entries) l.is l.so)
  ]

  out : (e : Ending) → EndsWith c budget m e → answer_of c.first.names budget e ≡ Some a
      → a.status ≡ status.Budget → IsExhausted text budget m a.text
  out (found bases) ends says h =
      absurd (let x : status.Yes ≡ status.Budget =
      sym (status_of (found_is c budget a bases says)) ∙ h in cc)
  out (refused r) ends says h =
      let same = budget_so c budget a r says h in
      let o = of_loop c budget a r says in
      let told : refusal_answer c.first.names budget error.Budget ≡ Some o.x =
      subst (λ e. error_answer c.first.names budget e ≡ Some o.x) same o.told in
      record {
        chain = c;
        is_chain = is;
        place = r.place;
        within = ends.within;
        formed = (out_of r ends same).0;
        out = (out_of r ends same).1;
        says = text_of o.is_told
            ∙ ap (λ t. codes "loop " ++ decimal (r.place + 1) ++ codes ": " ++ t)
            (refusal_parts c.first.names budget error.Budget o.x told).1;
      }

  cause : (e : Ending) → EndsWith c budget m e → answer_of c.first.names budget e ≡ Some a
      → a.status ≢ status.Yes → IsUnanalysed text budget m a
  cause (found bases) ends says not = absurd (not (status_of (found_is c budget a bases says)))
  cause (refused r) ends says not =
      record { chain = c; is_chain = is; refused = r; ends = ends; says = says }

  -- ---- where each comes
  -- a refusal of a loop that is formed, where its budget isn't exhausted
  wide_at : (r : bases.Refused) → Tells c budget a r → IsRefusedIn c budget m r
      → IsFree (length c.first.names) (operations_at c r.place) → AllSplit (loop_at c r.place)
      → IsNeverLongAt c budget r.place → (r.error ≡ loop_error.Analysis error.Budget → ⊥)
      → a.status ≡ status.Wide
  wide_at r says ends free split short never =
      let o = of_loop c budget a r says in
      elim (formed_refusal c budget m r.place o.x (free_named c r.place free) split short r.error
      ends.refused o.says) [
        | inl wide ↦ status_of o.is_told ∙ wide
        | inr exhausted ↦ absurd (never exhausted)
      ]

  wide_before : (j : ℕ) → Reaches c budget j → AreFormedBefore c budget j → (r : bases.Refused)
      → Tells c budget a r → IsRefusedIn c budget m r → r.place < j → a.status ≡ status.Wide
  wide_before j known before r says ends l =
      let f = before r.place l in
      let b = before_place c budget j r.place known l in
      wide_at r says ends f.0.0 (all_split (loop_at c r.place) f.0.1) f.1
      (unexhausted r ends b.0 b.1.0 b.1.1.0 b.1.1.1)

  module _ (j : ℕ) (within : j ≤ length c.further) (known : Reaches c budget j)
      (before : AreFormedBefore c budget j) where
    limited_so : (at : ℕ) → IsLimit (length c.first.names) (operations_at c j) at
        → (e : Ending) → EndsWith c budget m e → answer_of c.first.names budget e ≡ Some a
        → (a ≡ in_loop j (loop_refusal (record { reason = limit; at = at })))
        ⊎ (a.status ≡ status.Wide)
    limited_so at first (found bases) ends says =
        absurd (not_free (length c.first.names) (operations_at c j) at first
        (ends.0.formed j within).0)
    limited_so at first (refused r) ends says = elim (cases_lt r.place j) [
      | inl earlier ↦ inr (wide_before j known before r says ends earlier)
      | inr l1 ↦ elim (cases_lt j r.place) [
        | inl later ↦ absurd
            (not_free (length c.first.names) (operations_at c j) at first
            (ends.before j later).0)
        | inr l2 ↦ here (omega (arith, l1, l2))
      ]
    ]
      where
        here : j ≡ r.place
            → (a ≡ in_loop j (loop_refusal (record { reason = limit; at = at })))
            ⊎ (a.status ≡ status.Wide)
        here same =
            let o = of_loop c budget a r says in
            elim (limit_at c budget m r.place o.x at
            (subst (λ ns. IsLimit (length ns) (operations_at c r.place) at) (names_at c r.place)
            (subst (λ k. IsLimit (length c.first.names) (operations_at c k) at) same first))
            r.error ends.refused o.says) [
              | inl told ↦ inl (o.is_told
                  ∙ ap (in_loop r.place) told
                  ∙ ap (λ k. in_loop k (loop_refusal (record { reason = limit; at = at })))
                  (sym same))
              | inr wide ↦ inr (status_of o.is_told ∙ wide)
            ]

    branch_so : IsFree (length c.first.names) (operations_at c j) → (b : ℕ) (y : Refusal)
        → IsExact y → IsRefusedBranch (loop_at c j) b y → (e : Ending) → EndsWith c budget m e
        → answer_of c.first.names budget e ≡ Some a
        → (a ≡ in_loop j (branch_answer c.first.names b y)) ⊎ (a.status ≡ status.Wide)
    branch_so free b y exact first (found bases) ends says =
        absurd (no_form (loop_at c j) (suc b) y exact first.is
        ((ends.0.formed j within).1 b first.within))
    branch_so free b y exact first (refused r) ends says = elim (cases_lt r.place j) [
      | inl earlier ↦ inr (wide_before j known before r says ends earlier)
      | inr l1 ↦ elim (cases_lt j r.place) [
        | inl later ↦ absurd (no_form (loop_at c j) (suc b) y exact first.is
            ((ends.before j later).1 b first.within))
        | inr l2 ↦ here (omega (arith, l1, l2))
      ]
    ]
      where
        here : j ≡ r.place
            → (a ≡ in_loop j (branch_answer c.first.names b y)) ⊎ (a.status ≡ status.Wide)
        here same =
            let o = of_loop c budget a r says in
            elim (branch_at c budget m r.place o.x
            (free_named c r.place
            (subst (λ k. IsFree (length c.first.names) (operations_at c k)) same free)) b y exact
            (subst (λ k. IsRefusedBranch (loop_at c k) b y) same first) r.error ends.refused
            o.says) [
              | inl told ↦ inl (o.is_told
                  ∙ ap (in_loop r.place) told
                  ∙ ap (λ ns. in_loop r.place (branch_answer ns b y)) (sym (names_at c r.place))
                  ∙ ap (λ k. in_loop k (branch_answer c.first.names b y)) (sym same))
              | inr wide ↦ inr (status_of o.is_told ∙ wide)
            ]

    unformed_so : ¬ (AllHaveForms (loop_at c j)) → (e : Ending) → EndsWith c budget m e
        → answer_of c.first.names budget e ≡ Some a
        → (a.status ≡ status.Fault) ⊎ (a.status ≡ status.Wide)
    unformed_so not (found bases) ends says = absurd (not (ends.0.formed j within).1)
    unformed_so not (refused r) ends says = elim (cases_lt r.place j) [
      | inl earlier ↦ inr (wide_before j known before r says ends earlier)
      | inr l1 ↦ elim (cases_lt j r.place) [
        | inl later ↦ absurd (not (ends.before j later).1)
        | inr l2 ↦ here (omega (arith, l1, l2))
      ]
    ]
      where
        here : j ≡ r.place → (a.status ≡ status.Fault) ⊎ (a.status ≡ status.Wide)
        here same =
            let o = of_loop c budget a r says in
            elim (fault_error c budget a r.error o.x o.told
            (λ exhausted. not (subst (λ k. AllHaveForms (loop_at c k)) (sym same)
            (out_of r ends exhausted).0.1))) [
              | inl fault ↦ inl (status_of o.is_told ∙ fault)
              | inr wide ↦ inr (status_of o.is_told ∙ wide)
            ]

  all_formed : ((j : ℕ) → j ≤ length c.further
      → IsFree (length c.first.names) (operations_at c j) × AllSplit (loop_at c j)
      × IsNeverLongAt c budget j)
      → (e : Ending) → EndsWith c budget m e → answer_of c.first.names budget e ≡ Some a
      → (a.status ≡ status.Yes) ⊎ ((a.status ≡ status.Wide) ⊎ (a.status ≡ status.Budget))
  all_formed each (found bases) ends says = inl (status_of (found_is c budget a bases says))
  all_formed each (refused r) ends says =
      let o = of_loop c budget a r says in
      let f = each r.place ends.within in
      elim (formed_refusal c budget m r.place o.x (free_named c r.place f.0) f.1 f.2 r.error
      ends.refused o.says) [
        | inl wide ↦ inr (inl (status_of o.is_told ∙ wide))
        | inr exhausted ↦ inr (inr (status_of o.is_told
            ∙ status_told kinds.Basis (loop_at c r.place) budget m o.x error.Budget status.Budget
            refl (subst (λ e. error_answer (loop_at c r.place).names budget e ≡ Some o.x) exhausted
            o.says)))
      ]

  no_budget : IsWithinBudget c budget → (e : Ending) → EndsWith c budget m e
      → answer_of c.first.names budget e ≡ Some a → a.status ≢ status.Budget
  no_budget w (found bases) ends says h =
      let x : status.Yes ≡ status.Budget = sym (status_of (found_is c budget a bases says)) ∙ h in
      let z : ⊥ = cc in z
  no_budget w (refused r) ends says h =
      unexhausted r ends (length c.further) w.list w.analysed ends.within
      (budget_so c budget a r says h)

  completed : IsNeverRefused c budget → IsWithinBudget c budget → (e : Ending)
      → EndsWith c budget m e → answer_of c.first.names budget e ≡ Some a → a.status ≡ status.Yes
  completed never w (found bases) ends says = status_of (found_is c budget a bases says)
  completed never w (refused r) ends says =
      let o = of_loop c budget a r says in
      absurd (unexhausted r ends (length c.further) w.list w.analysed ends.within
      (never_refused c budget m r.place o.x (never r.place ends.within) r.error ends.refused
      o.says))

-- ---- by the answer alone
pub analyses_settled : (c : Chain (Expr ℕ)) (budget : ℕ) (a : Answer) (m : Journal)
    → Analyses c budget m a → IsSettled a.status
analyses_settled c budget a m h = settled_so c budget a h.ending h.says

pub analyses_not_no : (c : Chain (Expr ℕ)) (budget : ℕ) (a : Answer) (m : Journal)
    → Analyses c budget m a → a.status ≢ status.No
analyses_not_no c budget a m h = not_no_so c budget a h.ending h.says

module _ (text : List ℕ) (c : Chain (Expr ℕ)) (budget : ℕ) (m : Journal) (a : Answer)
    (is : chain_of text ≡ Ok c) where
  pub found_shown : Analyses c budget m a → a.status ≡ status.Yes
      → ShowsChain text a.text × HasFinished text budget m
  found_shown h ended = shown text c budget m a is h.ending h.ends h.says ended

  pub out_shown : Analyses c budget m a → a.status ≡ status.Budget
      → IsExhausted text budget m a.text
  out_shown h exhausted = out text c budget m a is h.ending h.ends h.says exhausted

  pub unanalysed : Analyses c budget m a → a.status ≢ status.Yes → IsUnanalysed text budget m a
  unanalysed h not = cause text c budget m a is h.ending h.ends h.says not

  pub limit_analysed : (j : ℕ) → j ≤ length c.further → Reaches c budget j
      → AreFormedBefore c budget j → (at : ℕ) → IsLimit (length c.first.names) (operations_at c j)
      at
      → Analyses c budget m a → (a ≡ in_loop j (loop_refusal (record { reason = limit; at = at })))
      ⊎ (a.status ≡ status.Wide)
  limit_analysed j within known before at first h =
      limited_so text c budget m a is j within known before at first h.ending h.ends h.says

  pub branch_analysed : (j : ℕ) → j ≤ length c.further → Reaches c budget j
      → AreFormedBefore c budget j → IsFree (length c.first.names) (operations_at c j) → (b : ℕ)
      (y : Refusal) → IsExact y → IsRefusedBranch (loop_at c j) b y → Analyses c budget m a
      → (a ≡ in_loop j (branch_answer c.first.names b y)) ⊎ (a.status ≡ status.Wide)
  branch_analysed j within known before free b y exact first h =
      branch_so text c budget m a is j within known before free b y exact first h.ending h.ends
      h.says

  pub unformed_analysed : (j : ℕ) → j ≤ length c.further → Reaches c budget j
      → AreFormedBefore c budget j → ¬ (AllHaveForms (loop_at c j)) → Analyses c budget m a
      → (a.status ≡ status.Fault) ⊎ (a.status ≡ status.Wide)
  unformed_analysed j within known before not h =
      unformed_so text c budget m a is j within known before not h.ending h.ends h.says

  pub formed_analysed
      : ((j : ℕ) → j ≤ length c.further
      → IsFree (length c.first.names) (operations_at c j) × AllSplit (loop_at c j)
      × IsNeverLongAt c budget j)
      → Analyses c budget m a
      → (a.status ≡ status.Yes) ⊎ ((a.status ≡ status.Wide) ⊎ (a.status ≡ status.Budget))
  formed_analysed each h = all_formed text c budget m a is each h.ending h.ends h.says

  pub not_exhausted : IsWithinBudget c budget → Analyses c budget m a → a.status ≢ status.Budget
  not_exhausted w h = no_budget text c budget m a is w h.ending h.ends h.says

  pub all_analysed : IsNeverRefused c budget → IsWithinBudget c budget → Analyses c budget m a
      → a.status ≡ status.Yes
  all_analysed never w h = completed text c budget m a is never w h.ending h.ends h.says
