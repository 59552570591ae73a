-- That the premises of the clauses of `FindsEach` (specs/ChainClauses) can be met, with code and without: chains of two loops of one variable whose branches do
-- nothing. And that each cause of a refusal that has to do with code fails there.
--   plain_chain, plain_text, plain_read         without code: the chain, a text, and that it is read so
--   code_chain, code_text, code_read            with the code x = x between the loops
--   changed_chain, changed_text, changed_read   with x = 5, from which the second loop begins with x - 5
--   plain_never_refused, code_never_refused     IsNeverRefused
--   plain_within, code_within                   IsWithinBudget, with any budget: there is no unit
--   changed_never_refused, changed_within       both, with any budget but 0
--   code_never_past, code_never_exhausted           neither the elimination of the code is past, nor is a budget exhausted in it
use Rattle.std.proofs.Common.{◌≡◌, inl, inr, ℕ, zero, suc, ◌≤◌, List, [], ◌∷◌, refl, sym, ap, subst, ◌∙◌, arith, Option, Some, None, Ok, codes}
use Rattle.grammars.specs.Reader.{read}
use Rattle.algebra.specs.Fraction.{Fraction}
use Rattle.polynomials.specs.Terms.{Terms}
use Rattle.machines.specs.Journal.{Entry, Begin, Start, units_of}
use Rattle.machines.specs.Run.{IsRun}
use Rattle.loops.specs.Limits.{most_names, most_bytes, most_branches, most_statements, most_operators, most_exponent}
use Rattle.loops.specs.Program.{Expr, Program, Statement}
use Rattle.loops.specs.WellFormed.{local_places}
use Rattle.loop_model.specs.Words.{keyword_of}
use Rattle.loop_model.specs.Operations as Operations
use Rattle.loop_model.specs.Operations.{IsFree, IsWide, operations_all}
use Rattle.poly_text.specs.Lexemes.{lexeme_at, placed_behind}
use Rattle.poly_text.specs.Sums.{most_depth}
use Rattle.loop_model.specs.Maps.{maps_operations, statements_operations}
use Rattle.rounds.specs.Analysis as analysis
use Rattle.rounds.specs.Analysis.{Setting, State, fresh, finished, next, moves}
use Rattle.rounds.specs.Form.{Form}
use Rattle.rounds.specs.Journal.{setting_from, FollowsFrom, IsFinishedFrom}
use Rattle.rounds.specs.Past.{IsPast}
use Rattle.invariant_fix.specs.Long.{IsLong}
use Rattle.invariant_fix.proofs.TaskLengths.{fresh_short}
use Rattle.corollaries.specs.Analysed.{Analysed, first, further, GivenTo, at_first, behind}
use Rattle.corollaries.specs.Between.{IsMapped, IsExhaustedLeading, IsPastLeading}
use Rattle.loops.specs.Chain.{Chain, IsChain}
use Rattle.corollaries.proofs.Analysed.{analysed_one, analysed_basis}
use Rattle.analysis_commands.proofs.IdleCode.{idle_code, idle_mapped, idle_fits, idle_unexhausted}
use Rattle.analysis_commands.proofs.ChangedCode.{changed_code, changed_mapped, changed_never_past, less_five, behind_entries, behind_units, behind_finished, behind_never_past, behind_never_long}
use Rattle.corollaries.proofs.Mapped.{mapped_one}
use Rattle.loop_runs.specs.Limits.{most_loops}
use Rattle.loop_text.specs.ChainReader.{chain_of}
use Rattle.invariant_fix.specs.Bases.{operations_at}
use Rattle.analysis_commands.proofs.IdleRuns.{never_past, never_long}
use Rattle.analysis_commands.proofs.IdleLoops.{one_loop, x_free, x_narrow, x_branches, x_forms, x_form, x_finished}
use Rattle.analysis_commands.proofs.ChainAnalysing.{chain_formed}
use Rattle.analysis_commands.specs.ChainCauses.{IsWithinBudget, IsNeverRefusedAt, IsNeverRefused}

-- one loop behind another, with this code between them
abbrev pub idle_chain : List (Statement (Expr ℕ)) → Chain (Expr ℕ)
idle_chain code =
    record { first = one_loop; further = record { code = code; branches = [] ∷ [] } ∷ [] }

abbrev pub plain_chain : Chain (Expr ℕ)
plain_chain = idle_chain []

abbrev pub code_chain : Chain (Expr ℕ)
code_chain = idle_chain idle_code

abbrev pub changed_chain : Chain (Expr ℕ)
changed_chain = idle_chain changed_code

-- ---- texts
abbrev pub plain_text : List ℕ
plain_text = codes "vars x; branch {} then branch {}"

abbrev pub code_text : List ℕ
code_text = codes "vars x; branch {} then do { x = x; } branch {}"

abbrev pub changed_text : List ℕ
changed_text = codes "vars x; branch {} then do { x = 5; } branch {}"

pub plain_read : chain_of plain_text ≡ Ok plain_chain
unfolding placed_behind lexeme_at read keyword_of most_names most_bytes most_branches
    most_statements most_operators most_exponent most_depth most_loops
plain_read = refl

pub code_read : chain_of code_text ≡ Ok code_chain
unfolding placed_behind lexeme_at read keyword_of most_names most_bytes most_branches
    most_statements most_operators most_exponent most_depth most_loops local_places
code_read = refl

pub changed_read : chain_of changed_text ≡ Ok changed_chain
unfolding placed_behind lexeme_at read keyword_of most_names most_bytes most_branches
    most_statements most_operators most_exponent most_depth most_loops local_places
changed_read = refl

-- ---- an analysis from no polynomials ends where it begins
module _ (program : Program (Expr ℕ)) (forms : List Form) where
  abbrev A : Setting
  A = setting_from program (Some []) forms None

  ends : next (setting_from program (Some []) forms None) fresh ≡ finished 0 []
  unfolding next analysis.after analysis.closing_from
  ends = refl

  only_fresh : (es : List Entry) (s : State)
      → IsRun (moves (setting_from program (Some []) forms None)) fresh es s → fresh ≡ s
  unfolding IsRun
  only_fresh [] s r = r
  only_fresh (e ∷ es) s (u, n, r) =
      let z : ◌≡◌ {A = Option (Entry × State)} None (Some (e, u)) =
      sym (ap (analysis.move_of (setting_from program (Some []) forms None)) ends) ∙ n in
      absurd (let q : ⊥ = cc in q)

  never_past_from : (es : List Entry) (s : State)
      → IsRun (moves (setting_from program (Some []) forms None)) fresh es s
      → IsPast (setting_from program (Some []) forms None) s → ⊥
  never_past_from es s r past =
      elim (subst (IsPast (setting_from program (Some []) forms None)) (sym (only_fresh es s r))
      past) [ inl h ↦ h | inr h ↦ h ]

  never_long_from : (es : List Entry) (s : State)
      → IsRun (moves (setting_from program (Some []) forms None)) fresh es s
      → IsLong (setting_from program (Some []) forms None) s → ⊥
  never_long_from es s r long =
      fresh_short (setting_from program (Some []) forms None)
      (subst (IsLong (setting_from program (Some []) forms None)) (sym (only_fresh es s r)) long)

finished_from : IsFinishedFrom one_loop [] [] 0 []
unfolding IsRun
finished_from = record {
  state = fresh;
  follows = record { forms = x_form ∷ []; are_forms = x_forms; run = refl };
  is = ends one_loop (x_form ∷ []);
}

never_past_behind : (es : List Entry) (s : State) (f : FollowsFrom one_loop (Some []) None es s)
    → IsPast (setting_from one_loop (Some []) f.forms None) s → ⊥
never_past_behind es s f past = never_past_from one_loop f.forms es s f.run past

never_long_behind : (es : List Entry) (s : State) (f : FollowsFrom one_loop (Some []) None es s)
    → IsLong (setting_from one_loop (Some []) f.forms None) s → ⊥
never_long_behind es s f long = never_long_from one_loop f.forms es s f.run long

nothing_done : {budget : ℕ} → units_of [] ≤ budget
unfolding units_of
nothing_done = omega arith

-- ---- either chain
module _ (code : List (Statement (Expr ℕ))) (ks : List (Terms Fraction))
    (mapped : IsMapped one_loop code [] [] ks) (w : IsChain (idle_chain code))
    (none : operations_at (idle_chain code) 1 ≡ maps_operations one_loop)
    (never : (es : List Entry) → IsPastLeading one_loop code [] es
    → ⊥) (behind_entries : List Entry)
    (hs : List (Terms Fraction)) (ended : IsFinishedFrom one_loop ks behind_entries 0 hs)
    (fit : (fs : List Entry) (s : State) (f : FollowsFrom one_loop (Some ks) None fs s)
    → IsPast (setting_from one_loop (Some ks) f.forms None) s → ⊥)
    (short : (fs : List Entry) (s : State) (f : FollowsFrom one_loop (Some ks) None fs s)
    → IsLong (setting_from one_loop (Some ks) f.forms None) s → ⊥) (budget : ℕ)
    (few : units_of behind_entries ≤ budget) where
  abbrev c : Chain (Expr ℕ)
  c = idle_chain code

  first_analysed : Analysed (idle_chain code) budget 0 []
  unfolding units_of
  first_analysed = first (Begin Start ∷ []) 0 [] x_finished (omega arith)

  within : IsWithinBudget (idle_chain code) budget
  unfolding units_of
  within = record {
    list = hs;
    analysed = further 0 [] [] ks behind_entries 0 hs first_analysed (omega arith) mapped ended
        (omega (arith, few));
  }

  nothing_first : (gs : List (Terms Fraction)) → Analysed (idle_chain code) budget 0 gs → gs ≡ []
  nothing_first gs a = analysed_one (idle_chain code) w budget 0 gs [] a
      (analysed_basis (idle_chain code) w budget 0 [] first_analysed)

  given_first : (left : ℕ) (given : Option (List (Terms Fraction)))
      → GivenTo (idle_chain code) budget 0 left given → given ≡ None
  given_first _ _ at_first = refl

  given_second : (left : ℕ) (given : Option (List (Terms Fraction)))
      → GivenTo (idle_chain code) budget 1 left given → given ≡ Some ks
  given_second _ _ (behind _ gs fs ls left a l e) = ap Some (mapped_one one_loop code [] fs [] ls ks
      (subst (λ hs. IsMapped one_loop code hs fs ls) (nothing_first gs a) l) mapped).1

  refused_first : IsNeverRefusedAt (idle_chain code) budget 0
  refused_first = record {
    free = x_free;
    maps = x_narrow;
    branches = x_branches;
    states = λ left given k es s f past. never_past ([] ∷ []) f.forms es s
        (subst (λ o. IsRun (moves (setting_from one_loop o f.forms None)) fresh es s)
        (given_first left given k) f.run)
        (subst (λ o. IsPast (setting_from one_loop o f.forms None) s)
        (given_first left given k) past);
    short = λ left given k es s f long. never_long ([] ∷ []) f.forms es s
        (subst (λ o. IsRun (moves (setting_from one_loop o f.forms None)) fresh es s)
        (given_first left given k) f.run)
        (subst (λ o. IsLong (setting_from one_loop o f.forms None) s)
        (given_first left given k) long);
    code = λ i gs e. absurd (omega (arith, e));
  }

  -- what is so of no state of the analysis from the list is so of none from what is given
  second : (P : Setting → State → Type 0)
      → ((es : List Entry) (s : State) (f : FollowsFrom one_loop (Some ks) None es s)
      → P (setting_from one_loop (Some ks) f.forms None) s → ⊥) → (left : ℕ)
      (given : Option (List (Terms Fraction)))
      → GivenTo (idle_chain code) budget 1 left given → (es : List Entry) (s : State)
      (f : FollowsFrom one_loop given None es s)
      → P (setting_from one_loop given f.forms None) s → ⊥
  second P never left given k es s f h = go given (given_second left given k) f h
    where
      go : (o : Option (List (Terms Fraction))) → o ≡ Some ks
          → (f : FollowsFrom one_loop o None es s)
          → P (setting_from one_loop o f.forms None) s → ⊥
      go o e f h = never es s (record {
        forms = f.forms;
        are_forms = f.are_forms;
        run = subst (λ o. IsRun (moves (setting_from one_loop o f.forms None)) fresh es s) e f.run;
      }) (subst (λ o. P (setting_from one_loop o f.forms None) s) e h)

  refused_second : IsNeverRefusedAt (idle_chain code) budget 1
  refused_second = record {
    free = subst (IsFree 1) (sym none) x_free;
    maps = λ at. subst (λ os. IsWide 1 os at → ⊥) (sym none) (x_narrow at);
    branches = x_branches;
    states = λ left given k es s f past. second IsPast fit left given k es s f past;
    short = λ left given k es s f long. second IsLong short left given k es s f long;
    code = λ i gs e a es past.
        (let same : i ≡ 0 = omega (arith, e) in
        never es (subst (λ hs. IsPastLeading one_loop code hs es)
        (nothing_first gs (subst (λ k. Analysed (idle_chain code) budget k gs) same a)) past));
  }

  never_refused : IsNeverRefused (idle_chain code) budget
  never_refused zero l = refused_first
  never_refused (suc zero) l = refused_second
  never_refused (suc (suc j)) l = absurd (omega (arith, l))

-- ---- without code
no_code : operations_at plain_chain 1 ≡ maps_operations one_loop
no_code = refl

pub plain_never_refused : (budget : ℕ) → IsNeverRefused plain_chain budget
plain_never_refused budget = never_refused [] [] (refl, refl) (chain_formed plain_text plain_chain
    plain_read) no_code (λ es h. h) [] [] finished_from never_past_behind never_long_behind budget
    nothing_done

pub plain_within : (budget : ℕ) → IsWithinBudget plain_chain budget
plain_within budget = within [] [] (refl, refl) (chain_formed plain_text plain_chain plain_read)
    no_code (λ es h. h) [] [] finished_from never_past_behind never_long_behind budget nothing_done

-- ---- with code
no_operation : operations_at code_chain 1 ≡ maps_operations one_loop
unfolding operations_all statements_operations Operations.operations
no_operation = refl

pub code_never_past : (es : List Entry) → IsPastLeading one_loop idle_code [] es → ⊥
code_never_past es h = idle_fits ([] ∷ []) es h

pub code_never_exhausted : (limit : ℕ) (es : List Entry)
    → IsExhaustedLeading one_loop idle_code [] limit es → ⊥
code_never_exhausted limit es h = idle_unexhausted ([] ∷ []) limit es h

pub code_never_refused : (budget : ℕ) → IsNeverRefused code_chain budget
code_never_refused budget =
    never_refused idle_code [] (idle_mapped ([] ∷ [])) (chain_formed code_text code_chain code_read)
    no_operation code_never_past [] [] finished_from never_past_behind never_long_behind budget
    nothing_done

pub code_within : (budget : ℕ) → IsWithinBudget code_chain budget
code_within budget =
    within idle_code [] (idle_mapped ([] ∷ [])) (chain_formed code_text code_chain code_read)
    no_operation code_never_past [] [] finished_from never_past_behind never_long_behind budget
    nothing_done

-- ---- with code that changes the variable
changed_operation : operations_at changed_chain 1 ≡ maps_operations one_loop
unfolding operations_all statements_operations Operations.operations
changed_operation = refl

pub changed_never_refused : (budget : ℕ) → 1 ≤ budget → IsNeverRefused changed_chain budget
changed_never_refused budget some =
    never_refused changed_code (less_five ∷ []) changed_mapped
    (chain_formed changed_text changed_chain changed_read) changed_operation changed_never_past
    behind_entries (less_five ∷ []) behind_finished behind_never_past behind_never_long budget
    (subst (λ n. n ≤ budget) (sym behind_units) some)

pub changed_within : (budget : ℕ) → 1 ≤ budget → IsWithinBudget changed_chain budget
changed_within budget some =
    within changed_code (less_five ∷ []) changed_mapped
    (chain_formed changed_text changed_chain changed_read) changed_operation changed_never_past
    behind_entries (less_five ∷ []) behind_finished behind_never_past behind_never_long budget
    (subst (λ n. n ≤ budget) (sym behind_units) some)
