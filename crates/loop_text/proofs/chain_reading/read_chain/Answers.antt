use Rattle.std.proofs.Common.{◌≡◌, ℕ, List, [], ◌∷◌, length, map, vec_len, rules, sym, ap, ap₂, subst, ◌∙◌, arith, Ok, Err, Result, IfSome, option_map}
use Rattle.std.proofs.lemmas.List.{length-append}
use Rattle.std.proofs.lemmas.Result.{err_from_is_err_and}
use Rattle.loops.specs.Program.{Expr, Program, Equation}
use Rattle.grammars.specs.Grammar.{sequence, many, optional}
use Rattle.poly_text.specs.CursorView.{rest}
use Rattle.poly_text.specs.Faults.{fault_of}
use Rattle.poly_text.specs.Lexemes.{Placed, tokens}
use Rattle.poly_text.specs.Reasons.{Fault}
use Rattle.poly_text.specs.declared.cursor.Cursor.{Cursor}
use Rattle.poly_text.specs.declared.error.TextError.{TextError}
use Rattle.poly_text.proofs.Paths.{GoesOn, start, on, over, in_parts, IsFault}
use Rattle.loop_model.specs.Parts.{equation_of}
use Rattle.loop_text.specs.Loops as loops
use Rattle.loop_text.specs.Loops.{LoopState, names, locals, init, nothing}
use Rattle.loop_text.specs.LoopReader.{program_in}
use Rattle.loop_text.specs.States as loop_states
use Rattle.loop_text.specs.States.{with_names, with_init}
use Rattle.loop_text.specs.declared.names.LoopNames.{LoopNames}
use Rattle.loop_model.specs.View.{program_of}
use Rattle.loop_runs.specs.Parts.{stage_read, stages_read}
use Rattle.loop_runs.specs.declared.stage.StageParts.{StageParts}
use Rattle.loop_runs.proofs.ChainParts.{taken_first}
use Rattle.loops.specs.Chain.{Chain}
use Rattle.loop_text.specs.ChainReader.{of_stages, chain_of}
use Rattle.loop_text.specs.Chains.{none_before, Rule, the_branches, further, chain, chain_end, chain_nothing, chain_language}
use Rattle.loop_text.specs.Raising.{in_chain, told_in_chain}
use Rattle.loop_text.specs.ChainStates.{whole}
use Rattle.loop_text.proofs.ChainReads.{whole_fails, whole_through}
use Rattle.loop_text.proofs.Raised.{up}
use Rattle.loop_text.proofs.RaisedReading.{reading_raised, fault_raised}
use Rattle.loop_text.proofs.ChainWell.{IsReadWellChain, chain_well}
use Rattle.loop_text.proofs.ChainMade.{first_formed, rest_formed, few_stages}
use Rattle.loop_text.proofs.chain_reading.read_chain.Goals as goal
use Rattle.loop_text.proofs.chain_reading.read_chain.Goals.{In_ok-stages}

abbrev Says : TextError → Result (Chain (Expr ℕ)) Fault → Type 0
Says e x = IfSome (option_map Err (fault_of e)) (λ (r : Result (Chain (Expr ℕ)) Fault). r ≡ x)

abbrev behind_all : Rule
behind_all = sequence (many further) chain_end

-- reading the whole chain is reading g from the state s of its first loop on
abbrev Path : List Placed → Rule → LoopState → List Placed → Type 0
Path ts g s us = GoesOn chain_language (sequence chain chain_end) chain_nothing ts g
    (in_chain 1 none_before s) us

-- behind the names, and behind the local names
abbrev behind_names : Rule
behind_names = sequence (up (optional locals)) (sequence (up (optional init)) the_branches)

abbrev behind_locals : Rule
behind_locals = sequence (up (optional init)) the_branches

begins : (ts : List Placed) → Path ts (sequence (up names) (sequence behind_names behind_all))
    nothing ts
begins ts =
    over (over (start chain_language _ _ _) _ _ _
    (in_parts chain_language (sequence (up names) behind_names) (many further) chain_nothing
    ts chain_end))
    _ _ _ (in_parts chain_language (up names) behind_names chain_nothing ts behind_all)

raised_on : (ts : List Placed) (f : loops.Rule) {h : Rule} (s t : LoopState) (us vs : List Placed)
    → Path ts (sequence (up f) h) s us → Ok (t, vs) ≡ loop_states.reading f s us → Path ts h t vs
raised_on ts f s t us vs path read = on path (ap (told_in_chain 1 none_before) read
    ∙ sym (reading_raised 1 none_before f s us))

module _ (bytes : List ℕ) (k : Cursor) (all : rest k ≡ tokens bytes) where
  fails : {h : Rule} (f : loops.Rule) (s : LoopState) (us : List Placed)
      → Path (rest k) (sequence (up f) h) s us → (e : TextError)
      → IsFault e (loop_states.reading f s us) → Says e (chain_of bytes)
  fails f s us path e h = subst (λ us. Says e (whole chain chain_nothing us)) all
      (whole_fails chain chain_nothing (rest k) path e (fault_raised 1 none_before f s us
      (fault_of e) h))

  module _ (vs : List (List ℕ)) (first : Cursor) (read : Ok (with_names vs [], rest first)
      ≡ loop_states.reading names nothing (rest k)) where
    named : Path (rest k) (sequence (up (optional locals)) (sequence behind_locals behind_all))
        (with_names vs []) (rest first)
    named =
        over (raised_on (rest k) names nothing (with_names vs []) (rest k) (rest first)
        (begins (rest k)) read)
        _ _ _ (in_parts chain_language (up (optional locals)) behind_locals
        (in_chain 1 none_before (with_names vs [])) (rest first) behind_all)

    module _ (ns : LoopNames) (second : Cursor) (more : Ok (with_names vs ns.locals, rest second)
        ≡ loop_states.reading (optional locals) (with_names vs []) (rest first))
        (same : ns.variables ≡ vs) where
      declared : Path (rest k) (sequence (up (optional init)) (sequence the_branches behind_all))
          (with_names ns.variables ns.locals) (rest second)
      declared =
          subst (λ us.
          Path (rest k) (sequence (up (optional init)) (sequence the_branches behind_all))
          (with_names us ns.locals) (rest second)) (sym same)
          (over (raised_on (rest k) (optional locals) (with_names vs []) (with_names vs ns.locals)
          (rest first) (rest second) named more)
          _ _ _ (in_parts chain_language (up (optional init)) the_branches
          (in_chain 1 none_before (with_names vs ns.locals)) (rest second) behind_all))

      module _ (is : List (Equation (Expr ℕ))) (third : Cursor)
          (started : Ok (with_init ns.variables ns.locals is, rest third) ≡ loop_states.reading
          (optional init) (with_names ns.variables ns.locals) (rest second)) where
        begun : Path (rest k) (sequence (sequence the_branches (many further)) chain_end)
            (with_init ns.variables ns.locals is) (rest third)
        begun =
            over (raised_on (rest k) (optional init) (with_names ns.variables ns.locals)
            (with_init ns.variables ns.locals is) (rest second) (rest third) declared started)
            _ _ _ (sym (in_parts chain_language the_branches (many further)
            (in_chain 1 none_before (with_init ns.variables ns.locals is)) (rest third) chain_end))

        through : whole (sequence the_branches (many further))
            (in_chain 1 none_before (with_init ns.variables ns.locals is)) (rest third)
            ≡ chain_of bytes
        through = whole_through chain chain_nothing (rest k) (sequence the_branches (many further))
            (in_chain 1 none_before (with_init ns.variables ns.locals is)) (rest third) begun
            ∙ ap (whole chain chain_nothing) all

pub returns-in_err-names : goal.returns-in_err-names
returns-in_err-names c =
    let p = err_from_is_err_and c.from_residual.result c.from_residual.ensures.1 in
    rw (p.1, p.2) (fails c.args.bytes.now c.new.result c.new.ensures names nothing
    (rest c.new.result) (begins (rest c.new.result)) c.in_err-names.field-0.0
    c.in_err-names.ensures.reads)

pub returns-in_err-names-2 : goal.returns-in_err-names-2
returns-in_err-names-2 c =
    let p = err_from_is_err_and c.from_residual-in_err-names-2.result
    c.from_residual-in_err-names-2.ensures.1 in
    let vs = c.in_ok-names.names.variables in
    rw (p.1, p.2) (fails c.args.bytes.now c.new.result c.new.ensures (optional locals)
    (with_names vs []) (rest c.in_ok-names.behind)
    (named c.args.bytes.now c.new.result c.new.ensures vs c.in_ok-names.behind
    c.in_ok-names.ensures.reads) c.in_err-names-2.field-0.0 c.in_err-names-2.ensures.reads)

pub returns-in_err-start : goal.returns-in_err-start
returns-in_err-start c =
    let p = err_from_is_err_and c.from_residual-in_err-start.result
    c.from_residual-in_err-start.ensures.1 in
    let ns = c.in_ok-names-2.names in
    rw (p.1, p.2) (fails c.args.bytes.now c.new.result c.new.ensures (optional init)
    (with_names ns.variables ns.locals) (rest c.in_ok-names-2.behind)
    (declared c.args.bytes.now c.new.result c.new.ensures c.in_ok-names.names.variables
    c.in_ok-names.behind c.in_ok-names.ensures.reads ns c.in_ok-names-2.behind
    c.in_ok-names-2.ensures.reads c.in_ok-names-2.ensures.variables)
    c.in_err-start.field-0.0 c.in_err-start.ensures)

pub returns-in_err-stages : goal.returns-in_err-stages
returns-in_err-stages c =
    let p = err_from_is_err_and c.from_residual-in_err-stages.result
    c.from_residual-in_err-stages.ensures.1 in
    let is = map equation_of c.in_ok-start.start.items in
    rw (p.1, p.2) (subst (Says c.in_err-stages.field-0.0)
    (through c.args.bytes.now c.new.result c.new.ensures c.in_ok-names.names.variables
    c.in_ok-names.behind c.in_ok-names.ensures.reads c.in_ok-names-2.names
    c.in_ok-names-2.behind c.in_ok-names-2.ensures.reads c.in_ok-names-2.ensures.variables is
    c.in_ok-start.at c.in_ok-start.ensures)
    (c.in_err-stages.ensures.stages is))

pub read_stages-requires-clause-few : goal.read_stages-requires-clause-few
read_stages-requires-clause-few c =
    let ns = c.in_ok-names-2.names in
    let long = ap length c.in_ok-names-2.ensures.all ∙ length-append ns.variables ns.locals in
    let same = ap length c.in_ok-names-2.ensures.variables in
    omega (arith, long, same, c.in_ok-names.ensures.few, c.in_ok-names-2.ensures.few)

-- ---- a chain that was read
-- by its first loop and the others
abbrev program_read : In_ok-stages → Program (Expr ℕ)
program_read c = program_in (with_init c.in_ok-names-2.names.variables c.in_ok-names-2.names.locals
    (map equation_of c.in_ok-start.start.items))

is_read : (c : In_ok-stages) (x : StageParts) (ys : List StageParts)
    → c.in_ok-stages.stages.items ≡ x ∷ ys
    → Ok (of_stages (program_read c) (stage_read x ∷ stages_read ys)) ≡ chain_of c.args.bytes.now
is_read c x ys e =
    let ns = c.in_ok-names-2.names in
    let is = map equation_of c.in_ok-start.start.items in
    ap (λ gs. Ok (of_stages (program_in (with_init ns.variables ns.locals is)) (stages_read gs)))
    (sym e)
    ∙ c.in_ok-stages.ensures.stages is
    ∙ through c.args.bytes.now c.new.result c.new.ensures c.in_ok-names.names.variables
    c.in_ok-names.behind c.in_ok-names.ensures.reads ns c.in_ok-names-2.behind
    c.in_ok-names-2.ensures.reads c.in_ok-names-2.ensures.variables is c.in_ok-start.at
    c.in_ok-start.ensures

is_well : (c : In_ok-stages) (x : StageParts) (ys : List StageParts)
    → c.in_ok-stages.stages.items ≡ x ∷ ys
    → IsReadWellChain (of_stages (program_read c) (stage_read x ∷ stages_read ys))
is_well c x ys e = chain_well c.args.bytes.now _ (sym (is_read c x ys e))

pub remove-branches-requires : goal.remove-branches-requires
remove-branches-requires c =
    let long : length c.in_ok-stages.stages.items ≡ vec_len c.in_ok-stages.stages = search rules in
    let some = c.in_ok-stages.ensures.some in
    omega (arith, long, some)

pub new-first-requires-clause-some_name : goal.new-first-requires-clause-some_name
new-first-requires-clause-some_name c =
    let r = (goal.at-new-first-requires-clause-some_name c).In_ok-stages in
    let e = taken_first r.in_ok-stages.stages.items c.remove-branches.new.self.items
    c.remove-branches.result
    r.in_ok-stages.ensures.some c.remove-branches.ensures.value c.remove-branches.ensures.items in
    (first_formed (program_read r) (stage_read c.remove-branches.result)
    c.remove-branches.new.self.items
    (is_well r c.remove-branches.result c.remove-branches.new.self.items e)).some_name

pub new-first-requires-clause-well_formed : goal.new-first-requires-clause-well_formed
new-first-requires-clause-well_formed c =
    let r = (goal.at-new-first-requires-clause-well_formed c).In_ok-stages in
    let e = taken_first r.in_ok-stages.stages.items c.remove-branches.new.self.items
    c.remove-branches.result
    r.in_ok-stages.ensures.some c.remove-branches.ensures.value c.remove-branches.ensures.items in
    (first_formed (program_read r) (stage_read c.remove-branches.result)
    c.remove-branches.new.self.items
    (is_well r c.remove-branches.result c.remove-branches.new.self.items e)).formed

pub new-first-requires-clause-limited : goal.new-first-requires-clause-limited
new-first-requires-clause-limited c =
    let r = (goal.at-new-first-requires-clause-limited c).In_ok-stages in
    let e = taken_first r.in_ok-stages.stages.items c.remove-branches.new.self.items
    c.remove-branches.result
    r.in_ok-stages.ensures.some c.remove-branches.ensures.value c.remove-branches.ensures.items in
    (first_formed (program_read r) (stage_read c.remove-branches.result)
    c.remove-branches.new.self.items
    (is_well r c.remove-branches.result c.remove-branches.new.self.items e)).limits

pub further_stages-requires : goal.further_stages-requires
further_stages-requires c =
    let r = (goal.at-further_stages-requires c).In_ok-stages in
    let e = taken_first r.in_ok-stages.stages.items c.remove-branches.new.self.items
    c.remove-branches.result
    r.in_ok-stages.ensures.some c.remove-branches.ensures.value c.remove-branches.ensures.items in
    rest_formed (program_read r) (stage_read c.remove-branches.result)
    c.remove-branches.new.self.items
    (is_well r c.remove-branches.result c.remove-branches.new.self.items e)
    (program_of c.new-first.result)
    c.new-first.ensures

pub new-requires-2-clause-few : goal.new-requires-2-clause-few
new-requires-2-clause-few c =
    let r = (goal.at-new-requires-2-clause-few c).In_ok-stages in
    let e = taken_first r.in_ok-stages.stages.items c.remove-branches.new.self.items
    c.remove-branches.result
    r.in_ok-stages.ensures.some c.remove-branches.ensures.value c.remove-branches.ensures.items in
    few_stages (program_read r) (stage_read c.remove-branches.result)
    c.remove-branches.new.self.items
    (is_well r c.remove-branches.result c.remove-branches.new.self.items e)
    c.in_ok-further.further.items
    c.in_ok-further.ensures.stages

pub returns : goal.returns
returns c =
    let r = (goal.at-returns c).In_ok-stages in
    let e = taken_first r.in_ok-stages.stages.items c.remove-branches.new.self.items
    c.remove-branches.result
    r.in_ok-stages.ensures.some c.remove-branches.ensures.value c.remove-branches.ensures.items in
    ap Ok c.new-2.ensures
    ∙ ap₂ (λ f ls. Ok (record { first = f; further = ls })) c.new-first.ensures
    c.in_ok-further.ensures.stages
    ∙ is_read r c.remove-branches.result c.remove-branches.new.self.items e

pub returns-in_err-further : goal.returns-in_err-further
returns-in_err-further c =
    let p = err_from_is_err_and c.from_residual-in_err-further.result
    c.from_residual-in_err-further.ensures.1 in
    rw (p.1, p.2) tt
