use Rattle.std.proofs.Common.{◌≡◌, ℕ, List, [], true, false, length, arith, ap, sym, subst, ◌∙◌, map, Ok, Result, Err, IfSome, option_map}
use Rattle.std.proofs.lemmas.List.{length-append}
use Rattle.loops.specs.Program.{Program, Expr}
use Rattle.poly_text.specs.Faults.{fault_of}
use Rattle.poly_text.specs.declared.error.TextError.{TextError}
use Rattle.poly_text.specs.declared.error.TextError.TheVariants as text_error
use Rattle.loop_text.specs.LoopReader.{program_in, loop_of}
use Rattle.loop_text.proofs.WellFormed.{loop_well}
use Rattle.loop_text.proofs.WholeReads.{whole_fails, whole_fails_last, whole_read}
use Rattle.loop_text.proofs.Answering.{err_from_is_err_and, sequence, optional, some, rest, Placed, tokens, Fault, Cursor, IsFault, in_parts, equation_of, parts, GoesOn, start, on, ends, over, seen_lexeme, end_read, end_barred, is_end_of, branches_of, in_branches, LoopState, Rule, names, init, branch, loop, the_end, nothing, loop_language, reading, whole, with_names}
use Rattle.loop_text.specs.Loops.{locals}
use Rattle.loop_text.specs.declared.names.LoopNames.{LoopNames}
use Rattle.loop_text.proofs.read_loop.Goals as goal
use Rattle.loop_text.proofs.read_loop.Goals.{In_ok-branches}

abbrev loop_whole : Rule
loop_whole = sequence loop the_end

abbrev branches_whole : Rule
branches_whole = sequence (some branch) the_end

abbrev Says : TextError → Result (Program (Expr ℕ)) Fault → Type 0
Says e x = IfSome (option_map Err (fault_of e)) (λ (r : Result (Program (Expr ℕ)) Fault). r ≡ x)

-- behind the names, and behind the local names
abbrev after_names : Rule
after_names = sequence (optional locals) (sequence (optional init) (some branch))

abbrev after_locals : Rule
after_locals = sequence (optional init) (some branch)

abbrev Goes_on : List Placed → Rule → LoopState → List Placed → Type 0
Goes_on ts g s us = GoesOn loop_language loop_whole nothing ts g s us

begun : (ts : List Placed) → Goes_on ts (sequence names (sequence after_names the_end)) nothing ts
begun ts = over (start loop_language _ _ _) _ _ _ (in_parts loop_language names after_names nothing
    ts the_end)

named : {ts us : List Placed} {s : LoopState} → Goes_on ts (sequence after_names the_end) s us
    → Goes_on ts (sequence (optional locals) (sequence after_locals the_end)) s us
named {us = us} {s = s} so_far = over so_far _ _ _ (in_parts loop_language (optional locals)
    after_locals s us the_end)

declared : {ts us : List Placed} {s : LoopState} → Goes_on ts (sequence after_locals the_end) s us
    → Goes_on ts (sequence (optional init) branches_whole) s us
declared {us = us} {s = s} so_far =
    over so_far _ _ _ (in_parts loop_language (optional init) (some branch) s us the_end)

module _ (bytes : List ℕ) (k : Cursor) (all : rest k ≡ tokens bytes) where
  fails : {f h : Rule} {t : LoopState} {us : List Placed} → Goes_on (rest k) (sequence f h) t us
      → (e : TextError) → IsFault e (reading f t us) → Says e (loop_of bytes)
  fails path e h = subst (λ ts. Says e (whole loop nothing ts)) all
      (whole_fails loop nothing (rest k) path e h)

  module _ (t : LoopState) (third : Cursor) (path : Goes_on (rest k) the_end t (rest third)) where
    all_read : is_end_of (seen_lexeme third.token.lexeme) ≡ true → Ok (program_in t) ≡ loop_of bytes
    all_read e = whole_read loop nothing (rest k) t (ends path (end_read t third e))
        ∙ ap (whole loop nothing) all

    not_ended : is_end_of (seen_lexeme third.token.lexeme) ≡ false
        → Says (text_error.Syntax third.token.at) (loop_of bytes)
    not_ended e =
        subst (λ ts. Says (text_error.Syntax third.token.at) (whole loop nothing ts)) all
        (whole_fails_last loop nothing (rest k) path (text_error.Syntax third.token.at)
        (end_barred t third e))

pub returns-in_err-names : goal.returns-in_err-names
returns-in_err-names c =
    let p = err_from_is_err_and c.from_residual.result c.from_residual.ensures.1 in
    rw (p.1, p.2) (fails c.args.bytes.now c.new.result c.new.ensures (begun (rest c.new.result))
    c.in_err-names.field-0.0 c.in_err-names.ensures.reads)

pub returns-in_err-names-2 : goal.returns-in_err-names-2
returns-in_err-names-2 c =
    let p = err_from_is_err_and c.from_residual-in_err-names-2.result
    c.from_residual-in_err-names-2.ensures.1 in
    rw (p.1, p.2) (fails c.args.bytes.now c.new.result c.new.ensures
    (named (on (begun (rest c.new.result)) c.in_ok-names.ensures.reads))
    c.in_err-names-2.field-0.0
    (c.in_err-names-2.ensures.reads))

-- behind the local names
after : (k d e : Cursor) (vs : List (List ℕ)) (ns : LoopNames) → Ok (with_names vs [], rest d)
    ≡ reading names nothing (rest k) → Ok (with_names vs ns.locals, rest e)
    ≡ reading (optional locals) (with_names vs []) (rest d)
    → ns.variables ≡ vs → Goes_on (rest k) (sequence (optional init) branches_whole)
    (with_names ns.variables ns.locals) (rest e)
after k d e vs ns read more same =
    subst (λ vs. Goes_on (rest k) (sequence (optional init) branches_whole)
    (with_names vs ns.locals) (rest e)) (sym same)
    (declared (on (named (on (begun (rest k)) read)) more))

pub returns-in_err-start : goal.returns-in_err-start
returns-in_err-start c =
    let p = err_from_is_err_and c.from_residual-in_err-start.result
    c.from_residual-in_err-start.ensures.1 in
    rw (p.1, p.2) (fails c.args.bytes.now c.new.result c.new.ensures
    (after c.new.result c.in_ok-names.behind c.in_ok-names-2.behind
    c.in_ok-names.names.variables c.in_ok-names-2.names c.in_ok-names.ensures.reads
    c.in_ok-names-2.ensures.reads c.in_ok-names-2.ensures.variables)
    c.in_err-start.field-0.0 c.in_err-start.ensures)

pub returns-in_err-branches : goal.returns-in_err-branches
returns-in_err-branches c =
    let p = err_from_is_err_and c.from_residual-in_err-branches.result
    c.from_residual-in_err-branches.ensures.1 in
    let start = map equation_of c.in_ok-start.start.items in
    rw (p.1, p.2) (fails c.args.bytes.now c.new.result c.new.ensures
    (on (after c.new.result c.in_ok-names.behind c.in_ok-names-2.behind
    c.in_ok-names.names.variables c.in_ok-names-2.names c.in_ok-names.ensures.reads
    c.in_ok-names-2.ensures.reads c.in_ok-names-2.ensures.variables) c.in_ok-start.ensures)
    c.in_err-branches.field-0.0 (c.in_err-branches.ensures.reads start))

-- behind the branches
abbrev read_in : In_ok-branches → LoopState
read_in c =
    let ns = c.in_ok-names-2.names in
    in_branches ns.variables ns.locals c.read_branches.new.begun
    (map equation_of c.in_ok-start.start.items) (branches_of c.in_ok-branches.branches.items)

behind_branches : (c : In_ok-branches) → Goes_on (rest c.new.result) the_end (read_in c)
    (rest c.in_ok-branches.end)
behind_branches c =
    on (on (after c.new.result c.in_ok-names.behind c.in_ok-names-2.behind
    c.in_ok-names.names.variables c.in_ok-names-2.names c.in_ok-names.ensures.reads
    c.in_ok-names-2.ensures.reads c.in_ok-names-2.ensures.variables) c.in_ok-start.ensures)
    (c.in_ok-branches.ensures.reads (map equation_of c.in_ok-start.start.items))

pub returns-then-not-is_end : goal.returns-then-not-is_end
returns-then-not-is_end c =
    let r = (goal.at-returns-then-not-is_end c).In_ok-branches in
    rw c.syntax_fault.ensures (not_ended r.args.bytes.now r.new.result r.new.ensures (read_in r)
    r.in_ok-branches.end (behind_branches r) (sym c.if-not-is_end.ensures))

is_read : (c : In_ok-branches) → is_end_of (seen_lexeme c.in_ok-branches.end.token.lexeme) ≡ true
    → Ok (parts c.in_ok-names-2.names.variables c.in_ok-names-2.names.locals
    c.in_ok-start.start.items c.in_ok-branches.branches.items) ≡ loop_of c.args.bytes.now
is_read c ended = all_read c.args.bytes.now c.new.result c.new.ensures (read_in c)
    c.in_ok-branches.end (behind_branches c) ended

pub read_branches-requires-clause-few : goal.read_branches-requires-clause-few
read_branches-requires-clause-few c =
    let ns = c.in_ok-names-2.names in
    let long = ap length c.in_ok-names-2.ensures.all ∙ length-append ns.variables ns.locals in
    let same = ap length c.in_ok-names-2.ensures.variables in
    omega (arith, long, same, c.in_ok-names.ensures.few, c.in_ok-names-2.ensures.few)

pub new-requires-2-clause-some_name : goal.new-requires-2-clause-some_name
new-requires-2-clause-some_name c =
    (loop_well c.args.bytes.now _
    (sym (is_read (goal.at-new-requires-2-clause-some_name c).In_ok-branches
    (sym c.if-not-is_end.ensures)))).some_name

pub new-requires-2-clause-well_formed : goal.new-requires-2-clause-well_formed
new-requires-2-clause-well_formed c =
    (loop_well c.args.bytes.now _
    (sym (is_read (goal.at-new-requires-2-clause-well_formed c).In_ok-branches
    (sym c.if-not-is_end.ensures)))).formed

pub new-requires-2-clause-limited : goal.new-requires-2-clause-limited
new-requires-2-clause-limited c =
    (loop_well c.args.bytes.now _
    (sym (is_read (goal.at-new-requires-2-clause-limited c).In_ok-branches
    (sym c.if-not-is_end.ensures)))).limits

pub returns : goal.returns
returns c = ap Ok c.new-2.ensures ∙ is_read (goal.at-returns c).In_ok-branches
    (sym c.if-not-is_end.ensures)
