use Rattle.std.proofs.Common.{◌≡◌, ℕ, suc, true, List, ap, sym, subst, [], ◌++◌, length, ◌∙◌, map, None, Ok}
use Rattle.loop_model.specs.Words.{branch_word}
use Rattle.loops.specs.WellFormed.{local_places}
use Rattle.loop_text.specs.declared.names.LoopNames.{LoopNames}
use Rattle.loop_text.proofs.branches.read_branch.Goals.{In_ok-unset}
use Rattle.loops.specs.Program.{Expr, Statement}
use Rattle.loop_text.proofs.Answering.{Inits, map_push, err_from_is_err_and, sequence, rest, tokens_from, seen_lexeme, limit, Cursor, no_first, GoesOn, start, on, ends, stops_going, stops_last_going, statement_of, Begun, keyword_read, keyword_at_fault, keyword_barred, branch_fault, begin_branch, keep, branch_word_token, head, statements, branch, loop_language, Before, between, in_branches, branches_of, is_keyword_of, branch_limit}
use Rattle.loop_text.proofs.branches.read_branch.Goals as goal

abbrev before : LoopNames → Inits → List (List (Statement (Expr ℕ))) → Before
before ns init bs = record {
  names = ns.variables;
  locals = ns.locals;
  init = init;
  branches = bs;
  statements = [];
}

-- behind the keyword
opened : (ns : LoopNames) (n m : Begun) (init : Inits) (bs : List (List (Statement (Expr ℕ))))
    (k d : Cursor) → ns.all ≡ ns.variables ++ ns.locals → is_keyword_of (seen_lexeme k.token.lexeme)
    branch_word ≡ true → branch_limit n.branches ≡ None
    → m ≡ record n { branches = suc n.branches } → tokens_from k.text.now k.token.end ≡ rest d
    → GoesOn loop_language branch (in_branches ns.variables ns.locals n init bs) (rest k)
    (sequence head statements)
    (between ns.all (local_places (length ns.variables) (length ns.locals)) m
    (before ns init bs)) (rest d)
opened ns n m init bs k d all is free more next =
    let us = local_places (length ns.variables) (length ns.locals) in
    subst (λ m. GoesOn loop_language branch (in_branches ns.variables ns.locals n init bs) (rest k)
    (sequence head statements) (between ns.all us m (before ns init bs)) (rest d)) (sym more)
    (subst (λ names. GoesOn loop_language branch (in_branches ns.variables ns.locals n init bs)
    (rest k) (sequence head statements)
    (between names us (record n { branches = suc n.branches }) (before ns init bs))
    (rest d)) (sym all)
    (on (start loop_language _ _ _) (keyword_read branch_word k branch_fault begin_branch keep
    (in_branches ns.variables ns.locals n init bs) is free (rest d) next)))

pub returns-then-not-is_keyword-clause-goes : goal.returns-then-not-is_keyword-clause-goes
returns-then-not-is_keyword-clause-goes c = λ init.
    let k = c.args.cursor in
    let s = in_branches c.args.names.now.variables c.args.names.now.locals c.args.begun.now init
    (branches_of c.args.branches.now.items) in
    rw c.syntax_fault.ensures (no_first loop_language branch_word_token (sequence head statements) s
    (rest k) _ (keyword_barred branch_word k branch_fault begin_branch keep s
    (sym c.if-not-is_keyword.ensures)))

pub returns-in_err-begin_branch-clause-goes : goal.returns-in_err-begin_branch-clause-goes
returns-in_err-begin_branch-clause-goes c = λ init.
    let k = c.args.cursor in
    let s = in_branches c.args.names.now.variables c.args.names.now.locals c.args.begun.now init
    (branches_of c.args.branches.now.items) in
    stops_going (start loop_language _ _ _) _ (err_from_is_err_and c.from_residual.result
    c.from_residual.ensures.1)
    (rw c.in_err-begin_branch.ensures.limit.1 (keyword_at_fault branch_word k branch_fault
    begin_branch keep s (sym c.if-not-is_keyword.ensures) limit
    c.in_err-begin_branch.ensures.limit.0))

pub returns-in_err-first-clause-goes : goal.returns-in_err-first-clause-goes
returns-in_err-first-clause-goes c = λ init.
    let ns = c.args.names.now in
    let bs = branches_of c.args.branches.now.items in
    let n = c.begin_branch.new.self in
    let begun = c.in_ok-begin_branch.ensures in
    stops_going (opened ns c.args.begun.now n init bs c.args.cursor c.next.result c.requires.all
    (sym c.if-not-is_keyword.ensures) begun.limit begun.count c.next.ensures.tokens) _
    (err_from_is_err_and c.from_residual-in_err-first.result
    c.from_residual-in_err-first.ensures.1)
    (c.in_err-first.ensures.goes
    (between ns.all (local_places (length ns.variables) (length ns.locals)) n
    (before ns init bs)))

-- behind what stands before the statements
headed : (c : In_ok-unset) (init : Inits)
    → GoesOn loop_language branch (in_branches c.args.names.now.variables c.args.names.now.locals
    c.args.begun.now init (branches_of c.args.branches.now.items)) (rest c.args.cursor)
    statements (between c.args.names.now.all c.in_ok-unset.unset.items c.begin_branch.new.self
    (before c.args.names.now init (branches_of c.args.branches.now.items)))
    (rest c.in_ok-first.first)
headed c init =
    let ns = c.args.names.now in
    let bs = branches_of c.args.branches.now.items in
    let n = c.begin_branch.new.self in
    let begun = c.in_ok-begin_branch.ensures in
    let places = c.in_ok-unset.ensures ∙ ap (λ m. local_places m c.len-2.result) c.len.ensures.len
    ∙ ap (local_places (length ns.variables)) c.len-2.ensures.len in
    subst (λ us. GoesOn loop_language branch (in_branches ns.variables ns.locals c.args.begun.now
    init bs) (rest c.args.cursor) statements (between ns.all us n (before ns init bs))
    (rest c.in_ok-first.first)) (sym places)
    (on (opened ns c.args.begun.now n init bs c.args.cursor c.next.result c.requires.all
    (sym c.if-not-is_keyword.ensures) begun.limit begun.count c.next.ensures.tokens)
    (c.in_ok-first.ensures.goes
    (between ns.all (local_places (length ns.variables) (length ns.locals)) n
    (before ns init bs))))

pub returns-in_err-statements-clause-goes : goal.returns-in_err-statements-clause-goes
returns-in_err-statements-clause-goes c = λ init.
    let b = before c.args.names.now init (branches_of c.args.branches.now.items) in
    stops_last_going (headed (goal.at-returns-in_err-statements-clause-goes c).In_ok-unset init) _
    (err_from_is_err_and c.from_residual-in_err-statements.result
    c.from_residual-in_err-statements.ensures.1) (c.in_err-statements.ensures.reads b)

pub returns-clause-goes : goal.returns-clause-goes
returns-clause-goes c = λ init.
    let ns = c.args.names.now in
    let b = before ns init (branches_of c.args.branches.now.items) in
    ap (λ bs. Ok (
      in_branches ns.variables ns.locals c.read_statements.new.begun init bs,
      rest c.in_ok-statements.end,
    ))
    (ap branches_of c.in_ok-push.ensures.items ∙ map_push (λ b. map statement_of b.items)
    c.args.branches.now.items c.in_ok-statements.statements)
    ∙ ends (headed (goal.at-returns-clause-goes c).In_ok-unset init)
    (c.in_ok-statements.ensures.reads b)
