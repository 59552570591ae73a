use Rattle.std.proofs.Common.{◌≡◌, ℕ, suc, true, List, [], refl, ap, sym, subst, ◌∙◌, Ok, None, arith}
use Rattle.program_model.specs.Program.{behind}
use Rattle.program_text.proofs.BlockViews.{block_push, set_statement}
use Rattle.program_text.proofs.Answering.{err_from_is_err_and, sequence, rest, tokens_from, is_sign_of, seen_lexeme, limit, Cursor, GoesOn, start, on, ends, stops_going, stops_last_going, sign_read, sign_at_fault, ProgramValue, keep, statement_fault, begin_statement, end_statement, with_set, targets, values, set_end, several, program_language, in_set, at_statement, with_block, block_of, statement_limit}
use Rattle.program_text.proofs.assignments.Reader.several.Goals as goal
use Rattle.program_text.proofs.assignments.Reader.several.Goals.{In_ok-targets}

-- behind the parenthesis
opened : (names : List (List ℕ)) (n m d : ℕ) (w : ProgramValue) (k end : Cursor)
    → is_sign_of (seen_lexeme k.token.lexeme) 40 ≡ true → statement_limit n ≡ None
    → m ≡ suc n → tokens_from k.text.now k.token.end ≡ rest end
    → GoesOn program_language several (at_statement names n d w) (rest k)
    (sequence targets (sequence values set_end)) (at_statement names m d w) (rest end)
opened names n m d w k end is free more next =
    subst (λ m. GoesOn program_language several (at_statement names n d w) (rest k)
    (sequence targets (sequence values set_end)) (at_statement names m d w) (rest end))
    (sym more)
    (on (start program_language _ _ _) (sign_read 40 statement_fault begin_statement keep
    (at_statement names n d w) k refl is free end next))

pub returns-in_err-begin_statement-clause-goes : goal.returns-in_err-begin_statement-clause-goes
returns-in_err-begin_statement-clause-goes c = λ d w.
    let s = at_statement c.args.self.now.names.now c.args.begun.now d
    (with_block (block_of c.args.block.now.items) w) in
    stops_going (start program_language _ _ _) _ (err_from_is_err_and c.from_residual.result
    c.from_residual.ensures.1)
    (rw c.in_err-begin_statement.ensures.limit.1 (sign_at_fault 40 statement_fault begin_statement
    keep s c.args.cursor refl c.requires limit c.in_err-begin_statement.ensures.limit.0))

pub returns-in_err-targets-clause-goes : goal.returns-in_err-targets-clause-goes
returns-in_err-targets-clause-goes c = λ d w.
    let names = c.args.self.now.names.now in
    let v = with_block (block_of c.args.block.now.items) w in
    let m = c.begin_statement.new.begun in
    let begun = c.in_ok-begin_statement.ensures in
    stops_going (opened names c.args.begun.now m d v c.args.cursor
    c.next.result c.requires begun.limit begun.count c.next.ensures.tokens) _
    (err_from_is_err_and c.from_residual-in_err-targets.result
    c.from_residual-in_err-targets.ensures.1) (c.in_err-targets.ensures.reads m d v)

behind_targets : (c : In_ok-targets) (d : ℕ) (w : ProgramValue)
    → GoesOn program_language several (at_statement c.args.self.now.names.now c.args.begun.now d w)
    (rest c.args.cursor) (sequence values set_end)
    (in_set c.args.self.now.names.now c.begin_statement.new.begun d w c.in_ok-targets.targets.items
    []
    []) (rest c.in_ok-targets.behind)
behind_targets c d w =
    let names = c.args.self.now.names.now in
    let m = c.begin_statement.new.begun in
    let begun = c.in_ok-begin_statement.ensures in
    on (opened names c.args.begun.now m d w c.args.cursor
    c.next.result c.requires begun.limit begun.count c.next.ensures.tokens)
    (c.in_ok-targets.ensures.reads m d w)

pub returns-in_err-sides-clause-goes : goal.returns-in_err-sides-clause-goes
returns-in_err-sides-clause-goes c = λ d w.
    let v = with_block (block_of c.args.block.now.items) w in
    stops_going (behind_targets (goal.at-returns-in_err-sides-clause-goes c).In_ok-targets d v) _
    (err_from_is_err_and c.from_residual-in_err-sides.result
    c.from_residual-in_err-sides.ensures.1)
    (c.in_err-sides.ensures.reads c.begin_statement.new.begun d v
    c.in_ok-targets.targets.items (omega (arith, c.in_ok-targets.targets.ok, c.len.ensures)))

pub returns-in_err-end-clause-goes : goal.returns-in_err-end-clause-goes
returns-in_err-end-clause-goes c = λ d w.
    let v = with_block (block_of c.args.block.now.items) w in
    let sides = c.in_ok-sides.ensures.reads c.begin_statement.new.begun d v
    c.in_ok-targets.targets.items (omega (arith, c.in_ok-targets.targets.ok, c.len.ensures)) in
    stops_last_going (on (behind_targets (goal.at-returns-in_err-end-clause-goes c).In_ok-targets d
    v) sides) _ (err_from_is_err_and c.from_residual-in_err-end.result
    c.from_residual-in_err-end.ensures.1)
    (c.in_err-end.ensures.goes end_statement with_set _)

pub returns-clause-goes : goal.returns-clause-goes
returns-clause-goes c = λ d w.
    let names = c.args.self.now.names.now in
    let b = block_of c.args.block.now.items in
    let v = with_block b w in
    let m = c.begin_statement.new.begun in
    let sides = c.in_ok-sides.ensures.reads m d v
    c.in_ok-targets.targets.items (omega (arith, c.in_ok-targets.targets.ok, c.len.ensures)) in
    ap (λ b. Ok (at_statement names m d (with_block b w), rest c.in_ok-end.end))
    (ap block_of c.in_ok-push.ensures.items ∙ block_push c.args.block.now.items _
    ∙ ap (behind b) (set_statement _))
    ∙ ends (on (behind_targets (goal.at-returns-clause-goes c).In_ok-targets d v) sides)
    (c.in_ok-end.ensures.goes end_statement with_set _)
