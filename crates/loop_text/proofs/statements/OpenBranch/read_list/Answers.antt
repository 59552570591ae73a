use Rattle.std.proofs.Common.{◌≡◌, ℕ, suc, true, List, [], refl, ap, sym, subst, ◌∙◌, map, Ok, None, arith}
use Rattle.loop_text.proofs.Answering.{err_from_is_err_and, sequence, rest, tokens_from, is_sign_of, seen_lexeme, limit, Cursor, statement_of, GoesOn, start, on, ends, stops_going, stops_last_going, sign_read, sign_at_fault, Begun, keep, statement_fault, begin_statement, end_statement, with_statement, targets, values, statement_end, several, loop_language, Before, between, behind, in_statement, statement_limit}
use Rattle.loop_text.specs.OpenBranch.{within}
use Rattle.loop_text.proofs.statements.OpenBranch.read_list.Goals as goal
use Rattle.loop_text.proofs.statements.OpenBranch.read_list.Goals.{In_ok-targets}

-- behind the parenthesis
opened : (names : List (List ℕ)) (us : List ℕ) (n m : Begun) (b : Before) (k d : Cursor)
    → is_sign_of (seen_lexeme k.token.lexeme) 40 ≡ true → statement_limit n.statements ≡ None
    → m ≡ record n { statements = suc n.statements }
    → tokens_from k.text.now k.token.end ≡ rest d
    → GoesOn loop_language several (between names us n b) (rest k)
    (sequence targets (sequence values statement_end)) (between names us m b) (rest d)
opened names us n m b k d is free more next =
    subst (λ m. GoesOn loop_language several (between names us n b) (rest k)
    (sequence targets (sequence values statement_end)) (between names us m b) (rest d))
    (sym more)
    (on (start loop_language _ _ _) (sign_read 40 statement_fault begin_statement keep
    (between names us n b) k refl is free d next))

pub returns-in_err-begin_statement-clause-goes : goal.returns-in_err-begin_statement-clause-goes
returns-in_err-begin_statement-clause-goes c = λ b.
    let s = within c.args.self.now c.args.begun.now b in
    stops_going (start loop_language _ _ _) _ (err_from_is_err_and c.from_residual.result
    c.from_residual.ensures.1)
    (rw c.in_err-begin_statement.ensures.limit.1 (sign_at_fault 40 statement_fault begin_statement
    keep s c.args.cursor refl c.requires limit c.in_err-begin_statement.ensures.limit.0))

pub returns-in_err-targets-clause-goes : goal.returns-in_err-targets-clause-goes
returns-in_err-targets-clause-goes c = λ b.
    let o = c.args.self.now in
    let now = behind b (map statement_of o.statements.items) in
    let n = c.begin_statement.new.self in
    let begun = c.in_ok-begin_statement.ensures in
    stops_going (opened o.names.now o.unset.items c.args.begun.now n now c.args.cursor
    c.next.result c.requires begun.limit begun.count c.next.ensures.tokens) _
    (err_from_is_err_and c.from_residual-in_err-targets.result
    c.from_residual-in_err-targets.ensures.1) (c.in_err-targets.ensures.reads
    o.unset.items n now)

behind_targets : (c : In_ok-targets) (b : Before)
    → GoesOn loop_language several (between c.args.self.now.names.now c.args.self.now.unset.items
    c.args.begun.now
    b) (rest c.args.cursor)
    (sequence values statement_end) (in_statement c.args.self.now.names.now
    c.args.self.now.unset.items
    c.begin_statement.new.self b c.in_ok-targets.targets.items [])
    (rest c.in_ok-targets.behind)
behind_targets c b =
    let o = c.args.self.now in
    let n = c.begin_statement.new.self in
    let begun = c.in_ok-begin_statement.ensures in
    on (opened o.names.now o.unset.items c.args.begun.now n b c.args.cursor
    c.next.result c.requires begun.limit begun.count c.next.ensures.tokens)
    (c.in_ok-targets.ensures.reads o.unset.items n b)

pub returns-in_err-values-clause-goes : goal.returns-in_err-values-clause-goes
returns-in_err-values-clause-goes c = λ b.
    let now = behind b (map statement_of c.args.self.now.statements.items) in
    stops_going (behind_targets (goal.at-returns-in_err-values-clause-goes c).In_ok-targets now) _
    (err_from_is_err_and c.from_residual-in_err-values.result
    c.from_residual-in_err-values.ensures.1)
    (rw c.deref.ensures.value at c.in_err-values.ensures.reads c.begin_statement.new.self now
    c.in_ok-targets.targets.items (omega (arith, c.in_ok-targets.targets.ok, c.len.ensures)))

pub returns-in_err-end-clause-goes : goal.returns-in_err-end-clause-goes
returns-in_err-end-clause-goes c = λ b.
    let now = behind b (map statement_of c.args.self.now.statements.items) in
    let sides = rw c.deref.ensures.value at c.in_ok-values.ensures.reads c.begin_statement.new.self
    now c.in_ok-targets.targets.items (omega (arith, c.in_ok-targets.targets.ok, c.len.ensures)) in
    stops_last_going (on (behind_targets (goal.at-returns-in_err-end-clause-goes c).In_ok-targets
    now) sides) _ (err_from_is_err_and c.from_residual-in_err-end.result
    c.from_residual-in_err-end.ensures.1)
    (c.in_err-end.ensures.goes end_statement with_statement _)

pub returns-clause-goes : goal.returns-clause-goes
returns-clause-goes c = λ b.
    let now = behind b (map statement_of c.args.self.now.statements.items) in
    let n = c.begin_statement.new.self in
    let sides = rw c.deref.ensures.value at c.in_ok-values.ensures.reads n now
    c.in_ok-targets.targets.items (omega (arith, c.in_ok-targets.targets.ok, c.len.ensures)) in
    ap (λ s. Ok (s, rest c.in_ok-end.end)) (c.in_ok-push_statement.ensures n b)
    ∙ ends (on (behind_targets (goal.at-returns-clause-goes c).In_ok-targets now) sides)
    (c.in_ok-end.ensures.goes end_statement with_statement _)
