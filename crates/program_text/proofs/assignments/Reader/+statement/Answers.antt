use Rattle.std.proofs.Common.{suc, ◌+◌, refl, ap, sym, ◌∙◌, Ok, None, add-one, arith}
use Rattle.std.proofs.lemmas.Bool.{le-leb, lt-leb}
use Rattle.grammars.specs.Grammar.{sequence, change, rule}
use Rattle.poly_text.specs.Reasons.{limit, unless}
use Rattle.program_model.specs.Program.{empty, behind as behind_block}
use Rattle.program_model.specs.StatementView.{block_behind}
use Rattle.program_text.specs.NameFaults.{name_fault}
use Rattle.program_text.specs.Programs.{most_blocks, block_fault, open_block, close_block, with_empty, with_loop, with_choice, with_count, guard, statements, other_way, block, block_opening, bounds, counter, counter_fault, word_stays, with_counter as counted_by, while_loop, if_statement, for_loop, a_statement, assumption_of, assertion}
use Rattle.program_text.specs.States.{with_bounds}
use Rattle.program_text.specs.Words.{while_word, if_word, for_word}
use Rattle.program_text.proofs.Paths.{reading_change}
use Rattle.program_text.proofs.BlockViews.{block_push, loop_statement, branch_statement}
use Rattle.program_text.proofs.Ways.{way_single, way_several, way_if, way_while, way_for, way_assume, way_assert, statement_barred, none_begins, statement_due, statements_end}
use Rattle.program_text.proofs.HeadReads.{opened, opened_bare, or_none, else_bare, else_there, else_if_there, else_block}
use Rattle.program_text.proofs.Answering.{err_from_is_err_and, expr_of, guard_of, rest, behind, here, start, on, over, ends, stops, stops_last, stops_going, continued, continued_going, no_first, noted_at_fault, sign_read, sign_at_fault, sign_barred, keep, sign, statement_fault, begin_statement, single, several, program_language, reading, at_statement, with_block, with_guard, with_place, with_counter, block_of}
use Rattle.program_text.proofs.assignments.Reader.+statement.Goals as goal

-- ---- blocks
pub block-returns-then-not-is_sign-clause-reads : goal.block-returns-then-not-is_sign-clause-reads
block-returns-then-not-is_sign-clause-reads t c = λ w.
    let s = at_statement c.args.self.now.names.now c.args.begun.now c.args.depth w in
    rw c.syntax_fault.ensures (no_first program_language block_opening statements s
    (rest c.args.cursor) _ (sign_barred 123 block_fault open_block with_empty s c.args.cursor
    (sym c.if-not-is_sign.ensures)))

pub block-returns-then-depth-ge-MOST_BLOCKS-clause-reads :
    goal.block-returns-then-depth-ge-MOST_BLOCKS-clause-reads
unfolding most_blocks
block-returns-then-depth-ge-MOST_BLOCKS-clause-reads t c = λ w.
    let s = at_statement c.args.self.now.names.now c.args.begun.now c.args.depth w in
    no_first program_language block_opening statements s (rest c.args.cursor) _
    (sign_at_fault 123 block_fault open_block with_empty s c.args.cursor refl
    (sym c.if-not-is_sign.ensures) limit
    (ap (λ t. unless t limit) (lt-leb (suc c.args.depth) 16 (let deep =
    c.if-depth-ge-MOST_BLOCKS.true in omega (arith, deep)))))

pub block-returns-clause-reads : goal.block-returns-clause-reads
unfolding most_blocks
block-returns-clause-reads t c = λ w.
    let names = c.args.self.now.names.now in
    let n = c.args.begun.now in
    let d = c.args.depth in
    let s = at_statement names n d w in
    let next = c.next.result in
    continued program_language block statements s (at_statement names n (d + 1)
    (with_block empty w))
    _ c.args.cursor next c.statements.result
    ((on (start program_language block s (rest c.args.cursor)) (sign_read 123 block_fault open_block
    with_empty s c.args.cursor refl (sym c.if-not-is_sign.ensures)
    (ap (λ t. unless t limit) (le-leb (suc d) 16 c.if-depth-ge-MOST_BLOCKS.false)) next
    c.next.ensures.tokens)).same
    ∙ ap (λ k. reading statements (at_statement names n k (with_block empty w)) (rest next))
    (sym (add-one d)))
    (c.statements.ensures.reads d w (add-one d))

pub statements-loop-at-init : goal.statements-loop-at-init
unfolding block_behind
statements-loop-at-init t c = record {
  falls = omega arith;
  goes = λ w. rw c.new-statements.ensures.items (start program_language _ _ _);
}

pub statements-returns-in_err-at-clause-reads : goal.statements-returns-in_err-at-clause-reads
statements-returns-in_err-at-clause-reads t c = λ d w e.
    let s = at_statement c.args.self.now.names.now c.loop-at.begun c.args.depth
    (with_block (block_of c.loop-at.statements.items) w) in
    stops (over (c.loop-at.invariant.goes w) _ _ _ (statement_due s c.loop-at.at
    (sym c.loop-at-test.ensures))) _
    (err_from_is_err_and c.from_residual.result c.from_residual.ensures.1)
    (c.in_err-at.ensures.goes w)

pub statements-loop-at-preserved : goal.statements-loop-at-preserved
statements-loop-at-preserved t c = record {
  falls = omega (arith, c.in_ok-at.ensures.falls, c.loop-at.invariant.falls);
  goes = λ w.
      let s = at_statement c.args.self.now.names.now c.loop-at.begun c.args.depth
      (with_block (block_of c.loop-at.statements.items) w) in
      on (over (c.loop-at.invariant.goes w) _ _ _ (statement_due s c.loop-at.at
      (sym c.loop-at-test.ensures))) (c.in_ok-at.ensures.goes w);
}

pub statements-returns-clause-reads : goal.statements-returns-clause-reads
statements-returns-clause-reads t c = λ d w e.
    let names = c.args.self.now.names.now in
    let v = with_block (block_of c.loop-at.statements.items) w in
    let s = at_statement names c.loop-at.begun c.args.depth v in
    let at = c.loop-at.at in
    ap (λ k. Ok (at_statement names c.loop-at.begun k v, rest c.next.result))
    (omega (arith, e))
    ∙ ends (over (c.loop-at.invariant.goes w) _ _ _
    (statements_end s at (sym c.loop-at-test.ensures)))
    (sign_read 125 (λ c. None) close_block keep s at refl (sym c.loop-at-test.ensures)
    refl c.next.result c.next.ensures.tokens)

-- ---- while

pub while_loop-returns-in_err-begin_statement-clause-goes :
    goal.while_loop-returns-in_err-begin_statement-clause-goes
while_loop-returns-in_err-begin_statement-clause-goes t c = λ w.
    let s = at_statement c.args.self.now.names.now c.args.begun.now c.args.depth
    (with_block (block_of c.args.block.now.items) w) in
    stops_going (start program_language _ _ _) _ (err_from_is_err_and c.from_residual.result
    c.from_residual.ensures.1)
    (rw c.in_err-begin_statement.ensures.limit.1 (noted_at_fault while_word statement_fault
    begin_statement s c.args.cursor c.requires limit c.in_err-begin_statement.ensures.limit.0))

pub while_loop-returns-in_err-guard-clause-goes : goal.while_loop-returns-in_err-guard-clause-goes
while_loop-returns-in_err-guard-clause-goes t c = λ w.
    let names = c.args.self.now.names.now in
    let k = c.args.cursor in
    let v = with_block (block_of c.args.block.now.items) w in
    let m = c.begin_statement.new.begun in
    let begun = c.in_ok-begin_statement.ensures in
    stops_going
    (opened while_word (sequence guard (sequence statements (change (λ c. c) with_loop))) names
    c.args.begun.now m c.args.depth v k c.requires begun.limit begun.count) _
    (err_from_is_err_and c.from_residual-in_err-guard.result
    c.from_residual-in_err-guard.ensures.1)
    (c.in_err-guard.ensures.reads m (with_place k.token.at v))

pub while_loop-returns-in_err-body-clause-goes : goal.while_loop-returns-in_err-body-clause-goes
while_loop-returns-in_err-body-clause-goes t c = λ w.
    let names = c.args.self.now.names.now in
    let k = c.args.cursor in
    let v = with_block (block_of c.args.block.now.items) w in
    let u = with_place k.token.at v in
    let m = c.begin_statement.new.begun in
    let begun = c.in_ok-begin_statement.ensures in
    stops_going
    (on (opened while_word (sequence guard (sequence statements (change (λ c. c) with_loop)))
    names
    c.args.begun.now m c.args.depth v k c.requires begun.limit begun.count)
    (c.in_ok-guard.ensures.reads m u)) _
    (err_from_is_err_and c.from_residual-in_err-body.result
    c.from_residual-in_err-body.ensures.1)
    (c.in_err-body.ensures.reads c.args.depth (with_guard (guard_of c.in_ok-guard.guard) u)
    (add-one c.args.depth))

pub while_loop-returns-clause-goes : goal.while_loop-returns-clause-goes
while_loop-returns-clause-goes t c = λ w.
    let names = c.args.self.now.names.now in
    let k = c.args.cursor in
    let d = c.args.depth in
    let b = block_of c.args.block.now.items in
    let v = with_block b w in
    let u = with_place k.token.at v in
    let m = c.begin_statement.new.begun in
    let begun = c.in_ok-begin_statement.ensures in
    let g = guard_of c.in_ok-guard.guard in
    let body = block_of c.in_ok-body.body.items in
    let end = c.in_ok-body.end in
    let l = c.statements.new.begun in
    ap (λ b. Ok (at_statement names l d (with_block b w), rest end))
    (ap block_of c.in_ok-push.ensures.items ∙ block_push c.args.block.now.items _
    ∙ ap (behind_block b) (loop_statement k.token.at c.in_ok-guard.guard c.in_ok-body.body))
    ∙ ends (on
    (on (opened while_word (sequence guard (sequence statements (change (λ c. c) with_loop)))
    names
    c.args.begun.now m d v k c.requires begun.limit begun.count)
    (c.in_ok-guard.ensures.reads m u))
    (c.in_ok-body.ensures.reads d (with_guard g u) (add-one d)))
    (sym (reading_change program_language (λ c. c) with_loop
    (at_statement names l d (with_block body (with_guard g u))) (here end) (behind end)))

-- ---- if

pub if_statement-returns-in_err-begin_statement-clause-goes :
    goal.if_statement-returns-in_err-begin_statement-clause-goes
if_statement-returns-in_err-begin_statement-clause-goes t c = λ w.
    let s = at_statement c.args.self.now.names.now c.args.begun.now c.args.depth
    (with_block (block_of c.args.block.now.items) w) in
    stops_going (start program_language _ _ _) _ (err_from_is_err_and c.from_residual.result
    c.from_residual.ensures.1)
    (rw c.in_err-begin_statement.ensures.limit.1 (noted_at_fault if_word statement_fault
    begin_statement s c.args.cursor c.requires limit c.in_err-begin_statement.ensures.limit.0))

pub if_statement-returns-in_err-guard-clause-goes :
    goal.if_statement-returns-in_err-guard-clause-goes
if_statement-returns-in_err-guard-clause-goes t c = λ w.
    let names = c.args.self.now.names.now in
    let k = c.args.cursor in
    let v = with_block (block_of c.args.block.now.items) w in
    let m = c.begin_statement.new.begun in
    let begun = c.in_ok-begin_statement.ensures in
    stops_going
    (opened if_word
    (sequence guard (sequence statements (sequence other_way (change (λ c. c) with_choice))))
    names
    c.args.begun.now m c.args.depth v k c.requires begun.limit begun.count) _
    (err_from_is_err_and c.from_residual-in_err-guard.result
    c.from_residual-in_err-guard.ensures.1)
    (c.in_err-guard.ensures.reads m (with_place k.token.at v))

pub if_statement-returns-in_err-inner-clause-goes :
    goal.if_statement-returns-in_err-inner-clause-goes
if_statement-returns-in_err-inner-clause-goes t c = λ w.
    let names = c.args.self.now.names.now in
    let k = c.args.cursor in
    let v = with_block (block_of c.args.block.now.items) w in
    let u = with_place k.token.at v in
    let m = c.begin_statement.new.begun in
    let begun = c.in_ok-begin_statement.ensures in
    stops_going
    (on (opened if_word
    (sequence guard
    (sequence statements (sequence other_way (change (λ c. c) with_choice)))) names
    c.args.begun.now m c.args.depth v k c.requires begun.limit begun.count)
    (c.in_ok-guard.ensures.reads m u)) _
    (err_from_is_err_and c.from_residual-in_err-inner.result
    c.from_residual-in_err-inner.ensures.1)
    (c.in_err-inner.ensures.reads c.args.depth (with_guard (guard_of c.in_ok-guard.guard) u)
    (add-one c.args.depth))

pub if_statement-returns-in_err-other-clause-goes :
    goal.if_statement-returns-in_err-other-clause-goes
if_statement-returns-in_err-other-clause-goes t c = λ w.
    let names = c.args.self.now.names.now in
    let k = c.args.cursor in
    let d = c.args.depth in
    let v = with_block (block_of c.args.block.now.items) w in
    let u = with_place k.token.at v in
    let m = c.begin_statement.new.begun in
    let begun = c.in_ok-begin_statement.ensures in
    let g = guard_of c.in_ok-guard.guard in
    stops_going
    (on (on (opened if_word
    (sequence guard
    (sequence statements (sequence other_way (change (λ c. c) with_choice)))) names
    c.args.begun.now m d v k c.requires begun.limit begun.count)
    (c.in_ok-guard.ensures.reads m u))
    (c.in_ok-inner.ensures.reads d (with_guard g u) (add-one d))) _
    (err_from_is_err_and c.from_residual-in_err-other.result
    c.from_residual-in_err-other.ensures.1)
    (c.in_err-other.ensures.reads (with_block (block_of c.in_ok-inner.inner.items)
    (with_guard g u)))

pub if_statement-returns-clause-goes : goal.if_statement-returns-clause-goes
if_statement-returns-clause-goes t c = λ w.
    let names = c.args.self.now.names.now in
    let k = c.args.cursor in
    let d = c.args.depth in
    let b = block_of c.args.block.now.items in
    let v = with_block b w in
    let u = with_place k.token.at v in
    let m = c.begin_statement.new.begun in
    let begun = c.in_ok-begin_statement.ensures in
    let g = guard_of c.in_ok-guard.guard in
    let inner = block_of c.in_ok-inner.inner.items in
    let other = block_of c.in_ok-other.other.items in
    let end = c.in_ok-other.end in
    let l = c.other_way.new.begun in
    ap (λ b. Ok (at_statement names l d (with_block b w), rest end))
    (ap block_of c.in_ok-push.ensures.items ∙ block_push c.args.block.now.items _
    ∙ ap (behind_block b) (branch_statement k.token.at c.in_ok-guard.guard c.in_ok-inner.inner
    c.in_ok-other.other))
    ∙ ends (on
    (on (on (opened if_word
    (sequence guard
    (sequence statements (sequence other_way (change (λ c. c) with_choice)))) names
    c.args.begun.now m d v k c.requires begun.limit begun.count)
    (c.in_ok-guard.ensures.reads m u))
    (c.in_ok-inner.ensures.reads d (with_guard g u) (add-one d)))
    (c.in_ok-other.ensures.reads (with_block inner (with_guard g u))))
    (sym (reading_change program_language (λ c. c) with_choice
    (at_statement names l d (with_block other (with_block inner (with_guard g u)))) (here end)
    (behind end)))

-- ---- else
pub other_way-returns-then-not-is_keyword-clause-reads :
    goal.other_way-returns-then-not-is_keyword-clause-reads
unfolding block_behind
other_way-returns-then-not-is_keyword-clause-reads t c = λ w.
    let names = c.args.self.now.names.now in
    ap (λ ss. Ok (
      at_statement names c.args.begun.now c.args.depth (with_block (block_of ss) w),
      rest c.args.cursor,
    )) c.new.ensures.items
    ∙ else_bare (at_statement names c.args.begun.now c.args.depth w) c.args.cursor
    (sym c.if-not-is_keyword.ensures)

pub other_way-returns-in_err-end-clause-reads : goal.other_way-returns-in_err-end-clause-reads
unfolding block_behind
other_way-returns-in_err-end-clause-reads t c = λ w.
    let s = at_statement c.args.self.now.names.now c.args.begun.now c.args.depth w in
    let next = c.next-next.result in
    stops_last (over (else_there s c.args.cursor (sym c.if-not-is_keyword.ensures) next
    c.next-next.ensures.tokens) _ _ _ (else_if_there s next (sym c.if-is_keyword.ensures))) _
    (err_from_is_err_and c.from_residual.result c.from_residual.ensures.1)
    (rw c.new-other.ensures.items at c.in_err-end.ensures.goes w)

pub other_way-returns-in_ok-end-clause-reads : goal.other_way-returns-in_ok-end-clause-reads
unfolding block_behind
other_way-returns-in_ok-end-clause-reads t c = λ w.
    let s = at_statement c.args.self.now.names.now c.args.begun.now c.args.depth w in
    let next = c.next-next.result in
    ends (over (else_there s c.args.cursor (sym c.if-not-is_keyword.ensures) next
    c.next-next.ensures.tokens) _ _ _ (else_if_there s next (sym c.if-is_keyword.ensures)))
    (rw c.new-other.ensures.items at c.in_ok-end.ensures.goes w)

pub other_way-returns-else-is_keyword-clause-reads :
    goal.other_way-returns-else-is_keyword-clause-reads
other_way-returns-else-is_keyword-clause-reads t c = λ w.
    let s = at_statement c.args.self.now.names.now c.args.begun.now c.args.depth w in
    let next = c.next-next.result in
    continued program_language other_way block s s _ c.args.cursor next c.block.result
    (over (else_there s c.args.cursor (sym c.if-not-is_keyword.ensures) next
    c.next-next.ensures.tokens) _ _ _ (else_block s next (sym c.if-is_keyword.ensures))).same
    (c.block.ensures.reads w)

-- ---- for

pub for_loop-returns-in_err-begin_statement-clause-goes :
    goal.for_loop-returns-in_err-begin_statement-clause-goes
for_loop-returns-in_err-begin_statement-clause-goes t c = λ w.
    let s = at_statement c.args.self.now.names.now c.args.begun.now c.args.depth
    (with_block (block_of c.args.block.now.items) w) in
    stops_going (start program_language _ _ _) _ (err_from_is_err_and c.from_residual.result
    c.from_residual.ensures.1)
    (rw c.in_err-begin_statement.ensures.limit.1 (noted_at_fault for_word statement_fault
    begin_statement s c.args.cursor c.requires limit c.in_err-begin_statement.ensures.limit.0))

pub for_loop-returns-in_err-counter-clause-goes : goal.for_loop-returns-in_err-counter-clause-goes
for_loop-returns-in_err-counter-clause-goes t c = λ w.
    let names = c.args.self.now.names.now in
    let k = c.args.cursor in
    let d = c.args.depth in
    let b = block_of c.args.block.now.items in
    let v = with_block b w in
    let u = with_place k.token.at v in
    let m = c.begin_statement.new.begun in
    let begun = c.in_ok-begin_statement.ensures in
    let first =
    opened_bare for_word
    (sequence counter
    (sequence (sign 61) (sequence bounds (sequence block (change (λ c. c) with_count)))))
    names c.args.begun.now m d v k c.requires begun.limit
    begun.count c.next.result c.next.ensures.tokens in
    stops_going first _
    (err_from_is_err_and c.from_residual-in_err-counter.result
    c.from_residual-in_err-counter.ensures.1)
    (c.in_err-counter.ensures.reads counter_fault word_stays counted_by (at_statement names m d u)
    (λ j. at_statement names m d (with_counter j u)) (record {
      faults = λ w. or_none (name_fault names w);
      goes = λ w. refl;
    }))

pub for_loop-returns-in_err-first-clause-goes : goal.for_loop-returns-in_err-first-clause-goes
for_loop-returns-in_err-first-clause-goes t c = λ w.
    let names = c.args.self.now.names.now in
    let k = c.args.cursor in
    let d = c.args.depth in
    let b = block_of c.args.block.now.items in
    let v = with_block b w in
    let u = with_place k.token.at v in
    let m = c.begin_statement.new.begun in
    let begun = c.in_ok-begin_statement.ensures in
    let first =
    opened_bare for_word
    (sequence counter
    (sequence (sign 61) (sequence bounds (sequence block (change (λ c. c) with_count)))))
    names c.args.begun.now m d v k c.requires begun.limit
    begun.count c.next.result c.next.ensures.tokens in
    stops_going (on first (c.in_ok-counter.ensures.reads counter_fault word_stays counted_by
    (at_statement names m d u)
    (λ j. at_statement names m d (with_counter j u)) (record {
      faults = λ w. or_none (name_fault names w);
      goes = λ w. refl;
    }))) _
    (err_from_is_err_and c.from_residual-in_err-first.result
    c.from_residual-in_err-first.ensures.1)
    (c.in_err-first.ensures.goes (λ c. c) keep _)

pub for_loop-returns-in_err-bounds-clause-goes : goal.for_loop-returns-in_err-bounds-clause-goes
for_loop-returns-in_err-bounds-clause-goes t c = λ w.
    let names = c.args.self.now.names.now in
    let k = c.args.cursor in
    let d = c.args.depth in
    let b = block_of c.args.block.now.items in
    let v = with_block b w in
    let u = with_place k.token.at v in
    let m = c.begin_statement.new.begun in
    let begun = c.in_ok-begin_statement.ensures in
    let first =
    opened_bare for_word
    (sequence counter
    (sequence (sign 61) (sequence bounds (sequence block (change (λ c. c) with_count)))))
    names c.args.begun.now m d v k c.requires begun.limit
    begun.count c.next.result c.next.ensures.tokens in
    stops_going
    (on (on first (c.in_ok-counter.ensures.reads counter_fault word_stays counted_by
    (at_statement names m d u)
    (λ j. at_statement names m d (with_counter j u)) (record {
      faults = λ w. or_none (name_fault names w);
      goes = λ w. refl;
    })))
    (c.in_ok-first.ensures.goes (λ c. c) keep _)) _
    (err_from_is_err_and c.from_residual-in_err-bounds.result
    c.from_residual-in_err-bounds.ensures.1)
    (c.in_err-bounds.ensures.reads m d (with_counter c.in_ok-counter.counter u))

pub for_loop-returns-in_err-body-clause-goes : goal.for_loop-returns-in_err-body-clause-goes
for_loop-returns-in_err-body-clause-goes t c = λ w.
    let names = c.args.self.now.names.now in
    let k = c.args.cursor in
    let d = c.args.depth in
    let b = block_of c.args.block.now.items in
    let v = with_block b w in
    let u = with_place k.token.at v in
    let m = c.begin_statement.new.begun in
    let begun = c.in_ok-begin_statement.ensures in
    let first =
    opened_bare for_word
    (sequence counter
    (sequence (sign 61) (sequence bounds (sequence block (change (λ c. c) with_count)))))
    names c.args.begun.now m d v k c.requires begun.limit
    begun.count c.next.result c.next.ensures.tokens in
    let x = with_counter c.in_ok-counter.counter u in
    let bs = c.in_ok-bounds.bounds in
    stops_going
    (on (on (on first (c.in_ok-counter.ensures.reads counter_fault word_stays counted_by
    (at_statement names m d u)
    (λ j. at_statement names m d (with_counter j u)) (record {
      faults = λ w. or_none (name_fault names w);
      goes = λ w. refl;
    })))
    (c.in_ok-first.ensures.goes (λ c. c) keep _)) (c.in_ok-bounds.ensures.reads m d x)) _
    (err_from_is_err_and c.from_residual-in_err-body.result
    c.from_residual-in_err-body.ensures.1)
    (c.in_err-body.ensures.reads (with_bounds (expr_of bs.from) bs.at (expr_of bs.to) x))

pub for_loop-returns-clause-goes : goal.for_loop-returns-clause-goes
for_loop-returns-clause-goes t c = λ w.
    let names = c.args.self.now.names.now in
    let k = c.args.cursor in
    let d = c.args.depth in
    let b = block_of c.args.block.now.items in
    let v = with_block b w in
    let u = with_place k.token.at v in
    let m = c.begin_statement.new.begun in
    let begun = c.in_ok-begin_statement.ensures in
    let first =
    opened_bare for_word
    (sequence counter
    (sequence (sign 61) (sequence bounds (sequence block (change (λ c. c) with_count)))))
    names c.args.begun.now m d v k c.requires begun.limit
    begun.count c.next.result c.next.ensures.tokens in
    let x = with_counter c.in_ok-counter.counter u in
    let bs = c.in_ok-bounds.bounds in
    let y = with_bounds (expr_of bs.from) bs.at (expr_of bs.to) x in
    let end = c.in_ok-body.end in
    let l = c.block.new.begun in
    ap (λ b. Ok (at_statement names l d (with_block b w), rest end)) c.in_ok-push_count.ensures
    ∙ ends (on
    (on (on (on first (c.in_ok-counter.ensures.reads counter_fault word_stays counted_by
    (at_statement names m d u)
    (λ j. at_statement names m d (with_counter j u)) (record {
      faults = λ w. or_none (name_fault names w);
      goes = λ w. refl;
    })))
    (c.in_ok-first.ensures.goes (λ c. c) keep _)) (c.in_ok-bounds.ensures.reads m d x))
    (c.in_ok-body.ensures.reads y))
    (sym (reading_change program_language (λ c. c) with_count
    (at_statement names l d (with_block (block_of c.in_ok-body.body.items) y)) (here end)
    (behind end)))

-- ---- which statement
pub statement-returns-then-is_named-clause-goes :
    goal.statement-returns-then-is_named-clause-goes
statement-returns-then-is_named-clause-goes t c = λ w.
    let s = at_statement c.args.self.now.names.now c.args.begun.now c.args.depth
    (with_block (block_of c.args.block.now.items) w) in
    continued_going program_language (rule a_statement) single s s _ c.args.cursor c.args.cursor
    c.single.result (way_single s c.args.cursor (sym c.if-is_named.ensures))
    (c.single.ensures.goes c.args.depth w)

pub statement-returns-then-is_sign-clause-goes :
    goal.statement-returns-then-is_sign-clause-goes
statement-returns-then-is_sign-clause-goes t c = λ w.
    let s = at_statement c.args.self.now.names.now c.args.begun.now c.args.depth
    (with_block (block_of c.args.block.now.items) w) in
    continued_going program_language (rule a_statement) several s s _ c.args.cursor c.args.cursor
    c.several.result (way_several s c.args.cursor (sym c.if-is_sign.ensures))
    (c.several.ensures.goes c.args.depth w)

pub statement-returns-then-is_keyword-clause-goes :
    goal.statement-returns-then-is_keyword-clause-goes
statement-returns-then-is_keyword-clause-goes t c = λ w.
    let s = at_statement c.args.self.now.names.now c.args.begun.now c.args.depth
    (with_block (block_of c.args.block.now.items) w) in
    continued_going program_language (rule a_statement) if_statement s s _ c.args.cursor
    c.args.cursor
    c.if_statement.result (way_if s c.args.cursor (sym c.if-is_keyword.ensures))
    (c.if_statement.ensures.goes w)

pub statement-returns-then-is_keyword-2-clause-goes :
    goal.statement-returns-then-is_keyword-2-clause-goes
statement-returns-then-is_keyword-2-clause-goes t c = λ w.
    let s = at_statement c.args.self.now.names.now c.args.begun.now c.args.depth
    (with_block (block_of c.args.block.now.items) w) in
    continued_going program_language (rule a_statement) while_loop s s _ c.args.cursor c.args.cursor
    c.while_loop.result (way_while s c.args.cursor (sym c.if-is_keyword-2.ensures))
    (c.while_loop.ensures.goes w)

pub statement-returns-then-is_keyword-3-clause-goes :
    goal.statement-returns-then-is_keyword-3-clause-goes
statement-returns-then-is_keyword-3-clause-goes t c = λ w.
    let s = at_statement c.args.self.now.names.now c.args.begun.now c.args.depth
    (with_block (block_of c.args.block.now.items) w) in
    continued_going program_language (rule a_statement) for_loop s s _ c.args.cursor c.args.cursor
    c.for_loop.result (way_for s c.args.cursor (sym c.if-is_keyword-3.ensures))
    (c.for_loop.ensures.goes w)

pub statement-returns-then-is_keyword-4-clause-goes :
    goal.statement-returns-then-is_keyword-4-clause-goes
statement-returns-then-is_keyword-4-clause-goes t c = λ w.
    let s = at_statement c.args.self.now.names.now c.args.begun.now c.args.depth
    (with_block (block_of c.args.block.now.items) w) in
    continued_going program_language (rule a_statement) assumption_of s s _ c.args.cursor
    c.args.cursor
    c.assumption.result (way_assume s c.args.cursor (sym c.if-is_keyword-4.ensures))
    (c.assumption.ensures.goes c.args.depth w)

pub statement-returns-then-is_keyword-5-clause-goes :
    goal.statement-returns-then-is_keyword-5-clause-goes
statement-returns-then-is_keyword-5-clause-goes t c = λ w.
    let s = at_statement c.args.self.now.names.now c.args.begun.now c.args.depth
    (with_block (block_of c.args.block.now.items) w) in
    continued_going program_language (rule a_statement) assertion s s _ c.args.cursor c.args.cursor
    c.assertion.result (way_assert s c.args.cursor (sym c.if-is_keyword-5.ensures))
    (c.assertion.ensures.goes c.args.depth w)

pub statement-returns-clause-goes : goal.statement-returns-clause-goes
statement-returns-clause-goes t c = λ w.
    let s = at_statement c.args.self.now.names.now c.args.begun.now c.args.depth
    (with_block (block_of c.args.block.now.items) w) in
    let k = c.args.cursor in
    rw c.syntax_fault.ensures (statement_barred s k (none_begins s k (sym c.if-is_named.ensures)
    (sym c.if-is_sign.ensures) (sym c.if-is_keyword.ensures) (sym c.if-is_keyword-2.ensures)
    (sym c.if-is_keyword-3.ensures) (sym c.if-is_keyword-4.ensures)
    (sym c.if-is_keyword-5.ensures)))
