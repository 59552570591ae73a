use Rattle.std.proofs.Common.{◌≡◌, ℕ, suc, true, List, ap, sym, subst, ◌∙◌, Ok, None}
use Rattle.program_model.specs.Program.{behind as behind_block}
use Rattle.program_text.specs.Words.{assert_word}
use Rattle.program_text.specs.Sums as sums
use Rattle.program_text.specs.Sums.{equal_signs}
use Rattle.program_text.specs.Programs.{comparison, claim_end, with_claim, assertion}
use Rattle.program_text.specs.States.{plain_state, with_sides}
use Rattle.program_text.proofs.SumReads.{lifted_reads, lifted_fault}
use Rattle.program_text.proofs.BlockViews.{block_push, assert_statement}
use Rattle.program_text.proofs.Answering.{err_from_is_err_and, sequence, rest, tokens_from, seen_lexeme, limit, Cursor, GoesOn, start, on, ends, stops_going, stops_last_going, noted_read, noted_at_fault, ProgramValue, statement_fault, begin_statement, end_statement, program_language, at_statement, with_block, with_place, block_of, comparison_of, statement_limit, is_keyword_of}
use Rattle.program_text.proofs.assignments.Reader.assertion.Goals as goal

opened : (names : List (List ℕ)) (n m d : ℕ) (v : ProgramValue) (k end : Cursor)
    → is_keyword_of (seen_lexeme k.token.lexeme) assert_word ≡ true → statement_limit n ≡ None
    → m ≡ suc n → tokens_from k.text.now k.token.end ≡ rest end
    → GoesOn program_language assertion (at_statement names n d v) (rest k)
    (sequence (comparison equal_signs) claim_end) (at_statement names m d (with_place k.token.at v))
    (rest end)
opened names n m d v k end is free more next =
    subst (λ m. GoesOn program_language assertion (at_statement names n d v) (rest k)
    (sequence (comparison equal_signs) claim_end) (at_statement names m d (with_place k.token.at v))
    (rest end))
    (sym more)
    (on (start program_language _ _ _) (noted_read assert_word statement_fault begin_statement
    (at_statement names n d v) k is free
    (rest end) next))

pub returns-in_err-begin_statement-clause-goes : goal.returns-in_err-begin_statement-clause-goes
returns-in_err-begin_statement-clause-goes c = λ d w.
    let s = at_statement c.args.self.now.names.now c.args.begun.now d
    (with_block (block_of c.args.block.now.items) w) in
    stops_going (start program_language _ _ _) _ (err_from_is_err_and c.from_residual.result
    c.from_residual.ensures.1)
    (rw c.in_err-begin_statement.ensures.limit.1 (noted_at_fault assert_word statement_fault
    begin_statement s c.args.cursor c.requires limit
    c.in_err-begin_statement.ensures.limit.0))

pub returns-in_err-comparison-clause-goes : goal.returns-in_err-comparison-clause-goes
returns-in_err-comparison-clause-goes c = λ d w.
    let names = c.args.self.now.names.now in
    let k = c.args.cursor in
    let v = with_block (block_of c.args.block.now.items) w in
    let m = c.begin_statement.new.begun in
    let begun = c.in_ok-begin_statement.ensures in
    stops_going (opened names c.args.begun.now m d v k c.next.result c.requires begun.limit
    begun.count c.next.ensures.tokens) _
    (err_from_is_err_and c.from_residual-in_err-comparison.result
    c.from_residual-in_err-comparison.ensures.1)
    (lifted_fault (at_statement names m d (with_place k.token.at v)) (rest c.next.result)
    (sums.comparison equal_signs)
    c.in_err-comparison.field-0.0 (c.in_err-comparison.ensures.reads (with_place k.token.at v).sum))

pub returns-in_err-end-clause-goes : goal.returns-in_err-end-clause-goes
returns-in_err-end-clause-goes c = λ d w.
    let names = c.args.self.now.names.now in
    let k = c.args.cursor in
    let v = with_block (block_of c.args.block.now.items) w in
    let m = c.begin_statement.new.begun in
    let begun = c.in_ok-begin_statement.ensures in
    let u = (with_place k.token.at v) in
    stops_last_going (on (opened names c.args.begun.now m d v k c.next.result c.requires begun.limit
    begun.count c.next.ensures.tokens)
    (lifted_reads (at_statement names m d u) (rest c.next.result) (sums.comparison equal_signs)
    (plain_state names (with_sides (comparison_of c.in_ok-comparison.comparison) u.sum))
    (rest c.in_ok-comparison.behind) (c.in_ok-comparison.ensures.reads u.sum))) _
    (err_from_is_err_and c.from_residual-in_err-end.result c.from_residual-in_err-end.ensures.1)
    (c.in_err-end.ensures.goes end_statement with_claim _)

pub returns-clause-goes : goal.returns-clause-goes
returns-clause-goes c = λ d w.
    let names = c.args.self.now.names.now in
    let k = c.args.cursor in
    let b = block_of c.args.block.now.items in
    let v = with_block b w in
    let m = c.begin_statement.new.begun in
    let begun = c.in_ok-begin_statement.ensures in
    let u = (with_place k.token.at v) in
    ap (λ b. Ok (at_statement names m d (with_block b w), rest c.in_ok-end.end))
    (ap block_of c.in_ok-push.ensures.items ∙ block_push c.args.block.now.items _
    ∙ ap (behind_block b) (assert_statement k.token.at _))
    ∙ ends (on (opened names c.args.begun.now m d v k c.next.result c.requires begun.limit
    begun.count c.next.ensures.tokens)
    (lifted_reads (at_statement names m d u) (rest c.next.result) (sums.comparison equal_signs)
    (plain_state names (with_sides (comparison_of c.in_ok-comparison.comparison) u.sum))
    (rest c.in_ok-comparison.behind) (c.in_ok-comparison.ensures.reads u.sum)))
    (c.in_ok-end.ensures.goes end_statement with_claim _)
