use Rattle.std.proofs.Common.{ap, sym, ◌∙◌, Ok}
use Rattle.program_text.specs.Reads.{progress_of}
use Rattle.program_text.specs.Programs.{bounds}
use Rattle.program_text.specs.States.{with_bounds}
use Rattle.program_text.proofs.CompareReads.{dots_missing, behind_dots, with_from, bounded}
use Rattle.program_text.proofs.Answering.{err_from_is_err_and, expr_of, rest, start, stops, program_language, at_statement, sum_fault}
use Rattle.program_text.proofs.assignments.Reader.bounds.Goals as goal

pub returns-in_err-left-clause-reads : goal.returns-in_err-left-clause-reads
returns-in_err-left-clause-reads c = λ n d w.
    stops (start program_language bounds _ _) _ (err_from_is_err_and c.from_residual.result
    c.from_residual.ensures.1)
    (sum_fault (at_statement c.args.self.now.names.now n d w) (rest c.args.cursor)
    c.in_err-left.field-0.0 (rw c.new.ensures.items at c.in_err-left.ensures.reads w.sum))

pub returns-then-not-is_dots-clause-reads : goal.returns-then-not-is_dots-clause-reads
returns-then-not-is_dots-clause-reads c = λ n d w.
    let left = c.in_ok-left.left in
    rw c.syntax_fault.ensures (dots_missing c.args.self.now.names.now n d w
    c.args.cursor (expr_of left.value.value) (progress_of left.progress) c.in_ok-left.sign
    (rw c.new.ensures.items at c.in_ok-left.ensures.reads w.sum) (sym c.if-not-is_dots.ensures))

pub returns-in_err-right-clause-reads : goal.returns-in_err-right-clause-reads
returns-in_err-right-clause-reads c = λ n d w.
    let names = c.args.self.now.names.now in
    let left = c.in_ok-left.left in
    let l = expr_of left.value.value in
    let sign = c.in_ok-left.sign in
    let is = sym c.if-not-is_dots.ensures in
    let reads = rw c.new.ensures.items at c.in_ok-left.ensures.reads w.sum in
    let m = progress_of left.progress in
    let v = with_from names n d w c.args.cursor l m sign reads is c.next.result
    c.next.ensures.tokens in
    stops (behind_dots names n d w c.args.cursor l m sign reads is c.next.result
    c.next.ensures.tokens) _
    (err_from_is_err_and c.from_residual-in_err-right.result
    c.from_residual-in_err-right.ensures.1)
    (sum_fault (at_statement names n d v) (rest c.next.result) c.in_err-right.field-0.0
    (rw c.new-2.ensures.items at c.in_err-right.ensures.reads v.sum))

pub returns-clause-reads : goal.returns-clause-reads
returns-clause-reads c = λ n d w.
    let names = c.args.self.now.names.now in
    let left = c.in_ok-left.left in
    let right = c.in_ok-right.right in
    let l = expr_of left.value.value in
    let sign = c.in_ok-left.sign in
    let is = sym c.if-not-is_dots.ensures in
    let reads = rw c.new.ensures.items at c.in_ok-left.ensures.reads w.sum in
    let m = progress_of left.progress in
    let v = with_from names n d w c.args.cursor l m sign reads is c.next.result
    c.next.ensures.tokens in
    let end = rest c.in_ok-right.end in
    ap (λ e. Ok (
      at_statement names n d (with_bounds (expr_of e) sign.token.at
          (expr_of c.into_inner-to.result) w),
      end,
    )) c.into_inner-from.ensures
    ∙ ap (λ e. Ok (at_statement names n d (with_bounds l sign.token.at (expr_of e) w), end))
    c.into_inner-to.ensures
    ∙ bounded names n d w c.args.cursor l m sign reads is c.next.result c.next.ensures.tokens
    (expr_of right.value.value) (progress_of right.progress) c.in_ok-right.end
    (rw c.new-2.ensures.items at c.in_ok-right.ensures.reads v.sum)
