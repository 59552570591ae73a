use Rattle.std.proofs.Common.{refl, sym, None, arith}
use Rattle.loop_text.specs.OpenBranch.{within}
use Rattle.loop_text.proofs.StatementReads.{statement_due, statements_end}
use Rattle.loop_text.proofs.Answering.{err_from_is_err_and, on, over, ends, stops, sign_read, sign_no_end, with_branch, end_branch}
use Rattle.loop_text.proofs.statements.read_statements.Goals as goal

pub returns-in_err-at-clause-reads : goal.returns-in_err-at-clause-reads
returns-in_err-at-clause-reads c = λ b.
    let s = within c.loop-alloc.branch c.loop-alloc.begun b in
    stops (over (c.loop-alloc.invariant.goes b) _ _ _ (statement_due s c.loop-alloc.at
    (sym c.loop-alloc-test.ensures))) _ (err_from_is_err_and c.from_residual.result
    c.from_residual.ensures.1) (c.in_err-at.ensures.goes b)

pub loop-alloc-preserved : goal.loop-alloc-preserved
loop-alloc-preserved c = record {
  falls = omega (arith, c.in_ok-at.ensures.falls, c.loop-alloc.invariant.falls);
  goes = λ b.
      let s = within c.loop-alloc.branch c.loop-alloc.begun b in
      on (over (c.loop-alloc.invariant.goes b) _ _ _ (statement_due s c.loop-alloc.at
      (sym c.loop-alloc-test.ensures))) (c.in_ok-at.ensures.goes b);
}

pub returns-clause-reads : goal.returns-clause-reads
returns-clause-reads c = λ b.
    let s = within c.loop-alloc.branch c.loop-alloc.begun b in
    let at = c.loop-alloc.at in
    ends (over (c.loop-alloc.invariant.goes b) _ _ _
    (statements_end s at (sym c.loop-alloc-test.ensures)))
    (sign_read 125 (λ c. None) end_branch with_branch s at refl (sym c.loop-alloc-test.ensures)
    refl c.next.result c.next.ensures.tokens)

pub returns-clause-falls : goal.returns-clause-falls
returns-clause-falls c =
    omega (
      arith,
      c.next.ensures.falls (sign_no_end c.loop-alloc.at.token.lexeme 125
          (sym c.loop-alloc-test.ensures)),
      c.loop-alloc.invariant.falls,
    )
