use Rattle.std.proofs.Common.{sym, ◌∙◌, ap}
use Rattle.std.proofs.lemmas.Result.{err_from_is_err_and}
use Rattle.poly_text.proofs.Paths.{start, stops_last_going}
use Rattle.loop_text.specs.Chains.{loop_limit, chain_language}
use Rattle.loop_text.proofs.ChainReads.{then_barred, then_other, then_fails, then_goes}
use Rattle.loop_text.proofs.chain_reading.expect_then.Goals as goal

pub returns-in_default-clause-goes : goal.returns-in_default-clause-goes
returns-in_default-clause-goes c = λ s count.
    rw c.syntax_fault.ensures (then_barred s c.args.cursor c.in_default.not-Name)

pub returns-then-not-is_then-clause-goes : goal.returns-then-not-is_then-clause-goes
returns-then-not-is_then-clause-goes c = λ s count. rw c.syntax_fault-then-not-is_then.ensures
    (then_other s c.args.cursor c.in-Name.word c.in-Name.is (sym c.if-not-is_then.ensures))

pub returns-in_err-check_loops-clause-goes : goal.returns-in_err-check_loops-clause-goes
returns-in_err-check_loops-clause-goes c = λ s count.
    stops_last_going (start chain_language _ _ _) _ (err_from_is_err_and c.from_residual.result
    c.from_residual.ensures.1)
    (rw c.in_err-check_loops.ensures.1 (then_fails s c.args.cursor c.in-Name.word c.in-Name.is
    (sym c.if-not-is_then.ensures) (ap loop_limit count ∙ c.in_err-check_loops.ensures.0)))

pub returns-clause-goes : goal.returns-clause-goes
returns-clause-goes c = λ s count.
    then_goes s c.args.cursor c.in-Name.word c.in-Name.is (sym c.if-not-is_then.ensures)
    (ap loop_limit count ∙ c.in_ok-check_loops.ensures) c.next.result c.next.ensures.tokens
