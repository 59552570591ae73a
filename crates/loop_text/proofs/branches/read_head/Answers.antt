use Rattle.std.proofs.Common.{sym}
use Rattle.loop_text.proofs.GuardReads.{head_guarded, head_bare}
use Rattle.loop_text.proofs.Answering.{sequence, continued_going, keep, guard, sign, head, loop_language}
use Rattle.loop_text.proofs.branches.read_head.Goals as goal

pub returns-then-is_keyword-clause-goes : goal.returns-then-is_keyword-clause-goes
returns-then-is_keyword-clause-goes c = λ s.
    continued_going loop_language head (sequence guard (sign 123)) s s s c.args.cursor c.args.cursor
    c.read_guard.result (head_guarded s c.args.cursor (sym c.if-is_keyword.ensures))
    (c.read_guard.ensures.goes s)

pub returns-else-is_keyword-clause-goes : goal.returns-else-is_keyword-clause-goes
returns-else-is_keyword-clause-goes c = λ s.
    continued_going loop_language head (sign 123) s s s c.args.cursor c.args.cursor
    c.expect_sign.result (head_bare s c.args.cursor (sym c.if-is_keyword.ensures))
    (c.expect_sign.ensures.goes (λ c. c) keep _)
