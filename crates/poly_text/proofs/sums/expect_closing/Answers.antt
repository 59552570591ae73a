use Rattle.std.proofs.Common.{sym}
use Rattle.poly_text.proofs.CursorReads.{sign_here}
use Rattle.poly_text.proofs.PartSteps.{closing_read, closing_barred}
use Rattle.poly_text.proofs.sums.expect_closing.Goals as goal

pub returns-then-is_sign-clause-goes : goal.returns-then-is_sign-clause-goes
returns-then-is_sign-clause-goes c = λ a n. closing_read a n c.args.cursor
    (sign_here c.args.cursor 41 (sym c.if-is_sign.ensures)) c.next.result c.next.ensures.tokens

pub returns-else-is_sign-clause-goes : goal.returns-else-is_sign-clause-goes
returns-else-is_sign-clause-goes c = λ a n. closing_barred a n c.args.cursor
    (sym c.if-is_sign.ensures)
