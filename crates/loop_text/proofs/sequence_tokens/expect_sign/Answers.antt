use Rattle.std.proofs.Common.{sym}
use Rattle.loop_text.proofs.SequenceTokenReads.{sign_read, sign_barred}
use Rattle.loop_text.proofs.sequence_tokens.expect_sign.Goals as goal

pub returns-then-is_sign-clause-goes : goal.returns-then-is_sign-clause-goes
returns-then-is_sign-clause-goes c =
    λ next build s. sign_read c.args.sign next build s c.args.cursor c.requires
    (sym c.if-is_sign.ensures) c.next.result c.next.ensures.tokens

pub returns-else-is_sign-clause-goes : goal.returns-else-is_sign-clause-goes
returns-else-is_sign-clause-goes c =
    λ next build s. rw c.syntax_fault.ensures
    (sign_barred c.args.sign next build s c.args.cursor (sym c.if-is_sign.ensures))
