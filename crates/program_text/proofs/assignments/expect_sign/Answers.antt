use Rattle.std.proofs.Common.{refl, sym, None}
use Rattle.program_text.proofs.TokenReads.{sign_read, sign_barred}
use Rattle.program_text.proofs.assignments.expect_sign.Goals as goal

pub returns-then-is_sign-clause-goes : goal.returns-then-is_sign-clause-goes
returns-then-is_sign-clause-goes c = λ next build s. sign_read c.args.sign (λ c. None) next build s
    c.args.cursor c.requires (sym c.if-is_sign.ensures) refl c.next.result c.next.ensures.tokens

pub returns-else-is_sign-clause-goes : goal.returns-else-is_sign-clause-goes
returns-else-is_sign-clause-goes c = λ next build s.
    rw c.syntax_fault.ensures (sign_barred c.args.sign (λ c. None) next build s c.args.cursor
    (sym c.if-is_sign.ensures))
