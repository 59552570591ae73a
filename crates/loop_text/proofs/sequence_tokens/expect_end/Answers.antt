use Rattle.std.proofs.Common.{ap}
use Rattle.poly_text.specs.Lexemes.{is_end_of}
use Rattle.poly_text.specs.NextToken.{seen_lexeme}
use Rattle.loop_text.proofs.SequenceTokenReads.{end_read, end_barred, not_end}
use Rattle.loop_text.proofs.sequence_tokens.expect_end.Goals as goal

pub returns-in-End-clause-ok : goal.returns-in-End-clause-ok
returns-in-End-clause-ok c =
    λ s. end_read s c.args.cursor (ap (λ l. is_end_of (seen_lexeme l)) c.in-End.is)

pub returns-in_default-clause-err : goal.returns-in_default-clause-err
returns-in_default-clause-err c =
    λ s. rw c.syntax_fault.ensures
    (end_barred s c.args.cursor (not_end c.args.cursor.token.lexeme c.in_default.not-End))
