use Rattle.std.proofs.Common.{refl, arith}
use Rattle.program_text.specs.Sums.{sum_language, divisor_token}
use Rattle.program_text.specs.Telling.{reading}
use Rattle.program_text.specs.Reads.{around, state_in}
use Rattle.program_text.specs.declared.lexemes.Lexeme.TheVariants as code_lexeme
use Rattle.program_text.proofs.Paths.{IsFault}
use Rattle.program_text.proofs.CursorReads.{at_token}
use Rattle.program_text.proofs.PartSteps.{divisor_read, divisor_zero, divisor_large, divisor_name, divisor_refused, divisor_barred}
use Rattle.program_text.proofs.sums.SumReader.divisor.Goals as goal

pub returns-in-Ok-clause-reads : goal.returns-in-Ok-clause-reads
returns-in-Ok-clause-reads c = λ n v few.
    divisor_name (state_in (around c.args.self.now c.args.depth v) n)
    c.args.cursor c.in-Name.word c.in-Name.is c.in-Ok.ensures.free

pub returns-in-Err-clause-reads : goal.returns-in-Err-clause-reads
returns-in-Err-clause-reads c = λ n v few.
    divisor_refused (state_in (around c.args.self.now c.args.depth v) n)
    c.args.cursor c.in-Name.word c.in-Name.is c.in-Err.error c.in-Err.ensures.err

pub returns-then-value-eq0-clause-reads : goal.returns-then-value-eq0-clause-reads
returns-then-value-eq0-clause-reads c = λ n v few.
    divisor_zero (state_in (around c.args.self.now c.args.depth v) n)
    c.args.cursor c.in-Number.value c.in-Number.is (omega arith)

pub returns-else-value-eq0-clause-reads : goal.returns-else-value-eq0-clause-reads
returns-else-value-eq0-clause-reads c = λ n v few.
    divisor_read (state_in (around c.args.self.now c.args.depth v) n)
    c.args.cursor c.in-Number.value c.in-Number.is (omega arith) c.next.result
    c.next.ensures.tokens

pub returns-in-Large-clause-reads : goal.returns-in-Large-clause-reads
returns-in-Large-clause-reads c = λ n v few.
    divisor_large (state_in (around c.args.self.now c.args.depth v) n)
    c.args.cursor c.in-Large.is

pub returns-in-Sign-clause-reads : goal.returns-in-Sign-clause-reads
returns-in-Sign-clause-reads c = λ n v few.
    let a = around c.args.self.now c.args.depth v in
    at_token c.args.cursor (λ ts. IsFault c.no_divisor.result (reading sum_language divisor_token
    (state_in a n) ts)) (code_lexeme.Sign c.in-Sign.byte) c.in-Sign.is
    (λ ts. c.no_divisor.ensures a n ts refl few)

pub returns-in_default-clause-reads : goal.returns-in_default-clause-reads
returns-in_default-clause-reads c = λ n v few.
    divisor_barred (state_in (around c.args.self.now c.args.depth v) n)
    c.args.cursor c.in_default.not-Name c.in_default.not-Number c.in_default.not-Large
    c.in_default.not-Sign
