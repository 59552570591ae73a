use Rattle.poly_text.proofs.PartSteps.{exponent_read, exponent_past, exponent_large, exponent_barred}
use Rattle.poly_text.proofs.sums.exponent.Goals as goal

pub returns-then-value-gt-MOST_EXPONENT-clause-reads :
    goal.returns-then-value-gt-MOST_EXPONENT-clause-reads
returns-then-value-gt-MOST_EXPONENT-clause-reads c =
    λ s. exponent_past s c.args.cursor c.in-Number.value c.in-Number.is
    c.if-value-gt-MOST_EXPONENT.true

pub returns-else-value-gt-MOST_EXPONENT-clause-reads :
    goal.returns-else-value-gt-MOST_EXPONENT-clause-reads
returns-else-value-gt-MOST_EXPONENT-clause-reads c =
    λ s. exponent_read s c.args.cursor c.in-Number.value c.in-Number.is
    c.if-value-gt-MOST_EXPONENT.false c.next.result c.next.ensures.tokens

pub returns-in-Large-clause-reads : goal.returns-in-Large-clause-reads
returns-in-Large-clause-reads c = λ s. exponent_large s c.args.cursor c.in-Large.is

pub returns-in_default : goal.returns-in_default
returns-in_default c = record {
  reads = λ s. exponent_barred s c.args.cursor c.in_default.not-Number
      c.in_default.not-Large;
  falls = tt;
}
