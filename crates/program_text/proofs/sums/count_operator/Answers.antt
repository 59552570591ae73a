use Rattle.program_text.proofs.PartSteps.{operator_read, operator_past}
use Rattle.program_text.proofs.sums.count_operator.Goals as goal

pub returns-then-operators-ge-MOST_OPERATORS-clause-goes :
    goal.returns-then-operators-ge-MOST_OPERATORS-clause-goes
returns-then-operators-ge-MOST_OPERATORS-clause-goes c = λ a ds b known is.
    operator_past a (record { operators = c.args.operators; divisors = ds }) c.args.cursor b known
    is c.if-operators-ge-MOST_OPERATORS.true

pub returns-clause-goes : goal.returns-clause-goes
returns-clause-goes c = λ a ds b known is.
    operator_read a (record { operators = c.args.operators; divisors = ds }) c.args.cursor b known
    is
    c.if-operators-ge-MOST_OPERATORS.false c.next.result c.next.ensures.tokens
