use Rattle.std.proofs.Common.{ap, ◌∙◌, ◌+◌, arith}
use Rattle.monos.proofs.LaneSteps.{degree_none, degree_more}
use Rattle.monos.proofs.lanes.+degree_in.Goals as goal

pub returns-then-count-eq0-clause-degree : goal.returns-then-count-eq0-clause-degree
returns-then-count-eq0-clause-degree t c = degree_none c.args.room c.args.count c.args.word
    c.if-count-eq0.true

pub returns-clause-degree : goal.returns-clause-degree
returns-clause-degree t c = ap (λ k. k + c.degree_in.result) c.lowest_bits.ensures
    ∙ degree_more c.args.room c.args.count c.args.word c.degree_in.result
    (omega (arith, c.if-count-eq0.false))
    c.degree_in.ensures.degree
