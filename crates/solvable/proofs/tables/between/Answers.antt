use Rattle.std.proofs.Common.{length, arith}
use Rattle.solvable.proofs.Rows.{none_between}
use Rattle.solvable.proofs.tables.between.Goals as goal

pub returns-clause-none : goal.returns-clause-none
returns-clause-none c =
    none_between (length c.args.rest.now.items) c.args.first.now.items c.args.rest.now.items
    c.args.from c.args.to c.requires.rest
    (λ d l. c.loop-c.invariant d (omega (arith, l)))
