use Rattle.std.proofs.Common.{length, arith}
use Rattle.solvable.proofs.Walks.{no_start}
use Rattle.solvable.proofs.cycle.start.Goals as goal

pub returns-clause-none : goal.returns-clause-none
returns-clause-none c =
    no_start (length c.args.walks.now.items) c.args.strong.now.items c.args.walks.now.items
    c.requires.strong
    (λ x y l. c.loop-first.invariant x y (omega (arith, l)))
