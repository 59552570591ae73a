use Rattle.monos.proofs.ShortWords.{guards_low, guards_high}
use Rattle.monos.proofs.lanes.guards_of.Goals as goal

pub returns-then-arity-le8 : goal.returns-then-arity-le8
returns-then-arity-le8 c = guards_low c.args.arity c.if-arity-le8.true

pub returns-else-arity-le8 : goal.returns-else-arity-le8
returns-else-arity-le8 c = guards_high c.args.arity c.if-arity-le8.false
