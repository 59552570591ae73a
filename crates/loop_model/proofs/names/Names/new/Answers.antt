use Rattle.std.proofs.Common.{arith}
use Rattle.loop_model.proofs.NameLaws.{all-taken}
use Rattle.loop_model.proofs.names.Names.new.Goals as goal

pub returns-clause-fault : goal.returns-clause-fault
returns-clause-fault c = all-taken c.loop-name.names c.args.list.now.items c.loop-name.name-index
    (omega arith) _ c.loop-name.invariant.same
