use Rattle.std.proofs.Common.{Err, ap}
use Rattle.task_lists.proofs.LessValue.{value_less_is, nothing_shared}
use Rattle.task_lists.proofs.starts.less_value.Goals as goal

pub returns-in-Ok-clause-difference : goal.returns-in-Ok-clause-difference
returns-in-Ok-clause-difference c =
    value_less_is _ c.args.value.now c.in_ok-variable.variable c.requires.index
    c.arity.ensures.arity _ c.in_ok-variable.ensures.variable c.in_ok-opposite.ensures.opposite
    c.in-Ok.difference c.in-Ok.ensures.sum

pub unreachable-requires : goal.unreachable-requires
unreachable-requires c =
    nothing_shared _ c.args.value.now c.in_ok-variable.variable c.requires.index
    c.arity.ensures.arity _ c.in_ok-variable.ensures.variable c.in_ok-opposite.ensures.opposite
    c.requires.other (c.in-Err-Wide.ensures.shared (ap Err c.in-Err-Wide.field-0-is))
